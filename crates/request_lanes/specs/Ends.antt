-- What a clause sees of a lane: its two ends, and the whole that they come back to. Items are in the order in which
-- they were posted.
use Rattle.std.specs.Prelude.{◌≡◌, ℕ, List, ◌++◌}

-- which lane it is
pub record LaneId : Type 0 where
  pub name : ℕ
  pub life : ℕ

-- the end at which items are posted, and all that were
pub record Posting (T : Type 0) : Type 0 where
  pub lane : LaneId
  pub posted : List T

-- the end at which items are taken, and all that were. It was told that at least so many were posted
pub record Taking (T : Type 0) : Type 0 where
  pub lane : LaneId
  pub taken : List T
  pub told : ℕ

-- at least so many items were posted on the lane
pub record Posts : Type 0 where
  pub lane : LaneId
  pub count : ℕ

-- a lane on which nothing more is posted
pub record Closing (T : Type 0) : Type 0 where
  pub posted : List T
  pub taken : List T

-- what was taken, followed by what is left, is what was posted
abbrev pub Leaves : {T : Type 0} → Closing T → List T → Type 0
Leaves lane left = lane.posted ≡ lane.taken ++ left
