-- What each end keeps of its pass.
use Rattle.std.specs.Prelude.{◌≡◌, ℕ, true, length}
use Rattle.request_lanes.specs.declared.rule.Log.{Log}
use Rattle.request_lanes.specs.Ends.{LaneId, Posting, Taking, Posts, Closing}

abbrev pub lane_of : ℕ × ℕ → LaneId
lane_of queue = record { name = queue.0; life = queue.1 }

module _ {T : Type 0} where
  abbrev pub posting_end : ℕ × ℕ → Log T → Posting T
  posting_end queue v = record { lane = lane_of queue; posted = v.posted }

  abbrev pub taking_end : ℕ × ℕ → Log T → Taking T
  taking_end queue v = record { lane = lane_of queue; taken = v.taken; told = v.told }

  abbrev pub posts_known : ℕ × ℕ → Log T → Posts
  posts_known queue v = record { lane = lane_of queue; count = v.told }

  abbrev pub both_ends : Log T → Closing T
  both_ends v = record { posted = v.posted; taken = v.taken }

  -- it may post, and so many items were posted
  pub record MayPost (v : Log T) (count : ℕ) : Type 0 where
    pub may : v.posts ≡ true
    pub posted : count ≡ length v.posted

  -- it may take, and so many items were taken
  pub record MayTake (v : Log T) (count : ℕ) : Type 0 where
    pub may : v.takes ≡ true
    pub taken : count ≡ length v.taken
