-- Callers as a clause sees them.
use Rattle.std.specs.Prelude.{ℕ, ◌≡◌, ◌+◌, List, [], ◌∷◌, Some, slice_get}
use Rattle.posts.specs.declared.posts.Post.{Post}
use Rattle.posts.specs.declared.replies.Reply.{Reply}
use Rattle.request_lanes.specs.Ends.{LaneId}

-- which caller of which service: its number, and the lanes of its posts and of the replies to it
pub record CallerId : Type 0 where
  pub number : ℕ
  pub posts : LaneId
  pub replies : LaneId

-- a caller, all that it posted and all replies that it collected. It was told that at least so many replies were sent
pub record CallerState : Type 0 where
  pub id : CallerId
  pub posted : List Post
  pub collected : List Reply
  pub told : ℕ

-- a caller that posts and collects nothing more
pub record EndedState : Type 0 where
  pub id : CallerId
  pub posted : List Post
  pub collected : List Reply

-- who a caller is, and who an ended one is
abbrev pub caller_id : CallerState → CallerId
caller_id caller = caller.id

abbrev pub ended_id : EndedState → CallerId
ended_id ended = ended.id

-- a caller that has done nothing yet
abbrev pub fresh : CallerId → CallerState
fresh id = record { id = id; posted = []; collected = []; told = 0 }

-- the callers are numbered from this number on
abbrev pub AreNumbered : ℕ → List CallerId → Type 0
AreNumbered number [] = Unit {0}
AreNumbered number (id ∷ ids) = (id.number ≡ number) × AreNumbered (number + 1) ids

-- the caller of a number has this lane for its posts
abbrev pub HasPostLane : List CallerId → ℕ → LaneId → Type 0
HasPostLane ids caller lane = (id : CallerId) × ((slice_get ids caller ≡ Some id) × (id.posts ≡ lane))

-- the caller of a number has this lane for the replies to it
abbrev pub HasReplyLane : List CallerId → ℕ → LaneId → Type 0
HasReplyLane ids caller lane = (id : CallerId) × ((slice_get ids caller ≡ Some id) × (id.replies ≡ lane))
