-- What is made of the posts that callers have on their lanes.
use Rattle.std.specs.Prelude.{ℕ, ◌≡◌, ◌<◌, ◌≤◌, Option, None, Some, Result, Ok, Err, List, [], IfOk, length, replicate}
use Rattle.nav_types.specs.declared.limits.TheConstants.{MAX_STAGED_POSTS}
use Rattle.nav_types.specs.declared.sequences.NoMemory.{NoMemory}
use Rattle.posts.specs.declared.posts.Post.{Post}
use Rattle.posts.specs.Maps.{Map}
use Rattle.posts.specs.Posts.{post_count}
use Rattle.turn_core.specs.Words.{Standing}
use Rattle.turn_core.specs.ReadyTurns.{Ready}
use Rattle.path_service.specs.declared.channels.Channel.{Channel}
use Rattle.path_service.specs.declared.intakes.TurnIntake.{TurnIntake}
use Rattle.path_service.specs.inner.Zips.{zipped, AllPaired}
use Rattle.path_service.specs.inner.Channels.{gained, joins, PortHasLooked, HasRoom}

-- what becomes of the pending posts: all are in the turn, which is ready, or where there is none they stay
abbrev pub Becomes : Map → Standing → List (List Post) → List (List Post) → Option Ready → Result ℕ NoMemory → Type 0
Becomes m s all_pending new None (Ok count) = (new ≡ all_pending) × ((count ≡ 0) × (post_count all_pending ≡ 0))
Becomes m s all_pending new None (Err refused) = new ≡ all_pending
Becomes m s all_pending new (Some ready) (Ok count) =
    (new ≡ replicate (length all_pending) []) × ((ready ≡ record { map = m; before = s; turn = all_pending }) × ((count ≡ post_count all_pending) × (0 < count)))
Becomes m s all_pending new (Some ready) (Err refused) = ⊥

-- Posts were taken off the lanes of channels, behind the pending ones, on a map and what stands on it.
pub record HasTakenIn (m : Map) (s : Standing) (channels : List Channel) (all_pending : List (List Post)) (intake : TurnIntake) : Type 0 where
  pub got : List (List Post)
  pub wide : length got ≡ length channels
  pub gains : intake.channels.items ≡ zipped gained channels got
  pub room : AllPaired HasRoom channels got
  pub few : post_count (zipped joins all_pending got) ≤ MAX_STAGED_POSTS
  pub becomes : Becomes m s (zipped joins all_pending got) intake.all_pending.items intake.staged intake.count
  pub looked : IfOk intake.count (λ count. count < MAX_STAGED_POSTS → AllPaired PortHasLooked channels got)
