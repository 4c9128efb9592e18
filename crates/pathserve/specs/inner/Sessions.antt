-- The driver of a session.
use Rattle.std.specs.Prelude.{ℕ, ◌≡◌, ◌≤◌, ◌<◌, false, List, All, sum_by, Option, Some, None}
use Rattle.nav_types.specs.declared.limits.TheConstants.{MAX_STAGED_POSTS}
use Rattle.posts.specs.declared.posts.Post.{Post}
use Rattle.posts.specs.Posts.{post_count}
use Rattle.path_service.specs.Callers.{CallerState, EndedState}
use Rattle.path_service.specs.Services.{DriverState, started_on}
use Rattle.pathserve.specs.Serving.{HasPost}
use Rattle.pathserve.specs.inner.Works.{AllEndWith, HaveAllPosted}

-- a driver as its service starts
abbrev pub IsAtStart : DriverState → Type 0
IsAtStart d = d ≡ started_on d.machine.map d.callers

-- so many posts are staged
abbrev pub Stages : ℕ → Option (List (List Post)) → Type 0
Stages count None = count ≡ 0
Stages count (Some turn) = (count ≡ post_count turn) × ((0 < count) × (count ≤ MAX_STAGED_POSTS))

-- A driver that began so, while no turn runs: turns with so many posts in all are delivered, each with a post, and so many
-- posts are staged.
pub record HasComeTo (start d : DriverState) (delivered next : ℕ) : Type 0 where
  pub on_map : d.machine.map ≡ start.machine.map
  pub callers : d.callers ≡ start.callers
  pub sound : d.failed ≡ false
  pub idle : d.machine.running ≡ None
  pub staged : Stages next d.machine.staged
  pub some : All HasPost d.machine.done
  pub count : delivered ≡ sum_by post_count d.machine.done

-- so many posts at least are delivered
pub record HasServed (start d : DriverState) (posts : ℕ) : Type 0 where
  pub delivered : ℕ
  pub next : ℕ
  pub enough : posts ≤ delivered
  pub now : HasComeTo start d delivered next

-- All callers have ended, after posts out of their lists, and as many as there are in all are delivered. Each has
-- collected as many replies as were sent to it.
pub record IsDriven (start d : DriverState) (posts : List (List Post)) (ended : List EndedState) : Type 0 where
  pub served : HasServed start d (post_count posts)
  pub callers : List CallerState
  pub posted : HaveAllPosted start.callers posts callers
  pub collected : AllEndWith d.sent callers ended
