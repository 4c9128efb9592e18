-- Requests that are answered at once on what a view shows.
use Rattle.std.specs.Prelude.{ℕ, ◌≡◌, List, [], ◌∷◌, Result, Ok, Err, Option, Some, None}
use Rattle.posts.specs.declared.posts.Post.TheVariants.{Ask}
use Rattle.posts.specs.declared.posts.Request.{Request}
use Rattle.posts.specs.declared.replies.Answer.{Answer}
use Rattle.posts.specs.declared.replies.Reply.TheVariants.{Answer as Answered}
use Rattle.grid_versions.specs.Versions.{MapState}
use Rattle.turn_core.specs.Solving.{IsAnswerTo}
use Rattle.flat_posts.specs.declared.cells.FlatCell.{FlatCell}
use Rattle.flat_posts.specs.declared.posted.FlatPost.{FlatPost}
use Rattle.flat_posts.specs.declared.replied.FlatReply.{FlatReply}
use Rattle.flat_posts.specs.Pages.{IsPage}
use Rattle.flat_posts.specs.Posts.{IsPost}
use Rattle.flat_posts.specs.Replies.{flat_reply, turn_waypoints}
use Rattle.pathserve_c.specs.declared.statuses.PostFault.{PostFault}
use Rattle.pathserve_c.specs.declared.statuses.PostFault.TheVariants as fault
use Rattle.pathserve_c.specs.declared.states.State.{State}
use Rattle.pathserve_c.specs.declared.states.State.TheVariants.{Text, Structs, View, Finder}
use Rattle.pathserve_c.specs.Statuses.{refusal, status_of_posts}

-- The post is a request of a caller of the map, and the reply tells its answer on what stands. The first waypoints of a path
-- stand at the head of the buffer.
pub record Finds (version : MapState) (post : FlatPost) (reply : FlatReply) (before after : List FlatCell) : Type 0 where
  pub caller : ℕ
  pub request : Request
  pub answer : Answer
  pub asks : IsPost version.map post caller (Ask request)
  pub answers : IsAnswerTo version.map version.standing request answer
  pub told : reply ≡ flat_reply caller 0 0 (Answered answer)
  pub count : ℕ
  pub waypoints : IsPage 0 (turn_waypoints ((Answered answer ∷ []) ∷ [])) before after count

-- Nothing was written.
abbrev pub IsUnwritten : (old new : FlatReply) → (before after : List FlatCell) → Type 0
IsUnwritten old new before after = (new ≡ old) × (after ≡ before)

-- what an answer says of a post that was asked on a version: it refuses where there was no memory, or the post is no request
abbrev pub FindsAs : MapState → FlatPost → (old new : FlatReply) → (before after : List FlatCell) → Result (Unit {0}) PostFault → Type 0
FindsAs version post old new before after (Ok done) = Finds version post new before after
FindsAs version post old new before after (Err fault.BadValue) = IsUnwritten old new before after
    × ((caller : ℕ) (request : Request) → IsPost version.map post caller (Ask request) → ⊥)
FindsAs version post old new before after (Err fault.NoMemory) = IsUnwritten old new before after

-- the same of what a handle shows; anything else than a view refuses
abbrev pub IsFound : Option State → FlatPost → (old new : FlatReply) → (before after : List FlatCell) → ℕ → Type 0
IsFound None post old new before after status = (status ≡ refusal None) × IsUnwritten old new before after
IsFound (Some (Text text)) post old new before after status =
    (status ≡ refusal (Some (Text text))) × IsUnwritten old new before after
IsFound (Some (Structs structs)) post old new before after status =
    (status ≡ refusal (Some (Structs structs))) × IsUnwritten old new before after
IsFound (Some (Finder finder)) post old new before after status =
    (status ≡ refusal (Some (Finder finder))) × IsUnwritten old new before after
IsFound (Some (View version)) post old new before after status = (answer : Result (Unit {0}) PostFault)
    × ((status ≡ status_of_posts answer) × FindsAs version post old new before after answer)
