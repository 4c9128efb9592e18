-- Requests that are answered at once within a greatest cost.
use Rattle.std.specs.Prelude.{ℕ, ◌≡◌, List, [], ◌∷◌, Result, Ok, Err, Option, Some, None}
use Rattle.posts.specs.declared.posts.Post.TheVariants.{Ask}
use Rattle.posts.specs.declared.posts.Request.{Request}
use Rattle.posts.specs.declared.replies.Answer.{Answer}
use Rattle.posts.specs.declared.replies.Reply.{Reply}
use Rattle.posts.specs.declared.replies.Reply.TheVariants.{Answer as Answered}
use Rattle.grid_versions.specs.Versions.{MapState}
use Rattle.turn_core.specs.Within.{IsAnswerWithin}
use Rattle.flat_posts.specs.declared.cells.FlatCell.{FlatCell}
use Rattle.flat_posts.specs.declared.posted.FlatPost.{FlatPost}
use Rattle.flat_posts.specs.declared.replied.FlatReply.{FlatReply}
use Rattle.flat_posts.specs.declared.reply_kinds.TheConstants.{TOO_FAR}
use Rattle.flat_posts.specs.Pages.{IsPage}
use Rattle.flat_posts.specs.Posts.{IsPost}
use Rattle.flat_posts.specs.Replies.{bare_reply, flat_answer, waypoints_of}
use Rattle.pathserve_c.specs.declared.statuses.PostFault.{PostFault}
use Rattle.pathserve_c.specs.declared.statuses.PostFault.TheVariants as fault
use Rattle.pathserve_c.specs.declared.states.State.{State}
use Rattle.pathserve_c.specs.declared.states.State.TheVariants.{Text, Structs, View, Finder}
use Rattle.pathserve_c.specs.Finds.{IsUnwritten}
use Rattle.pathserve_c.specs.Statuses.{refusal, status_of_posts}

-- the reply to a request of a caller: its answer, or *too far*
abbrev pub reply_within : ℕ → Option Answer → FlatReply
reply_within caller None = bare_reply TOO_FAR caller 0
reply_within caller (Some answer) = flat_answer caller 0 0 answer

-- the reply whose waypoints are told, where there is one
abbrev pub told_within : Option Answer → List Reply
told_within None = []
told_within (Some answer) = Answered answer ∷ []

-- The post is a request of a caller of the map, and the reply tells what it is answered on what stands within the greatest
-- cost. The first waypoints of a path stand at the head of the buffer.
pub record FindsWithin (version : MapState) (post : FlatPost) (most : ℕ) (reply : FlatReply) (before after : List FlatCell) : Type 0
  where
    pub caller : ℕ
    pub request : Request
    pub answer : Option Answer
    pub asks : IsPost version.map post caller (Ask request)
    pub answers : IsAnswerWithin version.map version.standing request most answer
    pub told : reply ≡ reply_within caller answer
    pub count : ℕ
    pub waypoints : IsPage 0 (waypoints_of (told_within answer)) before after count

-- what an answer says of a post that was asked on a version: it refuses where there was no memory, or the post is no request
abbrev pub FindsWithinAs : MapState → FlatPost → ℕ → (old new : FlatReply) → (before after : List FlatCell)
    → Result (Unit {0}) PostFault → Type 0
FindsWithinAs version post most old new before after (Ok done) = FindsWithin version post most new before after
FindsWithinAs version post most old new before after (Err fault.BadValue) = IsUnwritten old new before after
    × ((caller : ℕ) (request : Request) → IsPost version.map post caller (Ask request) → ⊥)
FindsWithinAs version post most old new before after (Err fault.NoMemory) = IsUnwritten old new before after

-- a handle that holds something else refuses, and nothing is written
abbrev pub IsRefusedBy : Option State → (old new : FlatReply) → (before after : List FlatCell) → ℕ → Type 0
IsRefusedBy state old new before after status = (status ≡ refusal state) × IsUnwritten old new before after

-- the same of what a handle shows; anything else than a view refuses
abbrev pub IsFoundWithin : Option State → FlatPost → ℕ → (old new : FlatReply) → (before after : List FlatCell) → ℕ → Type 0
IsFoundWithin None post most old new before after status = IsRefusedBy None old new before after status
IsFoundWithin (Some (Text text)) post most old new before after status =
    IsRefusedBy (Some (Text text)) old new before after status
IsFoundWithin (Some (Structs structs)) post most old new before after status =
    IsRefusedBy (Some (Structs structs)) old new before after status
IsFoundWithin (Some (Finder finder)) post most old new before after status =
    IsRefusedBy (Some (Finder finder)) old new before after status
IsFoundWithin (Some (View version)) post most old new before after status = (answer : Result (Unit {0}) PostFault)
    × ((status ≡ status_of_posts answer) × FindsWithinAs version post most old new before after answer)

-- a finder answers a post on what a handle shows; anything else than a finder refuses
abbrev pub IsFoundWithinBy : Option State → Option State → FlatPost → ℕ → (old new : FlatReply) → (before after : List FlatCell)
    → ℕ → Type 0
IsFoundWithinBy (Some (Finder finder)) seen post most old new before after status =
    IsFoundWithin seen post most old new before after status
IsFoundWithinBy None seen post most old new before after status = IsRefusedBy None old new before after status
IsFoundWithinBy (Some (Text text)) seen post most old new before after status =
    IsRefusedBy (Some (Text text)) old new before after status
IsFoundWithinBy (Some (Structs structs)) seen post most old new before after status =
    IsRefusedBy (Some (Structs structs)) old new before after status
IsFoundWithinBy (Some (View version)) seen post most old new before after status =
    IsRefusedBy (Some (View version)) old new before after status
