-- What calls of finders make of what handles hold.
use Rattle.std.specs.Prelude.{ℕ, ◌≡◌, List, All, Result, Ok, Err, Option, Some, None}
use Rattle.posts.specs.declared.replies.Reply.{Reply}
use Rattle.grid_versions.specs.Versions.{MapState}
use Rattle.flat_posts.specs.declared.cells.FlatCell.{FlatCell}
use Rattle.flat_posts.specs.declared.posted.FlatPost.{FlatPost}
use Rattle.flat_posts.specs.declared.replied.FlatReply.{FlatReply}
use Rattle.flat_posts.specs.Pages.{IsPage}
use Rattle.flat_posts.specs.Replies.{replies_to, waypoints_of}
use Rattle.pathserve_c.specs.declared.statuses.TheConstants.{OPEN}
use Rattle.pathserve_c.specs.declared.statuses.PostFault.{PostFault}
use Rattle.pathserve_c.specs.declared.statuses.PostFault.TheVariants as fault
use Rattle.pathserve_c.specs.declared.states.State.{State}
use Rattle.pathserve_c.specs.declared.states.State.TheVariants.{Text, Structs, View, Finder}
use Rattle.pathserve_c.specs.Answered.{AreAnswered, IsRequest}
use Rattle.pathserve_c.specs.Calls.{IsMade, IsRefused}
use Rattle.pathserve_c.specs.Finds.{IsFound, IsUnwritten}
use Rattle.pathserve_c.specs.Statuses.{refusal, status_of_posts}

-- a closed handle was opened for a finder
abbrev pub IsFinderOpened : Option State → Option State → ℕ → Type 0
IsFinderOpened (Some state) new status = IsRefused OPEN (Some state) new status
IsFinderOpened None new status = IsMade (λ made. made ≡ Finder tt) new status

-- ---- one post

-- a finder answers a post on what a handle shows; anything else than a finder refuses
abbrev pub IsFoundBy : Option State → Option State → FlatPost → (old new : FlatReply) → (before after : List FlatCell) → ℕ → Type 0
IsFoundBy (Some (Finder finder)) seen post old new before after status = IsFound seen post old new before after status
IsFoundBy None seen post old new before after status = (status ≡ refusal None) × IsUnwritten old new before after
IsFoundBy (Some (Text text)) seen post old new before after status =
    (status ≡ refusal (Some (Text text))) × IsUnwritten old new before after
IsFoundBy (Some (Structs structs)) seen post old new before after status =
    (status ≡ refusal (Some (Structs structs))) × IsUnwritten old new before after
IsFoundBy (Some (View version)) seen post old new before after status =
    (status ≡ refusal (Some (View version))) × IsUnwritten old new before after

-- ---- many posts

-- The replies tell the answers to the posts, each with its caller and its place, and the waypoints are those of all paths.
-- The first of them, as many as each buffer holds, stand at its head.
pub record FindsAll (version : MapState) (flats : List FlatPost) (old new : List FlatReply) (before after : List FlatCell) : Type 0 where
  pub replies : List Reply
  pub answered : AreAnswered version flats replies
  pub count : ℕ
  pub told : IsPage 0 (replies_to flats replies) old new count
  pub cells : ℕ
  pub waypoints : IsPage 0 (waypoints_of replies) before after cells

-- nothing was written
abbrev pub AreUnwritten : (old new : List FlatReply) → (before after : List FlatCell) → Type 0
AreUnwritten old new before after = (new ≡ old) × (after ≡ before)

-- what an answer says of posts that were asked on a version: it refuses where there was no memory, or one is no request
abbrev pub FindsAllAs : MapState → List FlatPost → (old new : List FlatReply) → (before after : List FlatCell)
    → Result (Unit {0}) PostFault → Type 0
FindsAllAs version flats old new before after (Ok done) = FindsAll version flats old new before after
FindsAllAs version flats old new before after (Err fault.BadValue) =
    AreUnwritten old new before after × (All (IsRequest version.map) flats → ⊥)
FindsAllAs version flats old new before after (Err fault.NoMemory) = AreUnwritten old new before after

-- the same of what a handle shows; anything else than a view refuses
abbrev pub AreFoundIn : Option State → List FlatPost → (old new : List FlatReply) → (before after : List FlatCell) → ℕ → Type 0
AreFoundIn None flats old new before after status = (status ≡ refusal None) × AreUnwritten old new before after
AreFoundIn (Some (Text text)) flats old new before after status =
    (status ≡ refusal (Some (Text text))) × AreUnwritten old new before after
AreFoundIn (Some (Structs structs)) flats old new before after status =
    (status ≡ refusal (Some (Structs structs))) × AreUnwritten old new before after
AreFoundIn (Some (Finder finder)) flats old new before after status =
    (status ≡ refusal (Some (Finder finder))) × AreUnwritten old new before after
AreFoundIn (Some (View version)) flats old new before after status = (answer : Result (Unit {0}) PostFault)
    × ((status ≡ status_of_posts answer) × FindsAllAs version flats old new before after answer)

-- the same by a finder; anything else than one refuses
abbrev pub AreFoundBy : Option State → Option State → List FlatPost → (old new : List FlatReply) → (before after : List FlatCell)
    → ℕ → Type 0
AreFoundBy (Some (Finder finder)) seen flats old new before after status = AreFoundIn seen flats old new before after status
AreFoundBy None seen flats old new before after status = (status ≡ refusal None) × AreUnwritten old new before after
AreFoundBy (Some (Text text)) seen flats old new before after status =
    (status ≡ refusal (Some (Text text))) × AreUnwritten old new before after
AreFoundBy (Some (Structs structs)) seen flats old new before after status =
    (status ≡ refusal (Some (Structs structs))) × AreUnwritten old new before after
AreFoundBy (Some (View version)) seen flats old new before after status =
    (status ≡ refusal (Some (View version))) × AreUnwritten old new before after
