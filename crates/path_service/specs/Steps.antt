-- What the calls of a driver are: runs of the turn machine.
use Rattle.std.specs.Prelude.{ℕ, zero, suc, ◌≡◌, ◌⊎◌, ◌<◌, ◌≤◌, true, Option, None, Some, List, [], ◌∷◌, ◌++◌, length, map, slice_index, IsSome, ◌↔◌}
use Rattle.nav_types.specs.declared.limits.TheConstants.{MAX_STAGED_POSTS}
use Rattle.posts.specs.declared.posts.Post.{Post}
use Rattle.posts.specs.declared.replies.Answer.{Answer}
use Rattle.posts.specs.declared.replies.Reply.{Reply}
use Rattle.posts.specs.Maps.{Map}
use Rattle.posts.specs.Posts.{post_count}
use Rattle.posts.specs.Callers.{list_of}
use Rattle.path_service.specs.declared.events.Event.{Event}
use Rattle.path_service.specs.declared.events.Event.TheVariants.{Stage, Start, Deliver}
use Rattle.turn_core.specs.Words.{Standing}
use Rattle.turn_core.specs.Turns.{after_turn, AreTurnReplies}
use Rattle.path_service.specs.machine.States.{State, Run, stands_after_done}
use Rattle.path_service.specs.machine.Effects.{IsStep, Reaches, begun, joined_up}
use Rattle.path_service.specs.machine.Arrival.{post_events, answering, answered_run, in_run}
use Rattle.path_service.specs.Services.{DriverState, in_hand}

-- the stage of a turn of so many posts: none where it has no post
abbrev pub staging : ℕ → List (List Post) → List Event
staging zero turn = []
staging (suc more) turn = Stage (map length turn) ∷ []

-- Posts were taken off the lanes, and are pending, behind those that were. Nothing is staged.
pub record HasReceived (old new : State) : Type 0 where
  pub got : List (List Post)
  pub wide : length got ≡ old.map.callers
  pub run : Reaches old (post_events 0 got) new
  pub pending : in_hand new ≡ joined_up (in_hand old) got
  pub staged : new.staged ≡ None

-- Posts were taken off the lanes, and behind the pending ones they are staged: so many posts in all, and none is left in
-- pending. Where the turn is not full, no post is left on a lane of which the driver was told (`told`, by caller).
pub record HasStaged (told : List ℕ) (old new : State) (count : ℕ) : Type 0 where
  pub got : List (List Post)
  pub wide : length got ≡ old.map.callers
  pub number : count ≡ post_count (joined_up (in_hand old) got)
  pub most : count ≤ MAX_STAGED_POSTS
  pub run : Reaches old (post_events 0 got ++ staging count (joined_up (in_hand old) got)) new
  pub all : (caller : ℕ) → list_of (in_hand new) caller ≡ []
  pub staged : IsSome new.staged ↔ (0 < count)
  pub turn : 0 < count → new.staged ≡ Some (joined_up (in_hand old) got)
  pub running : new.running ≡ old.running
  pub looked : count < MAX_STAGED_POSTS → (caller : ℕ) → slice_index told caller ≤ length (list_of new.posted caller)

-- The staged turn was started, its jobs were claimed and answered, and beside them the next turn was staged.
pub record HasStarted (told : List ℕ) (old new : State) (count : ℕ) : Type 0 where
  pub turn : List (List Post)
  pub staged : old.staged ≡ Some turn
  pub answers : List Answer
  pub run : Reaches old (answering turn) (in_run old (answered_run turn answers))
  pub next : HasStaged told (in_run old (answered_run turn answers)) new count

-- The staged turn was started, and there was no memory for its answers or for the next turn, whose posts are then in
-- pending.
pub record HasBrokenOff (told : List ℕ) (old new : State) : Type 0 where
  pub turn : List (List Post)
  pub staged : old.staged ≡ Some turn
  pub start : IsStep old Start None (in_run old (begun turn))
  pub next : ((count : ℕ) × HasStaged told (in_run old (begun turn)) new count) ⊎ HasReceived (in_run old (begun turn)) new

-- the replies of one thread to a running turn, caller by caller
abbrev pub AreRepliesTo : Map → Standing → Option Run → List (List Reply) → Type 0
AreRepliesTo m before None replies = ⊥
AreRepliesTo m before (Some run) replies = AreTurnReplies m (after_turn m before run.turn) before run.turn replies

-- the replies that are due for the running turn
abbrev pub AreDue : State → List (List Reply) → Type 0
AreDue s replies = AreRepliesTo s.map (stands_after_done s) s.running replies

-- each list begins the one in its place
abbrev pub BeginEach : List (List Reply) → List (List Reply) → Type 0
BeginEach parts lists = (caller : ℕ) → (rest : List Reply) × (list_of parts caller ++ rest ≡ list_of lists caller)

-- The running turn was delivered, and each caller was sent the replies that were due to it.
pub record HasDelivered (old new : DriverState) : Type 0 where
  pub step : IsStep old.machine Deliver None new.machine
  pub due : List (List Reply)
  pub are_due : AreDue old.machine due
  pub sent : new ≡ record old { machine = new.machine; sent = joined_up old.sent due }

-- The running turn was not delivered: each caller was sent the first of the replies that were due to it, and the driver
-- has failed.
pub record HasSentSome (old new : DriverState) : Type 0 where
  pub due : List (List Reply)
  pub are_due : AreDue old.machine due
  pub part : List (List Reply)
  pub begins : BeginEach part due
  pub sent : new ≡ record old { sent = joined_up old.sent part; failed = true }
