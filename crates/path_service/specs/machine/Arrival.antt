-- The events that bring the machine to a journal, and the state that they leave.
use Rattle.std.specs.Prelude.{ℕ, zero, suc, ◌≡◌, ◌+◌, ◌≤◌, None, Some, List, [], ◌∷◌, ◌++◌, length, map, replicate, slice_index}
use Rattle.posts.specs.declared.posts.Post.{Post}
use Rattle.posts.specs.declared.replies.Answer.{Answer}
use Rattle.posts.specs.declared.replies.Reply.{Reply}
use Rattle.posts.specs.Maps.{Map}
use Rattle.posts.specs.Posts.{jobs}
use Rattle.posts.specs.Callers.{of_caller, list_of}
use Rattle.path_service.specs.declared.events.Event.{Event}
use Rattle.path_service.specs.declared.events.Event.TheVariants.{Post as Posting, Stage, Start, Claim, Finish, Deliver, Collect}
use Rattle.path_service.specs.machine.States.{State, Run}
use Rattle.path_service.specs.machine.Facts.{HaveLists, all_turns}
use Rattle.path_service.specs.machine.Effects.{added_up, joined_up}

-- a caller posts these posts, one after another
abbrev pub posts_of : ℕ → List Post → List Event
posts_of caller posts = map (Posting caller) posts

-- each caller, from the given number on, posts its list
abbrev pub post_events : ℕ → List (List Post) → List Event
post_events caller [] = []
post_events caller (posts ∷ posted) = posts_of caller posts ++ post_events (caller + 1) posted

-- so many jobs, from the given number on, are finished in their order
abbrev pub finishes : ℕ → ℕ → List Event
finishes job zero = []
finishes job (suc count) = Finish job ∷ finishes (job + 1) count

-- the staged turn is started, claimed job by job and finished job by job
abbrev pub answering : List (List Post) → List Event
answering turn = Start ∷ replicate (length (jobs turn)) Claim ++ finishes 0 (length (jobs turn))

-- the turn is staged, answered and delivered
abbrev pub whole_turn : List (List Post) → List Event
whole_turn turn = Stage (map length turn) ∷ answering turn ++ Deliver ∷ []

-- the turns of a journal, one after another
abbrev pub turn_events : List (List (List Post)) → List Event
turn_events [] = []
turn_events (turn ∷ journal) = whole_turn turn ++ turn_events journal

-- each caller, from the given number on, collects as many replies as its number says
abbrev pub collect_events : ℕ → List ℕ → List Event
collect_events caller [] = []
collect_events caller (count ∷ counts) = replicate count (Collect caller) ++ collect_events (caller + 1) counts

-- all posts, caller by caller; then the turns of the journal; then the collects, caller by caller
abbrev pub arrival : List (List (List Post)) → List (List Post) → List ℕ → List Event
arrival journal posted counts = post_events 0 posted ++ turn_events journal ++ collect_events 0 counts

-- each caller's posts in all turns, and then in this one, are the first of its posts
abbrev pub CanStage : State → List (List Post) → Type 0
CanStage s turn = (caller : ℕ) → (rest : List Post) × ((of_caller caller (all_turns s) ++ list_of turn caller) ++ rest ≡ list_of s.posted caller)

-- a running turn whose jobs are all claimed and have these answers
abbrev pub answered_run : List (List Post) → List Answer → Run
answered_run turn answers = record { turn = turn; claimed = length (jobs turn); answers = map (λ (answer : Answer). Some answer) answers }

-- the state once the turn is staged
abbrev pub in_stage : State → List (List Post) → State
in_stage s turn = record s { taken = added_up s.taken (map length turn); staged = Some turn }

-- the state once the staged turn runs so
abbrev pub in_run : State → Run → State
in_run s run = record s { staged = None; running = Some run }

-- the state once the running turn is delivered with these replies
abbrev pub at_end : State → List (List Post) → List (List Reply) → State
at_end s turn replies = record s { running = None; done = s.done ++ turn ∷ []; replies = joined_up s.replies replies }

-- A journal on a map, a list of posts for each caller and a number for each caller, where each caller's posts in the
-- journal, turn after turn, are the first of its list, and its number is at most the number of these.
pub record CanArrive (m : Map) (journal : List (List (List Post))) (posted : List (List Post)) (counts : List ℕ) : Type 0 where
  pub turns : HaveLists m.callers journal
  pub lists : length posted ≡ m.callers
  pub numbers : length counts ≡ m.callers
  pub first : (caller : ℕ) → (rest : List Post) × (of_caller caller journal ++ rest ≡ list_of posted caller)
  pub few : (caller : ℕ) → slice_index counts caller ≤ length (of_caller caller journal)

-- the state has this map, these posted lists, done turns and collected numbers, as many posts taken as the journal holds, and the
-- replies of one thread to the journal; nothing is staged or running
pub record HasArrived (m : Map) (s : State) (journal : List (List (List Post))) (posted : List (List Post)) (counts : List ℕ) (all : List (List (List Reply))) : Type 0 where
  pub map : s.map ≡ m
  pub posted_lists : s.posted ≡ posted
  pub taken : (caller : ℕ) → slice_index s.taken caller ≡ length (of_caller caller journal)
  pub done : s.done ≡ journal
  pub replies : (caller : ℕ) → list_of s.replies caller ≡ of_caller caller all
  pub collected : s.collected ≡ counts
  pub staged : s.staged ≡ None
  pub running : s.running ≡ None
