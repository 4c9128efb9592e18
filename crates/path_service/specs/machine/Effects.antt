-- What the events of the machine do, and runs of it.
use Rattle.std.specs.Prelude.{ℕ, ◌≡◌, ◌+◌, Option, None, Some, List, [], ◌∷◌, ◌++◌, drop, take, length, map, replicate, slice_get, slice_index, slice_set}
use Rattle.posts.specs.declared.posts.Post.{Post}
use Rattle.posts.specs.declared.posts.Request.{Request}
use Rattle.posts.specs.declared.replies.Answer.{Answer}
use Rattle.posts.specs.declared.replies.Answer.TheVariants.{Nowhere}
use Rattle.posts.specs.declared.replies.Reply.{Reply}
use Rattle.posts.specs.Posts.{jobs}
use Rattle.posts.specs.Callers.{list_of}
use Rattle.path_service.specs.declared.events.Event.{Event}
use Rattle.path_service.specs.declared.events.Event.TheVariants.{Post as Posting, Stage, Start, Claim, Finish, Deliver, Collect}
use Rattle.turn_core.specs.Solving.{IsAnswerTo}
use Rattle.turn_core.specs.Given.{given_turn}
use Rattle.path_service.specs.machine.States.{State, Run, stands_after_done, stands_in_run}
use Rattle.path_service.specs.machine.Table.{first, why_not}

-- the first list, or the empty one
abbrev pub first_list : {A : Type 0} → List (List A) → List A
first_list {A} [] = []
first_list {A} (xs ∷ lists) = xs

-- the next posts of each caller: of its posts, after those that are taken, as many as are to be taken now
abbrev pub next_posts : List (List Post) → List ℕ → List ℕ → List (List Post)
next_posts [] taken takes = []
next_posts (posts ∷ posted) taken takes =
    take (first takes) (drop (first taken) posts) ∷ next_posts posted (drop 1 taken) (drop 1 takes)

-- each number of the one list and that of the other in its place, added up
abbrev pub added_up : List ℕ → List ℕ → List ℕ
added_up [] more = more
added_up (n ∷ ns) more = (n + first more) ∷ added_up ns (drop 1 more)

-- each list of the one list, followed by that of the other in its place
abbrev pub joined_up : {A : Type 0} → List (List A) → List (List A) → List (List A)
joined_up {A} [] more = more
joined_up {A} (xs ∷ lists) more = (xs ++ first_list more) ∷ joined_up lists (drop 1 more)

-- a turn that begins to run: no job is claimed, and none is answered
abbrev pub begun : List (List Post) → Run
begun turn = record { turn = turn; claimed = 0; answers = replicate (length (jobs turn)) None }

-- the answers to all jobs, where each is answered
abbrev pub known : List (Option Answer) → List Answer
known [] = []
known (None ∷ answers) = Nowhere ∷ known answers
known (Some answer ∷ answers) = answer ∷ known answers

-- a caller posts
abbrev pub posted : State → ℕ → Post → State
posted s caller post = record s { posted = slice_set s.posted caller (list_of s.posted caller ++ post ∷ []) }

-- a turn is staged, and of each caller as many posts more are taken as the turn has
abbrev pub staged : State → List ℕ → State
staged s takes = record s {
  taken = added_up s.taken (map length (next_posts s.posted s.taken takes));
  staged = Some (next_posts s.posted s.taken takes);
}

-- the staged turn begins to run
abbrev pub started : State → Option (List (List Post)) → State
started s None = s
started s (Some turn) = record s { staged = None; running = Some (begun turn) }

-- the least job that is not claimed is claimed
abbrev pub claimed : State → Option Run → State
claimed s None = s
claimed s (Some run) = record s { running = Some (record run { claimed = run.claimed + 1 }) }

-- a job gets its answer
abbrev pub finished : State → ℕ → Answer → Option Run → State
finished s job answer None = s
finished s job answer (Some run) = record s { running = Some (record run { answers = slice_set run.answers job (Some answer) }) }

-- the running turn is done, and each caller gets the replies to its posts
abbrev pub delivered : State → Option Run → State
delivered s None = s
delivered s (Some run) = record s {
  running = None;
  done = s.done ++ run.turn ∷ [];
  replies = joined_up s.replies (given_turn s.map (stands_after_done s) run.turn (known run.answers));
}

-- a caller has collected one reply more
abbrev pub collected : State → ℕ → State
collected s caller = record s { collected = slice_set s.collected caller (slice_index s.collected caller + 1) }

-- the answer is one to that job of the running turn
abbrev pub AnswersJob : State → ℕ → Answer → Option Run → Type 0
AnswersJob s job answer None = ⊥
AnswersJob s job answer (Some run) =
    (request : Request) × ((slice_get (jobs run.turn) job ≡ Some request) × IsAnswerTo s.map (stands_in_run s run) request answer)

-- what an event does: the reply that it hands out, if it does, and the state that it leaves
abbrev pub Effect : State → Event → Option Reply → State → Type 0
Effect s (Posting caller post) handed new = (handed ≡ None) × (new ≡ posted s caller post)
Effect s (Stage takes) handed new = (handed ≡ None) × (new ≡ staged s takes)
Effect s Start handed new = (handed ≡ None) × (new ≡ started s s.staged)
Effect s Claim handed new = (handed ≡ None) × (new ≡ claimed s s.running)
Effect s (Finish job) handed new =
    (handed ≡ None) × ((answer : Answer) × (AnswersJob s job answer s.running × (new ≡ finished s job answer s.running)))
Effect s Deliver handed new = (handed ≡ None) × (new ≡ delivered s s.running)
Effect s (Collect caller) handed new =
    (handed ≡ slice_get (list_of s.replies caller) (slice_index s.collected caller)) × (new ≡ collected s caller)

-- the machine makes a step: the event is enabled and has its effect
pub record IsStep (old : State) (event : Event) (handed : Option Reply) (new : State) : Type 0 where
  pub enabled : why_not old event ≡ None
  pub effect : Effect old event handed new

-- the machine makes a step for each of the events, one after another, and hands out these replies
abbrev pub IsMachineRun : State → List Event → List (Option Reply) → State → Type 0
IsMachineRun old [] [] new = old ≡ new
IsMachineRun old [] (handed ∷ rest) new = ⊥
IsMachineRun old (event ∷ events) [] new = ⊥
IsMachineRun old (event ∷ events) (handed ∷ rest) new = (mid : State) × (IsStep old event handed mid × IsMachineRun mid events rest new)

-- the events lead from the one state to the other
abbrev pub Reaches : State → List Event → State → Type 0
Reaches old events new = (handed : List (Option Reply)) × IsMachineRun old events handed new

-- the event is one that hands out a reply
abbrev pub IsCollect : Event → Type 0
IsCollect (Posting caller post) = ⊥
IsCollect (Stage takes) = ⊥
IsCollect Start = ⊥
IsCollect Claim = ⊥
IsCollect (Finish job) = ⊥
IsCollect Deliver = ⊥
IsCollect (Collect caller) = Unit {0}

-- the event is one that takes no memory
abbrev pub TakesNoMemory : Event → Type 0
TakesNoMemory (Posting caller post) = ⊥
TakesNoMemory (Stage takes) = ⊥
TakesNoMemory Start = Unit {0}
TakesNoMemory Claim = Unit {0}
TakesNoMemory (Finish job) = ⊥
TakesNoMemory Deliver = ⊥
TakesNoMemory (Collect caller) = ⊥
