-- What holds of each state that the machine reaches.
use Rattle.std.specs.Prelude.{ℕ, ◌≡◌, ◌≤◌, Option, None, Some, List, [], ◌∷◌, ◌++◌, IfSome, length, take, slice_index, slice_index_or}
use Rattle.posts.specs.declared.posts.Post.{Post}
use Rattle.posts.specs.declared.posts.Request.{Request}
use Rattle.posts.specs.declared.replies.Answer.{Answer}
use Rattle.posts.specs.declared.replies.Reply.{Reply}
use Rattle.posts.specs.Maps.{Map}
use Rattle.posts.specs.Posts.{jobs}
use Rattle.posts.specs.Callers.{of_caller, list_of}
use Rattle.turn_core.specs.Solving.{IsAnswerTo}
use Rattle.turn_core.specs.Words.{Standing, bare}
use Rattle.turn_core.specs.Turns.{after_turn, OneThread}
use Rattle.path_service.specs.machine.States.{State, Run, stands_after_done}

-- the running turn, where there is one
abbrev pub running_turns : Option Run → List (List (List Post))
running_turns None = []
running_turns (Some run) = run.turn ∷ []

-- the staged turn, where there is one
abbrev pub staged_turns : Option (List (List Post)) → List (List (List Post))
staged_turns None = []
staged_turns (Some turn) = turn ∷ []

-- the turns that are done, the running turn and the staged turn
abbrev pub all_turns : State → List (List (List Post))
all_turns s = s.done ++ running_turns s.running ++ staged_turns s.staged

-- each turn has one list for each caller
abbrev pub HaveLists : ℕ → List (List (List Post)) → Type 0
HaveLists callers [] = Unit {0}
HaveLists callers (turn ∷ turns) = (length turn ≡ callers) × HaveLists callers turns

-- there is one item for each caller, and one list in each turn
pub record IsWide (s : State) : Type 0 where
  pub posted : length s.posted ≡ s.map.callers
  pub taken : length s.taken ≡ s.map.callers
  pub replies : length s.replies ≡ s.map.callers
  pub collected : length s.collected ≡ s.map.callers
  pub turns : HaveLists s.map.callers (all_turns s)

-- there is one place for each job, and each answer is one to the job in its place
abbrev pub AreAnswers : Map → Standing → List Request → List (Option Answer) → Type 0
AreAnswers m final [] [] = Unit {0}
AreAnswers m final [] (answer ∷ answers) = ⊥
AreAnswers m final (request ∷ rest) [] = ⊥
AreAnswers m final (request ∷ rest) (answer ∷ answers) = IfSome answer (IsAnswerTo m final request) × AreAnswers m final rest answers

-- what holds of a running turn, where `before` stands before it
pub record IsRunning (m : Map) (before : Standing) (run : Run) : Type 0 where
  pub answers : AreAnswers m (after_turn m before run.turn) (jobs run.turn) run.answers
  pub claimed : run.claimed ≤ length (jobs run.turn)
  pub unclaimed : (job : ℕ) → run.claimed ≤ job → slice_index_or run.answers job None ≡ None

-- what holds of the running turn, where there is one
abbrev pub WhileRunning : Map → Standing → Option Run → Type 0
WhileRunning m before None = Unit {0}
WhileRunning m before (Some run) = IsRunning m before run

-- the replies to each caller are those of one thread to the turns that are done, turn after turn
pub record HasReplies (m : Map) (done : List (List (List Post))) (replies : List (List Reply)) : Type 0 where
  pub all : List (List (List Reply))
  pub one_thread : OneThread m bare done all
  pub each : (caller : ℕ) → list_of replies caller ≡ of_caller caller all

-- What holds of each state that the machine reaches: of each caller, its posts in all turns are the first of its posts,
-- as many as are taken; its replies are those of one thread to the turns that are done; and it collected no more than
-- these. The answers of the running turn are answers to its claimed jobs on what stands after its edits.
pub record Facts (s : State) : Type 0 where
  pub wide : IsWide s
  pub posts : (caller : ℕ) → of_caller caller (all_turns s) ≡ take (slice_index s.taken caller) (list_of s.posted caller)
  pub taken : (caller : ℕ) → slice_index s.taken caller ≤ length (list_of s.posted caller)
  pub replies : HasReplies s.map s.done s.replies
  pub running : WhileRunning s.map (stands_after_done s) s.running
  pub collected : (caller : ℕ) → slice_index s.collected caller ≤ length (list_of s.replies caller)
