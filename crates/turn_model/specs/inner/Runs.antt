-- What the code holds of running and of delivered turns.
use Rattle.std.specs.Prelude.{ℕ, ◌≡◌, ◌+◌, ◌<◌, ◌≤◌, Option, None, Some, List, [], ◌∷◌, flat_map, length, map}
use Rattle.std.specs.Prelude.{slice_get, slice_index}
use Rattle.std.specs.Prelude.{slice_index_or, slice_set, take}
use Rattle.posts.specs.declared.posts.Post.{Post}
use Rattle.posts.specs.declared.posts.Request.{Request}
use Rattle.posts.specs.declared.replies.Answer.{Answer}
use Rattle.posts.specs.declared.replies.Reply.{Reply}
use Rattle.posts.specs.Posts.{jobs}
use Rattle.posts.specs.Callers.{list_of}
use Rattle.grid_versions.specs.Versions.{map_state}
use Rattle.turn_core.specs.Words.{MapState}
use Rattle.turn_model.specs.declared.machines.running.RunningTurn.{RunningTurn}
use Rattle.turn_model.specs.declared.machines.delivered.DeliveredTurn.{DeliveredTurn}
use Rattle.turn_model.specs.declared.machines.delivered.ReplyPlace.{ReplyPlace}
use Rattle.turn_core.specs.Solving.{IsAnswerTo}
use Rattle.turn_core.specs.ReadyTurns.{Ready, after_edits_of}
use Rattle.path_service.specs.machine.States.{Run}
use Rattle.path_service.specs.machine.Effects.{joined_up, begun}

-- the running turn that is held, as one of a state
abbrev pub run_of : RunningTurn → Run
run_of held = record { turn = held.ready.turn; claimed = held.claimed; answers = held.answers.items }

-- the running turn that is held, where there is one, as one of a state
abbrev pub option_run_of : Option RunningTurn → Option Run
option_run_of None = None
option_run_of (Some held) = Some (run_of held)

-- the turn that is held ready, where there is one, as the staged turn of a state
abbrev pub option_posts_of : Option RunningTurn → Option (List (List Post))
option_posts_of None = None
option_posts_of (Some held) = Some held.ready.turn

-- the version on which the next turn stands: that of the running turn, where there is one
abbrev pub version_for_next : MapState → Option RunningTurn → MapState
version_for_next version None = version
version_for_next version (Some held) = map_state held.ready.map (after_edits_of held.ready)

-- the posts of a caller in the turn that is held, where there is one
abbrev pub posts_held : Option RunningTurn → ℕ → List Post
posts_held None caller = []
posts_held (Some held) caller = list_of held.ready.turn caller

-- the answers in the turn that is held, where there is one
abbrev pub answers_held : Option RunningTurn → List (Option Answer)
answers_held None = []
answers_held (Some held) = held.answers.items

-- the running turn that is held, where there is one, with one job more claimed
abbrev pub with_claim : Option RunningTurn → Option RunningTurn
with_claim None = None
with_claim (Some held) = Some (record held { claimed = held.claimed + 1 })

-- the turns that are held as delivered
abbrev pub posts_in : List DeliveredTurn → List (List (List Post))
posts_in delivered = map (λ held. held.posts) delivered

-- the lists of each caller, followed by the replies to it in each delivered turn
abbrev pub gathered : List (List Reply) → List DeliveredTurn → List (List Reply)
gathered lists [] = lists
gathered lists (held ∷ delivered) = gathered (joined_up lists held.replies) delivered

-- the replies to a caller in delivered turns, one after another
abbrev pub replies_to : ℕ → List DeliveredTurn → List Reply
replies_to caller delivered = flat_map (λ held. slice_index_or held.replies caller []) delivered

-- the place of the first reply in the first turn
abbrev pub beginning : ReplyPlace
beginning = record { turn = 0; place = 0 }

-- a caller that has collected so many replies has all those in the turns before a place, and those before it in its turn
pub record HasCome (delivered : List DeliveredTurn) (caller count : ℕ) (at : ReplyPlace) : Type 0 where
  pub turn : at.turn ≤ length delivered
  pub replies : count ≡ length (replies_to caller (take at.turn delivered)) + at.place

-- each caller has come to its place with the number of replies that it has collected
pub record HaveCome (delivered : List DeliveredTurn) (collected : List ℕ) (places : List ReplyPlace) : Type 0 where
  pub wide : length places ≡ length collected
  pub each : (caller : ℕ) → HasCome delivered caller (slice_index collected caller) (slice_index_or places caller beginning)

-- the turn that is held is ready on a version
pub record IsHeldOn (version : MapState) (held : RunningTurn) : Type 0 where
  pub map : held.ready.map ≡ version.map
  pub before : held.ready.before ≡ version.standing

-- what is held of a turn that is ready to run on a version: no job is claimed, and none is answered
pub record IsReadyOn (version : MapState) (held : RunningTurn) : Type 0 where
  pub held_on : IsHeldOn version held
  pub begins : run_of held ≡ begun held.ready.turn

-- a job that is held is not claimed
abbrev pub HasUnclaimed : Option RunningTurn → Type 0
HasUnclaimed None = Unit {0}
HasUnclaimed (Some held) = held.claimed < length (jobs held.ready.turn)

-- a turn with such a job is held
abbrev pub HasJob : Option RunningTurn → ℕ → Type 0
HasJob None job = ⊥
HasJob (Some held) job = job < length (jobs held.ready.turn)

-- a turn with a place for the answer to the job is held
abbrev pub HasPlace : Option RunningTurn → ℕ → Type 0
HasPlace None job = ⊥
HasPlace (Some held) job = job < length held.answers.items

-- the answer is one to the request once the edits of the turn are made
abbrev pub AnswersAfter : Ready → Option Request → Answer → Type 0
AnswersAfter ready None answer = ⊥
AnswersAfter ready (Some request) answer = IsAnswerTo ready.map (after_edits_of ready) request answer

-- the answer is one to that job of the turn that is held
abbrev pub AnswersHeld : Option RunningTurn → ℕ → Answer → Type 0
AnswersHeld None job answer = ⊥
AnswersHeld (Some held) job answer = AnswersAfter held.ready (slice_get (jobs held.ready.turn) job) answer

-- the answer is put in the place of its job, and all else stays
pub record PutsIn (old new : RunningTurn) (job : ℕ) (answer : Answer) : Type 0 where
  pub ready : new.ready ≡ old.ready
  pub claimed : new.claimed ≡ old.claimed
  pub answers : new.answers.items ≡ slice_set old.answers.items job (Some answer)

-- the same where a turn is held
abbrev pub PutsAnswer : Option RunningTurn → Option RunningTurn → ℕ → Answer → Type 0
PutsAnswer None new job answer = ⊥
PutsAnswer (Some old) None job answer = ⊥
PutsAnswer (Some old) (Some new) job answer = PutsIn old new job answer
