-- Which events of the machine are enabled, and why one is not.
use Rattle.std.specs.Prelude.{ℕ, ◌+◌, ◌-◌, Bool, true, false, Option, None, Some, List, [], ◌∷◌, length, drop, nat_lt, nat_le, ◌==◌, slice_index, slice_index_or}
use Rattle.posts.specs.declared.posts.Post.{Post}
use Rattle.posts.specs.declared.replies.Answer.{Answer}
use Rattle.posts.specs.Posts.{jobs}
use Rattle.posts.specs.Callers.{list_of}
use Rattle.path_service.specs.declared.events.Event.{Event}
use Rattle.path_service.specs.declared.events.Event.TheVariants.{Post as Posting, Stage, Start, Claim, Finish, Deliver, Collect}
use Rattle.path_service.specs.declared.events.Why.{Why}
use Rattle.path_service.specs.declared.events.Why.TheVariants.{Callers, Staged, Posted, NoneStaged, Running, NoneRunning, AllClaimed, Claimed, Answered, Unclaimed, Unanswered, Collected}
use Rattle.path_service.specs.machine.States.{State, Run}

-- no cause where the condition holds, else the given one
abbrev pub unless : Bool → Why → Option Why
unless true why = None
unless false why = Some why

-- the first cause, where there is one, else the second
abbrev pub or_else : Option Why → Option Why → Option Why
or_else None second = second
or_else (Some why) second = Some why

-- 1 where there is a turn
abbrev pub counted : {A : Type 0} → Option A → ℕ
counted {A} None = 0
counted {A} (Some turn) = 1

-- the number of the turn that was staged last, or 0 where none was
abbrev pub last_turn : State → ℕ
last_turn s = length s.done + counted s.running + counted s.staged

-- the number of the running turn
abbrev pub running_turn : State → ℕ
running_turn s = length s.done + 1

-- there is no caller of the number
abbrev pub why_no_caller : ℕ → ℕ → Option Why
why_no_caller callers caller = unless (nat_lt caller callers) (Callers callers)

-- there is not one number for each caller
abbrev pub why_not_each : ℕ → List ℕ → Option Why
why_not_each callers takes = unless (length takes == callers) (Callers callers)

-- a turn is staged
abbrev pub why_staged : ℕ → Option (List (List Post)) → Option Why
why_staged last None = None
why_staged last (Some turn) = Some (Staged last)

-- the first item, or 0
abbrev pub first : List ℕ → ℕ
first [] = 0
first (n ∷ ns) = n

-- The first caller, from the given number on, that is to have more posts taken than it has left: `posted` are its posts,
-- `taken` how many of them are taken, and `takes` how many are to be taken now.
abbrev pub why_few : ℕ → List (List Post) → List ℕ → List ℕ → Option Why
why_few caller [] taken takes = None
why_few caller (posts ∷ posted) taken takes =
    or_else
    (unless (nat_le (first takes) (length posts - first taken)) (Posted caller (length posts - first taken)))
    (why_few (caller + 1) posted (drop 1 taken) (drop 1 takes))

-- no turn is staged
abbrev pub why_none_staged : ℕ → Option (List (List Post)) → Option Why
why_none_staged last None = Some (NoneStaged last)
why_none_staged last (Some turn) = None

-- a turn runs
abbrev pub why_running : ℕ → Option Run → Option Why
why_running number None = None
why_running number (Some run) = Some (Running number)

-- no turn runs, or it has no job that is not claimed
abbrev pub why_no_claim : ℕ → Option Run → Option Why
why_no_claim last None = Some (NoneRunning last)
why_no_claim last (Some run) = unless (nat_lt run.claimed (length (jobs run.turn))) (AllClaimed (length (jobs run.turn)))

-- the job is answered
abbrev pub why_answered : ℕ → Option Answer → Option Why
why_answered job None = None
why_answered job (Some answer) = Some (Answered job)

-- no turn runs, or the job is not claimed, or it is answered
abbrev pub why_no_finish : ℕ → ℕ → Option Run → Option Why
why_no_finish job last None = Some (NoneRunning last)
why_no_finish job last (Some run) =
    or_else (unless (nat_lt job run.claimed) (Claimed run.claimed)) (why_answered job (slice_index_or run.answers job None))

-- the least job, from the given number on, that is not answered
abbrev pub why_unanswered : ℕ → List (Option Answer) → Option Why
why_unanswered job [] = None
why_unanswered job (None ∷ answers) = Some (Unanswered job)
why_unanswered job (Some answer ∷ answers) = why_unanswered (job + 1) answers

-- no turn runs, or a job is not claimed, or one is not answered
abbrev pub why_no_delivery : ℕ → Option Run → Option Why
why_no_delivery last None = Some (NoneRunning last)
why_no_delivery last (Some run) =
    or_else (unless (nat_le (length (jobs run.turn)) run.claimed) (Unclaimed run.claimed)) (why_unanswered 0 run.answers)

-- all of so many replies are collected
abbrev pub why_collected : ℕ → ℕ → Option Why
why_collected count replies = unless (nat_lt count replies) (Collected count)

-- Why the event is not enabled in the state: the first cause that holds, with the value that shows it. None where the
-- event is enabled.
abbrev pub why_not : State → Event → Option Why
why_not s (Posting caller post) = why_no_caller s.map.callers caller
why_not s (Stage takes) =
    or_else (why_staged (last_turn s) s.staged)
    (or_else (why_not_each s.map.callers takes) (why_few 0 s.posted s.taken takes))
why_not s Start = or_else (why_none_staged (last_turn s) s.staged) (why_running (running_turn s) s.running)
why_not s Claim = why_no_claim (last_turn s) s.running
why_not s (Finish job) = why_no_finish job (last_turn s) s.running
why_not s Deliver = why_no_delivery (last_turn s) s.running
why_not s (Collect caller) =
    or_else (why_no_caller s.map.callers caller)
    (why_collected (slice_index s.collected caller) (length (list_of s.replies caller)))
