-- The status that each answer is told by.
use Rattle.std.specs.Prelude.{ℕ, Result, Ok, Err, Option, Some, None}
use Rattle.match_play.specs.declared.faults.MatchFault.{MatchFault}
use Rattle.match_play.specs.declared.faults.MatchFault.TheVariants as fault
use Rattle.pathserve_c.specs.declared.statuses.TheConstants.{DONE, BAD_LINE, NO_MEMORY, TOO_LONG, CLOSED, OTHER, ENDED, BAD_VALUE}
use Rattle.pathserve_c.specs.declared.statuses.PostFault.{PostFault}
use Rattle.pathserve_c.specs.declared.statuses.PostFault.TheVariants as post
use Rattle.pathserve_c.specs.declared.states.State.{State}

-- how far a match came
abbrev pub status_of : Result (Unit {0}) MatchFault → ℕ
status_of (Ok done) = DONE
status_of (Err (fault.BadLine n)) = BAD_LINE
status_of (Err (fault.TooLong n)) = TOO_LONG
status_of (Err fault.Ended) = ENDED
status_of (Err fault.NoMemory) = NO_MEMORY

-- whether posts were taken or answered
abbrev pub status_of_posts : Result (Unit {0}) PostFault → ℕ
status_of_posts (Ok done) = DONE
status_of_posts (Err post.BadValue) = BAD_VALUE
status_of_posts (Err post.NoMemory) = NO_MEMORY

-- why a handle refuses that does not hold what the call is for
abbrev pub refusal : Option State → ℕ
refusal None = CLOSED
refusal (Some state) = OTHER
