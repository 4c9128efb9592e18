-- What numbers say, in plain words, and how a text comes to C.
use Rattle.std.specs.Prelude.{ℕ, ◌==◌, ◌++◌, List, if◌then◌else◌, codes, drop, length, nat_lt, take}
use Rattle.flat_posts.specs.declared.refusals.TheConstants.{BAD_SHAPE, DUPLICATE_ID, STORE_FULL, UNKNOWN_ID, UNKNOWN_CLASS, START_OUTSIDE, GOAL_OUTSIDE}
use Rattle.pathserve_c.specs.declared.checks.TheConstants.{WRONG_KIND, WRONG_CALLER, WRONG_CLASS, WRONG_GOAL, NOT_ZERO}
use Rattle.pathserve_c.specs.declared.statuses.TheConstants.{DONE, BAD_LINE, NO_MEMORY, TOO_LONG, CLOSED, OPEN, OTHER, ENDED, NO_MAP, BAD_VALUE, SMALL, PAST_LIMIT, NO_JOURNAL}

-- a buffer with a text at its head, or with as much of the text as it holds
abbrev pub text_in : List ℕ → List ℕ → List ℕ
text_in text buffer =
    if nat_lt (length buffer) (length text) then take (length buffer) text else text ++ drop (length text) buffer

-- what a status says
abbrev pub status_text : ℕ → List ℕ
status_text status =
    if status == DONE then codes "done" else (
    if status == BAD_LINE then codes "a line of the script is not valid" else (
    if status == NO_MEMORY then codes "out of memory" else (
    if status == TOO_LONG then codes "a line or the script is too long" else (
    if status == CLOSED then codes "the handle is closed" else (
    if status == OPEN then codes "the handle is open already" else (
    if status == OTHER then codes "the handle is of another kind" else (
    if status == ENDED then codes "the script has ended" else (
    if status == NO_MAP then codes "the map line has not been fed yet" else (
    if status == BAD_VALUE then codes "a value is no such kind, number or size, or an unused field is not 0" else (
    if status == SMALL then codes "the buffer is too small" else (
    if status == PAST_LIMIT then codes "more than the limit that was set" else (
    if status == NO_JOURNAL then codes "the match keeps no journal" else codes "no such status"))))))))))))

-- why a post is refused, by the word of the answers
abbrev pub refusal_text : ℕ → List ℕ
refusal_text why =
    if why == BAD_SHAPE then codes "bad-shape" else (
    if why == DUPLICATE_ID then codes "duplicate-id" else (
    if why == STORE_FULL then codes "store-full" else (
    if why == UNKNOWN_ID then codes "unknown-id" else (
    if why == UNKNOWN_CLASS then codes "unknown-class" else (
    if why == START_OUTSIDE then codes "start-outside" else (
    if why == GOAL_OUTSIDE then codes "goal-outside" else codes "no such refusal"))))))

-- what is wrong with a post that a match does not take
abbrev pub fault_text : ℕ → List ℕ
fault_text why =
    if why == WRONG_KIND then codes "an unknown kind of posts" else (
    if why == WRONG_CALLER then codes "the map has no such caller" else (
    if why == WRONG_CLASS then codes "the map has no such class" else (
    if why == WRONG_GOAL then codes "an unknown kind of goals" else (
    if why == NOT_ZERO then codes "an unused field is not 0" else codes "no such fault"))))
