-- The summary of a run: two lines on the replies of all its turns.
use Rattle.std.specs.Prelude.{ℕ, ◌<◌, ◌-◌, ◌^◌, Bool, true, false, not, List, [], ◌∷◌, ◌++◌, length, flat_map, count_by, sum_by, slice_get, codes, decimal}
use Rattle.std.specs.Option.{option_map_or}
use Rattle.posts.specs.declared.replies.Tallies.{Tallies}
use Rattle.posts.specs.declared.edits.EditReply.TheVariants as edit
use Rattle.posts.specs.declared.replies.Answer.TheVariants as answer
use Rattle.posts.specs.declared.replies.Reply.{Reply}
use Rattle.posts.specs.declared.replies.Reply.TheVariants.{Edit as Edited, Answer as Answered}
use Rattle.posts.specs.declared.replies.TurnReplies.{TurnReplies}
use Rattle.answer_text.specs.Answers.{line_of}

-- an obstruction was added
abbrev pub is_added : Reply → Bool
is_added (Edited (edit.Added id)) = true
is_added other = false

-- an obstruction was removed
abbrev pub is_removed : Reply → Bool
is_removed (Edited (edit.Removed id)) = true
is_removed other = false

-- the post was refused
abbrev pub is_refused : Reply → Bool
is_refused (Edited (edit.Refused refusal)) = true
is_refused (Answered (answer.Refused refusal)) = true
is_refused other = false

-- no cell is passable for the class of the path
abbrev pub is_nowhere : Reply → Bool
is_nowhere (Answered answer.Nowhere) = true
is_nowhere other = false

-- a path that ends at a goal cell
abbrev pub is_at_goal : Reply → Bool
is_at_goal (Answered (answer.Path path)) = not path.near
is_at_goal other = false

-- a path that ends near its goal
abbrev pub is_near_goal : Reply → Bool
is_near_goal (Answered (answer.Path path)) = path.near
is_near_goal other = false

-- the cost of a path, 65536 for each straight step; another reply costs nothing
abbrev pub path_cost : Reply → ℕ
path_cost (Answered (answer.Path path)) = path.cost.0
path_cost other = 0

-- how many waypoints a reply has
abbrev pub waypoint_count : Reply → ℕ
waypoint_count (Answered (answer.Path path)) = length path.waypoints
waypoint_count other = 0

-- the replies to callers, one caller after another
abbrev pub turn_replies : List (List Reply) → List Reply
turn_replies callers = flat_map (λ replies. replies) callers

-- the replies of turns, one turn after another
abbrev pub all_replies : List TurnReplies → List Reply
all_replies all = flat_map (λ told. turn_replies told.replies) all

-- the numbers of regions, region edges and areas after the last turn, 0 where there is no turn
abbrev pub last_tallies : List TurnReplies → Tallies
last_tallies all = option_map_or (λ told. told.tallies) (slice_get all (length all - 1)) (record { regions = 0; edges = 0; areas = 0 })

-- the summary's first line: how many turns and replies there are, how many of the replies are of each kind, what the
-- paths cost together, and how many waypoints they have together
unfoldable pub totals_line : ℕ → List Reply → List ℕ
totals_line turns replies = line_of (codes "summary" ∷ codes "turns" ∷ decimal turns ∷ codes "posts" ∷ decimal (length replies)
    ∷ codes "added" ∷ decimal (count_by is_added replies) ∷ codes "removed" ∷ decimal (count_by is_removed replies)
    ∷ codes "refused" ∷ decimal (count_by is_refused replies) ∷ codes "goal" ∷ decimal (count_by is_at_goal replies)
    ∷ codes "near" ∷ decimal (count_by is_near_goal replies) ∷ codes "nowhere" ∷ decimal (count_by is_nowhere replies)
    ∷ codes "cost" ∷ decimal (sum_by path_cost replies) ∷ codes "corners" ∷ decimal (sum_by waypoint_count replies) ∷ [])

-- the summary's second line
unfoldable pub last_line : Tallies → List ℕ
last_line tallies = line_of (codes "last" ∷ codes "regions" ∷ decimal tallies.regions ∷ codes "edges" ∷ decimal tallies.edges
    ∷ codes "areas" ∷ decimal tallies.areas ∷ [])

-- the summary of the turns of a run
abbrev pub summary_text : List TurnReplies → List ℕ
summary_text all = totals_line (length all) (all_replies all) ++ last_line (last_tallies all)

-- there are fewer than 2^32 replies in all
abbrev pub HasFewReplies : List TurnReplies → Type 0
HasFewReplies all = length (all_replies all) < 2 ^ 32

-- the costs of the paths add up to less than 2^64
abbrev pub HasCountableCosts : List TurnReplies → Type 0
HasCountableCosts all = sum_by path_cost (all_replies all) < 2 ^ 64

-- the numbers of waypoints of the paths add up to less than 2^64
abbrev pub HasCountableWaypoints : List TurnReplies → Type 0
HasCountableWaypoints all = sum_by waypoint_count (all_replies all) < 2 ^ 64
