-- The texts of a turn's answers. Texts are lists of ASCII bytes, and numbers stand in them in decimal.
use Rattle.std.specs.Prelude.{ℕ, ◌+◌, Bool, List, [], ◌∷◌, ◌++◌, length, map, codes, decimal, if◌then◌else◌}
use Rattle.std.specs.List.{join_with_byte}
use Rattle.nav_types.specs.declared.cells.Cell.{Cell}
use Rattle.posts.specs.declared.edits.EditReply.{EditReply}
use Rattle.posts.specs.declared.edits.EditReply.TheVariants as edit
use Rattle.posts.specs.declared.edits.Refusal.{Refusal}
use Rattle.posts.specs.declared.edits.Refusal.TheVariants.{BadShape, DuplicateId, StoreFull, UnknownId, UnknownClass, StartOutside, GoalOutside}
use Rattle.posts.specs.declared.replies.Tallies.{Tallies}
use Rattle.posts.specs.declared.replies.Answer.{Answer}
use Rattle.posts.specs.declared.replies.Answer.TheVariants.{Refused, Nowhere, Path, Region}
use Rattle.posts.specs.declared.replies.PathAnswer.{PathAnswer}
use Rattle.posts.specs.declared.replies.RegionAnswer.{RegionAnswer}
use Rattle.posts.specs.declared.replies.Reply.{Reply}
use Rattle.posts.specs.declared.replies.Reply.TheVariants.{Edit as Edited, Answer as Answered}
use Rattle.posts.specs.declared.replies.TurnReplies.{TurnReplies}

-- the words with one space (32) between them, and a newline (10)
abbrev pub line_of : List (List ℕ) → List ℕ
line_of words = join_with_byte 32 words ++ 10 ∷ []

-- the centre of a navcell, in navcells: `2.5,0.5` for the third navcell of the southern border
abbrev pub waypoint_text : Cell → List ℕ
waypoint_text cell = decimal cell.i ++ (codes ".5," ++ (decimal cell.j ++ codes ".5"))

-- the word for why a post is refused
abbrev pub refusal_word : Refusal → List ℕ
refusal_word BadShape = codes "bad-shape"
refusal_word DuplicateId = codes "duplicate-id"
refusal_word StoreFull = codes "store-full"
refusal_word UnknownId = codes "unknown-id"
refusal_word UnknownClass = codes "unknown-class"
refusal_word StartOutside = codes "start-outside"
refusal_word GoalOutside = codes "goal-outside"

-- the word for where a path ends: near the goal, or at a goal cell
abbrev pub end_word : Bool → List ℕ
end_word near = if near then codes "near" else codes "goal"

-- a path: its first and its last cell by column and row, where it ends, its cost, how many waypoints it has, and these
abbrev pub path_words : PathAnswer → List (List ℕ)
path_words path = codes "path" ∷ decimal path.start.i ∷ decimal path.start.j ∷ decimal path.end.i ∷ decimal path.end.j
    ∷ end_word path.near ∷ decimal path.cost.0 ∷ decimal (length path.waypoints) ∷ map waypoint_text path.waypoints

-- a region: the column and the row of its chunk, its number in the chunk, and its area's number
abbrev pub region_words : RegionAnswer → List (List ℕ)
region_words found = codes "region" ∷ decimal found.ci ∷ decimal found.cj ∷ decimal found.region ∷ decimal found.area ∷ []

-- a post that is refused
abbrev pub refused_words : Refusal → List (List ℕ)
refused_words refusal = codes "refused" ∷ refusal_word refusal ∷ []

-- what the reply to an edit says
abbrev pub edit_words : EditReply → List (List ℕ)
edit_words (edit.Added id) = codes "added" ∷ decimal id ∷ []
edit_words (edit.Removed id) = codes "removed" ∷ decimal id ∷ []
edit_words (edit.Moved id) = codes "moved" ∷ decimal id ∷ []
edit_words (edit.Refused refusal) = refused_words refusal

-- what the answer to a request says
abbrev pub answer_words : Answer → List (List ℕ)
answer_words (Refused refusal) = refused_words refusal
answer_words Nowhere = codes "nowhere" ∷ []
answer_words (Path path) = path_words path
answer_words (Region found) = region_words found

-- what a reply says
abbrev pub reply_words : Reply → List (List ℕ)
reply_words (Edited reply) = edit_words reply
reply_words (Answered answer) = answer_words answer

-- the line of a reply: the caller's number, that of the post among the caller's posts of the turn, and what it says
unfoldable pub reply_line : ℕ → ℕ → Reply → List ℕ
reply_line caller post reply = line_of (decimal caller ∷ decimal post ∷ reply_words reply)

-- the lines of one caller's replies, of which the first answers the post of this number
abbrev pub reply_lines : ℕ → ℕ → List Reply → List ℕ
reply_lines caller post [] = []
reply_lines caller post (reply ∷ replies) = reply_line caller post reply ++ reply_lines caller (post + 1) replies

-- the lines of the replies to callers, of whom the first has this number; a caller's posts are numbered from 0
abbrev pub caller_lines : ℕ → List (List Reply) → List ℕ
caller_lines caller [] = []
caller_lines caller (replies ∷ rest) = reply_lines caller 0 replies ++ caller_lines (caller + 1) rest

-- the turn line: the turn's number, the numbers of regions, region edges and areas after the turn, and the number of
-- pairs of chunk and class that it changed
unfoldable pub turn_line : ℕ → Tallies → ℕ → List ℕ
turn_line turn tallies relabelled = line_of (codes "turn" ∷ decimal turn ∷ codes "regions" ∷ decimal tallies.regions
    ∷ codes "edges" ∷ decimal tallies.edges ∷ codes "areas" ∷ decimal tallies.areas ∷ codes "relabelled" ∷ decimal relabelled ∷ [])

-- the text of a turn: its turn line, and then the lines of the replies to caller 0, to caller 1 and so on
abbrev pub turn_text : ℕ → TurnReplies → List ℕ
turn_text turn told = turn_line turn told.tallies told.relabelled ++ caller_lines 0 told.replies

-- the line that names a bad line of a script by its number
unfoldable pub bad_line_text : ℕ → List ℕ
bad_line_text number = line_of (codes "bad" ∷ codes "line" ∷ decimal number ∷ [])
