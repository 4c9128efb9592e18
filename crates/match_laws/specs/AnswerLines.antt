-- The lines of the text of a turn, as a client has them that splits it at newlines.
use Rattle.std.specs.Prelude.{ℕ, ◌≡◌, ◌+◌, if◌then◌else◌, List, [], ◌∷◌, ◌++◌, replicate, codes, decimal}
use Rattle.posts.specs.declared.notes.Report.{Report}
use Rattle.posts.specs.declared.posts.Post.{Post}
use Rattle.posts.specs.declared.replies.Answer.{Answer}
use Rattle.posts.specs.declared.replies.Answer.TheVariants.{Refused, Nowhere, Path, Region}
use Rattle.posts.specs.declared.replies.Reply.{Reply}
use Rattle.posts.specs.declared.replies.Reply.TheVariants.{Edit as Edited, Answer as Answered}
use Rattle.posts.specs.Posts.{post_count}
use Rattle.turn_core.specs.Notes.{tells}
use Rattle.input_lines.specs.Lines.{full_lines, tail_of}
use Rattle.script_text.specs.Script.{whole_input, too_long, bad_line, Ends, at_place, stuck_by}

-- the line begins with `turn` and the turn's number, a space (32) behind each
abbrev pub IsTurnLine : ℕ → List ℕ → Type 0
IsTurnLine number line = (more : List ℕ) × (line ≡ codes "turn " ++ (decimal number ++ 32 ∷ more))

-- the line begins with the number of a caller and that of one of its posts in the turn, a space behind each
abbrev pub IsLineAt : ℕ × ℕ → List ℕ → Type 0
IsLineAt place line = (more : List ℕ) × (line ≡ decimal place.0 ++ 32 ∷ (decimal place.1 ++ 32 ∷ more))

-- a line at each of these places, in their order
abbrev pub AreLinesAt : List (ℕ × ℕ) → List (List ℕ) → Type 0
AreLinesAt [] [] = Unit {0}
AreLinesAt [] (line ∷ lines) = ⊥
AreLinesAt (place ∷ places) [] = ⊥
AreLinesAt (place ∷ places) (line ∷ lines) = IsLineAt place line × AreLinesAt places lines

-- how many lines a post has where nothing is told beside the answers
abbrev pub one_line : Post → ℕ
one_line post = 1

-- how many lines a path has under a report: one, and one more where something is told beside the answers
abbrev pub lines_of_path : Report → ℕ
lines_of_path report = if tells report then 2 else 1

-- how many lines an answer has
abbrev pub lines_of_answer : Report → Answer → ℕ
lines_of_answer report (Path path) = lines_of_path report
lines_of_answer report (Region region) = 1
lines_of_answer report (Refused refusal) = 1
lines_of_answer report Nowhere = 1

-- how many lines a reply has
abbrev pub lines_of_reply : Report → Reply → ℕ
lines_of_reply report (Edited reply) = 1
lines_of_reply report (Answered answer) = lines_of_answer report answer

-- The places of a caller's lines: the caller's number and that of the post, as often as there are lines for it. The first of
-- these has the given number.
abbrev pub places_from : {A : Type 0} → (A → ℕ) → ℕ → ℕ → List A → List (ℕ × ℕ)
places_from {A} lines caller post [] = []
places_from {A} lines caller post (x ∷ xs) = replicate (lines x) (caller, post) ++ places_from lines caller (post + 1) xs

-- the places of all lines, caller by caller, from one of this number on
abbrev pub places_of : {A : Type 0} → (A → ℕ) → ℕ → List (List A) → List (ℕ × ℕ)
places_of {A} lines caller [] = []
places_of {A} lines caller (xs ∷ rest) = places_from lines caller 0 xs ++ places_of lines (caller + 1) rest

-- how many lines a stop has: one names a bad line
abbrev pub lines_of_stop : Ends → ℕ
lines_of_stop (at_place p) = 0
lines_of_stop (stuck_by whole_input) = 0
lines_of_stop (stuck_by (too_long n)) = 0
lines_of_stop (stuck_by (bad_line n)) = 1

-- how many lines a turn has where nothing is told beside the answers: its own, and one for each post
abbrev pub lines_of_turn : List (List Post) → ℕ
lines_of_turn turn = post_count turn + 1

-- The text is whole lines: that of the turn of this number, and behind it one at each of these places.
pub record HasTurnLines (number : ℕ) (places : List (ℕ × ℕ)) (text : List ℕ) : Type 0 where
  pub first : List ℕ
  pub rest : List (List ℕ)
  pub lines : full_lines text ≡ first ∷ rest
  pub ended : tail_of text ≡ []
  pub turn : IsTurnLine number first
  pub posts : AreLinesAt places rest
