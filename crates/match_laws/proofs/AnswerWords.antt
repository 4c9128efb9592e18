-- The words of the lines of answers: their bytes are printed ones below `{`, so they have no space and no newline.
use Rattle.std.proofs.Common.{◌≡◌, ◌≢◌, ◌⊎◌, inl, inr, ℕ, zero, suc, ◌+◌, ◌/◌, ◌%◌, ◌<◌, ◌==◌, List, [], ◌∷◌, ◌++◌, length, map, Bool, true, false, not, cond, nat_lt, ◌&&◌, decimal, refl, ap, ◌∙◌, arith, lt-ltb}
use Rattle.std.specs.Prelude.{if◌then◌else◌, codes, Option, Some, None}
use Rattle.std.specs.Fmt.{digits, digits_onto, digit_glyph}
use Rattle.std.specs.List.{list_all, join_with_byte}
use Rattle.std.proofs.lemmas.Bool.{and_parts, and_from, eqb-false, ne_eqb, ltb-true, not-true}
use Rattle.std.proofs.lemmas.List.Elements.{All-nil, All-cons}
use Rattle.std.proofs.lemmas.List.Folds.{list_all-append}
use Rattle.nav_types.specs.declared.cells.Cell.{Cell}
use Rattle.nav_types.specs.declared.directions.Dir.{Dir}
use Rattle.nav_types.specs.declared.directions.Dir.TheVariants.{N, E, S, W, NE, SE, SW, NW}
use Rattle.posts.specs.declared.edits.EditReply.{EditReply}
use Rattle.posts.specs.declared.edits.EditReply.TheVariants as edit
use Rattle.posts.specs.declared.edits.Refusal.{Refusal}
use Rattle.posts.specs.declared.edits.Refusal.TheVariants.{BadShape, DuplicateId, StoreFull, UnknownId, UnknownClass, StartOutside, GoalOutside}
use Rattle.posts.specs.declared.notes.Note.{Note}
use Rattle.posts.specs.declared.notes.Note.TheVariants.{Nothing, Opened, Flow, Smoothed}
use Rattle.turn_core.specs.Notes.{says}
use Rattle.posts.specs.declared.replies.Answer.{Answer}
use Rattle.posts.specs.declared.replies.Answer.TheVariants.{Refused, Nowhere, Path, Region}
use Rattle.posts.specs.declared.replies.Reply.{Reply}
use Rattle.posts.specs.declared.replies.Reply.TheVariants.{Edit as Edited, Answer as Answered}
use Rattle.posts.specs.declared.replies.Tallies.{Tallies}
use Rattle.input_lines.specs.Lines.{IsPlain}
use Rattle.answer_text.specs.Answers.{line_of, waypoint_text, end_word, refused_words, edit_words, answer_words, reply_words}
use Rattle.answer_text.specs.Noted.{step_word, note_words, note_line, note_text}

-- a printed byte below `{` (123), so no space (32)
abbrev pub in_word : ℕ → Bool
in_word byte = nat_lt 32 byte && nat_lt byte 123

abbrev pub is_word : List ℕ → Bool
is_word text = list_all in_word text

abbrev pub are_words : List (List ℕ) → Bool
are_words words = list_all is_word words

-- ---- lines of words

module _ (p : ℕ → Bool) where
  pub all_in_both : (xs ys : List ℕ) → list_all p xs ≡ true → list_all p ys ≡ true → list_all p (xs ++ ys) ≡ true
  all_in_both xs ys h k = list_all-append p xs ys ∙ and_from (list_all p xs) (list_all p ys) h k

  module _ (space : p 32 ≡ true) (printed : (byte : ℕ) → in_word byte ≡ true → p byte ≡ true) where
    all_in_word : (word : List ℕ) → is_word word ≡ true → list_all p word ≡ true
    all_in_word [] h = refl
    all_in_word (byte ∷ word) h =
        let s = and_parts (in_word byte) (is_word word) h in
        and_from (p byte) (list_all p word) (printed byte s.0) (all_in_word word s.1)

    -- words with a space between them
    pub all_in_words : (words : List (List ℕ)) → are_words words ≡ true → list_all p (join_with_byte 32 words) ≡ true
    all_in_words [] h = refl
    all_in_words (word ∷ []) h = all_in_word word (and_parts (is_word word) true h).0
    all_in_words (word ∷ next ∷ words) h =
        let s = and_parts (is_word word) (are_words (next ∷ words)) h in
        all_in_both word (32 ∷ join_with_byte 32 (next ∷ words)) (all_in_word word s.0)
        (and_from (p 32) (list_all p (join_with_byte 32 (next ∷ words))) space (all_in_words (next ∷ words) s.1))

    -- and a newline (10) behind them
    pub all_in_line : p 10 ≡ true → (words : List (List ℕ)) → are_words words ≡ true → list_all p (line_of words) ≡ true
    all_in_line newline words h =
        all_in_both (join_with_byte 32 words) (10 ∷ []) (all_in_words words h) (and_from (p 10) true newline refl)

-- ---- lines without a newline inside

abbrev pub goes_on : ℕ → Bool
goes_on byte = not (byte == 10)

pub is_plain_text : (cs : List ℕ) → list_all goes_on cs ≡ true → IsPlain cs
is_plain_text [] h = All-nil (λ (byte : ℕ). byte ≢ 10)
is_plain_text (c ∷ cs) h =
    let s = and_parts (goes_on c) (list_all goes_on cs) h in
    All-cons (λ (byte : ℕ). byte ≢ 10) c cs (eqb-false c 10 (not-true (c == 10) s.0)) (is_plain_text cs s.1)

printed_goes_on : (byte : ℕ) → in_word byte ≡ true → goes_on byte ≡ true
printed_goes_on byte h =
    let low : 32 < byte = ltb-true 32 byte (and_parts (nat_lt 32 byte) (nat_lt byte 123) h).0 in
    ap not (ne_eqb byte 10 (λ e. omega (arith, e, low)))

pub plain_words : (words : List (List ℕ)) → are_words words ≡ true → IsPlain (join_with_byte 32 words)
plain_words words h = is_plain_text (join_with_byte 32 words) (all_in_words goes_on refl printed_goes_on words h)

-- ---- numbers

glyph_in_word : (d : ℕ) → d < 10 → in_word (digit_glyph false d) ≡ true
glyph_in_word d small =
    let e : nat_lt d 10 ≡ true = lt-ltb d 10 small in
    let low : nat_lt 32 (48 + d) ≡ true = lt-ltb 32 (48 + d) (omega arith) in
    let high : nat_lt (48 + d) 123 ≡ true = lt-ltb (48 + d) 123 (omega (arith, small)) in
    ap (λ b. in_word (cond b (48 + d) (87 + d))) e ∙ and_from (nat_lt 32 (48 + d)) (nat_lt (48 + d) 123) low high

onto_word : (k n : ℕ) (acc : List ℕ) → is_word acc ≡ true → is_word (digits_onto k 10 false n acc) ≡ true
onto_word zero n acc h = h
onto_word (suc k) n acc h =
    let d = digit_glyph false (n % 10) in
    let more : is_word (d ∷ acc) ≡ true = and_from (in_word d) (is_word acc) (glyph_in_word (n % 10) (omega arith)) h in
    by_last (n / 10 == 0) (d ∷ acc) (digits_onto k 10 false (n / 10) (d ∷ acc)) more (onto_word k (n / 10) (d ∷ acc) more)
  where
    by_last : (b : Bool) (xs ys : List ℕ) → is_word xs ≡ true → is_word ys ≡ true → is_word (cond b xs ys) ≡ true
    by_last true xs ys h k = h
    by_last false xs ys h k = k

decimal_word : (n : ℕ) → is_word (decimal n) ≡ true
unfolding digits
decimal_word n = onto_word 64 n [] refl

-- one word more in front
word_more : (word : List ℕ) (words : List (List ℕ)) → is_word word ≡ true → are_words words ≡ true → are_words (word ∷ words) ≡ true
word_more word words h k = and_from (is_word word) (are_words words) h k

number_more : (n : ℕ) (words : List (List ℕ)) → are_words words ≡ true → are_words (decimal n ∷ words) ≡ true
number_more n words k = word_more (decimal n) words (decimal_word n) k

-- ---- replies

refused_are : (refusal : Refusal) → are_words (refused_words refusal) ≡ true
refused_are BadShape = refl
refused_are DuplicateId = refl
refused_are StoreFull = refl
refused_are UnknownId = refl
refused_are UnknownClass = refl
refused_are StartOutside = refl
refused_are GoalOutside = refl

edit_are : (reply : EditReply) → are_words (edit_words reply) ≡ true
edit_are (edit.Added id) = number_more id [] refl
edit_are (edit.Removed id) = number_more id [] refl
edit_are (edit.Moved id) = number_more id [] refl
edit_are (edit.Refused refusal) = refused_are refusal

waypoint_word : (cell : Cell) → is_word (waypoint_text cell) ≡ true
waypoint_word cell =
    all_in_both in_word (decimal cell.i) (codes ".5," ++ (decimal cell.j ++ codes ".5")) (decimal_word cell.i)
    (all_in_both in_word (codes ".5,") (decimal cell.j ++ codes ".5") refl
    (all_in_both in_word (decimal cell.j) (codes ".5") (decimal_word cell.j) refl))

waypoints_are : (cells : List Cell) → are_words (map waypoint_text cells) ≡ true
waypoints_are [] = refl
waypoints_are (cell ∷ cells) = word_more (waypoint_text cell) (map waypoint_text cells) (waypoint_word cell) (waypoints_are cells)

end_is : (near : Bool) → is_word (end_word near) ≡ true
end_is true = refl
end_is false = refl

answer_are : (answer : Answer) → are_words (answer_words answer) ≡ true
answer_are (Refused refusal) = refused_are refusal
answer_are Nowhere = refl
answer_are (Path path) =
    let points = map waypoint_text path.waypoints in
    let counted = decimal (length path.waypoints) ∷ points in
    let costed = decimal path.cost.0 ∷ counted in
    let ended = end_word path.near ∷ costed in
    number_more path.start.i (decimal path.start.j ∷ decimal path.end.i ∷ decimal path.end.j ∷ ended)
    (number_more path.start.j (decimal path.end.i ∷ decimal path.end.j ∷ ended)
    (number_more path.end.i (decimal path.end.j ∷ ended)
    (number_more path.end.j ended
    (word_more (end_word path.near) costed (end_is path.near)
    (number_more path.cost.0 counted (number_more (length path.waypoints) points (waypoints_are path.waypoints)))))))
answer_are (Region found) =
    number_more found.ci (decimal found.cj ∷ decimal found.region ∷ decimal found.area ∷ [])
    (number_more found.cj (decimal found.region ∷ decimal found.area ∷ [])
    (number_more found.region (decimal found.area ∷ []) (number_more found.area [] refl)))

reply_are : (reply : Reply) → are_words (reply_words reply) ≡ true
reply_are (Edited reply) = edit_are reply
reply_are (Answered answer) = answer_are answer

-- behind the numbers of a caller and a post
pub placed_are : (caller post : ℕ) (words : List (List ℕ)) → are_words words ≡ true → are_words (decimal caller ∷ decimal post ∷ words) ≡ true
placed_are caller post words h = number_more caller (decimal post ∷ words) (number_more post words h)

pub reply_line_words : (caller post : ℕ) (reply : Reply) → are_words (decimal caller ∷ decimal post ∷ reply_words reply) ≡ true
reply_line_words caller post reply = placed_are caller post (reply_words reply) (reply_are reply)

-- ---- turn lines, notes, and bad lines

-- the words of a turn line
abbrev pub turn_words : ℕ → Tallies → ℕ → List (List ℕ)
turn_words turn tallies relabelled = codes "turn" ∷ decimal turn ∷ codes "regions" ∷ decimal tallies.regions ∷ codes "edges" ∷ decimal tallies.edges
    ∷ codes "areas" ∷ decimal tallies.areas ∷ codes "relabelled" ∷ decimal relabelled ∷ []

pub turn_line_words : (turn : ℕ) (tallies : Tallies) (relabelled : ℕ) → are_words (turn_words turn tallies relabelled) ≡ true
turn_line_words turn tallies relabelled =
    let last = codes "relabelled" ∷ decimal relabelled ∷ [] in
    let areas = codes "areas" ∷ decimal tallies.areas ∷ last in
    let edges = codes "edges" ∷ decimal tallies.edges ∷ areas in
    number_more turn (codes "regions" ∷ decimal tallies.regions ∷ edges)
    (number_more tallies.regions edges (number_more tallies.edges areas (number_more tallies.areas last (number_more relabelled [] refl))))

pub bad_line_words : (number : ℕ) → are_words (codes "bad" ∷ codes "line" ∷ decimal number ∷ []) ≡ true
bad_line_words number = number_more number [] refl

step_is : (step : Option Dir) → is_word (step_word step) ≡ true
step_is None = refl
step_is (Some N) = refl
step_is (Some E) = refl
step_is (Some S) = refl
step_is (Some W) = refl
step_is (Some NE) = refl
step_is (Some SE) = refl
step_is (Some SW) = refl
step_is (Some NW) = refl

note_are : (note : Note) → are_words (note_words note) ≡ true
note_are Nothing = refl
note_are (Opened opened) = number_more opened [] refl
note_are (Flow line) =
    let sums = decimal line.summary.cells ∷ decimal line.summary.farthest ∷ decimal line.summary.sum ∷ [] in
    word_more (step_word line.first) sums (step_is line.first)
    (number_more line.summary.cells (decimal line.summary.farthest ∷ decimal line.summary.sum ∷ [])
    (number_more line.summary.farthest (decimal line.summary.sum ∷ []) (number_more line.summary.sum [] refl)))
note_are (Smoothed points) = number_more (length points) (map waypoint_text points) (waypoints_are points)

pub note_line_words : (caller post : ℕ) (note : Note) → are_words (decimal caller ∷ decimal post ∷ note_words note) ≡ true
note_line_words caller post note = placed_are caller post (note_words note) (note_are note)

-- how many lines a note has
abbrev pub lines_of_note : Note → ℕ
lines_of_note Nothing = 0
lines_of_note (Opened opened) = 1
lines_of_note (Flow line) = 1
lines_of_note (Smoothed points) = 1

-- an answer has a line more where its note says something
pub lines_of_saying : (note : Note) → (if says note then 2 else 1) ≡ suc (lines_of_note note)
lines_of_saying Nothing = refl
lines_of_saying (Opened opened) = refl
lines_of_saying (Flow line) = refl
lines_of_saying (Smoothed points) = refl

-- the note has nothing to say, and so no line
pub record SaysNothing (caller post : ℕ) (note : Note) : Type 0 where
  pub none : lines_of_note note ≡ 0
  pub text : note_text caller post note ≡ []

-- the note has something to say, in one line
pub record SaysLine (caller post : ℕ) (note : Note) : Type 0 where
  pub word : List ℕ
  pub more : List (List ℕ)
  pub words : note_words note ≡ word ∷ more
  pub one : lines_of_note note ≡ 1
  pub text : note_text caller post note ≡ note_line caller post note

pub note_says : (caller post : ℕ) (note : Note) → SaysNothing caller post note ⊎ SaysLine caller post note
note_says caller post Nothing = inl (record { none = refl; text = refl })
note_says caller post (Opened opened) = inr (record { word = codes "opened"; more = decimal opened ∷ []; words = refl; one = refl; text = refl })
note_says caller post (Flow line) = inr (record {
  word = codes "flow";
  more = step_word line.first ∷ decimal line.summary.cells ∷ decimal line.summary.farthest ∷ decimal line.summary.sum ∷ [];
  words = refl;
  one = refl;
  text = refl;
})
note_says caller post (Smoothed points) =
    inr (record { word = codes "smooth"; more = decimal (length points) ∷ map waypoint_text points; words = refl; one = refl; text = refl })
