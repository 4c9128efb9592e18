-- The lines of the text of a turn, and of an output text.
use Rattle.std.proofs.Common.{◌≡◌, ◌⊎◌, inl, inr, ℕ, suc, ◌+◌, List, [], ◌∷◌, ◌++◌, length, Bool, true, false, Option, Some, None, ℤ, map, refl, sym, ap, subst, ◌∙◌, arith, append_assoc, append-nil, decimal, replicate, length-append}
use Rattle.std.specs.Prelude.{if◌then◌else◌, codes, sum_by}
use Rattle.std.specs.List.{join_with_byte}
use Rattle.std.proofs.lemmas.List.Sums.{sum_by-cons}
use Rattle.nav_types.specs.declared.cells.Cell.{Cell}
use Rattle.posts.specs.declared.edits.EditReply.TheVariants as edit
use Rattle.posts.specs.declared.notes.Note.{Note}
use Rattle.posts.specs.declared.notes.Report.{Report}
use Rattle.posts.specs.declared.notes.Report.TheVariants.{Answers}
use Rattle.posts.specs.declared.posts.Post.{Post}
use Rattle.posts.specs.declared.posts.Post.TheVariants.{Edit as Editing, Ask as Asking}
use Rattle.posts.specs.declared.posts.Request.{Request}
use Rattle.posts.specs.declared.posts.Request.TheVariants.{Path as AsksPath, Region as AsksRegion}
use Rattle.posts.specs.declared.replies.Answer.{Answer}
use Rattle.posts.specs.declared.replies.Answer.TheVariants.{Refused, Nowhere, Path as IsPath, Region as IsRegion}
use Rattle.posts.specs.declared.replies.Reply.{Reply}
use Rattle.posts.specs.declared.replies.Reply.TheVariants.{Edit as Edited, Answer as Answered}
use Rattle.posts.specs.declared.replies.Tallies.{Tallies}
use Rattle.posts.specs.declared.replies.TurnReplies.{TurnReplies}
use Rattle.posts.specs.Maps.{Map}
use Rattle.posts.specs.Posts.{requests, jobs, post_count}
use Rattle.grid_versions.specs.Editing.{edit_reply}
use Rattle.grid_versions.specs.Passing.{passable_at}
use Rattle.turn_core.specs.Words.{Standing, edited}
use Rattle.turn_core.specs.NamedGoals.{class_named, is_on_map}
use Rattle.turn_core.specs.Solving.{IsRegionAt, IsAnswerAt, IsAnswerTo}
use Rattle.turn_core.specs.Turns.{after, after_turn, AreReplies, AreTurnReplies, IsTurnTold}
use Rattle.turn_core.specs.Notes.{IsNoteOf, IsNote, AreNotes}
use Rattle.turn_core.proofs.OneAnswer.{one_answer_to}
use Rattle.turn_core.proofs.OneNote.{told_says}
use Rattle.input_lines.specs.Lines.{full_lines, tail_of}
use Rattle.input_lines.proofs.LineLists.{full_lines-line, tail_of-line}
use Rattle.answer_text.specs.Answers.{line_of, reply_words, reply_line, turn_line, bad_line_text}
use Rattle.answer_text.specs.Noted.{note_line, note_text, notes_left, noted_lines, noted_callers, noted_text}
use Rattle.script_text.specs.Script.{beginning, Item, begins, adds_base, ends_turn, turns_of, whole_input, too_long, bad_line, Ends, at_place, stuck_by, reading}
use Rattle.match_play.specs.Texts.{Said, IsTurnText, Gives, ends_text, IsOut}
use Rattle.match_laws.specs.AnswerLines.{IsTurnLine, AreLinesAt, one_line, lines_of_answer, lines_of_reply, places_from, places_of, lines_of_stop, lines_of_turn, HasTurnLines}
use Rattle.match_laws.proofs.AnswerWords.{are_words, plain_words, reply_line_words, turn_words, turn_line_words, bad_line_words, note_line_words, lines_of_note, lines_of_saying, SaysNothing, SaysLine, note_says}

-- ---- whole lines

-- the text is these lines, whatever comes behind it
record IsLines (lines : List (List ℕ)) (text : List ℕ) : Type 0 where
  full : (rest : List ℕ) → full_lines (text ++ rest) ≡ lines ++ full_lines rest
  tail : (rest : List ℕ) → tail_of (text ++ rest) ≡ tail_of rest

no_lines : IsLines [] []
no_lines = record { full = λ rest. refl; tail = λ rest. refl }

both_lines : (xs ys : List (List ℕ)) (a b : List ℕ) → IsLines xs a → IsLines ys b → IsLines (xs ++ ys) (a ++ b)
both_lines xs ys a b first second = record {
  full = λ rest.
      ap full_lines (append_assoc a b rest) ∙ first.full (b ++ rest) ∙ ap (λ (more : List (List ℕ)). xs ++ more) (second.full rest)
      ∙ sym (append_assoc xs ys (full_lines rest));
  tail = λ rest. ap tail_of (append_assoc a b rest) ∙ first.tail (b ++ rest) ∙ second.tail rest;
}

line_of_words : (words : List (List ℕ)) → are_words words ≡ true → IsLines (join_with_byte 32 words ∷ []) (line_of words)
line_of_words words h = record {
  full = λ rest. ap full_lines (append_assoc (join_with_byte 32 words) (10 ∷ []) rest) ∙ full_lines-line (join_with_byte 32 words) rest (plain_words words h);
  tail = λ rest. ap tail_of (append_assoc (join_with_byte 32 words) (10 ∷ []) rest) ∙ tail_of-line (join_with_byte 32 words) rest (plain_words words h);
}

lines_are : (lines : List (List ℕ)) (text : List ℕ) → IsLines lines text → full_lines text ≡ lines
lines_are lines text is = ap full_lines (sym (append-nil text)) ∙ is.full [] ∙ append-nil lines

all_ended : (lines : List (List ℕ)) (text : List ℕ) → IsLines lines text → tail_of text ≡ []
all_ended lines text is = ap tail_of (sym (append-nil text)) ∙ is.tail []

-- ---- lines at places

-- the text is lines at these places
record HasLines (places : List (ℕ × ℕ)) (text : List ℕ) : Type 0 where
  lines : List (List ℕ)
  are : AreLinesAt places lines
  is : IsLines lines text

none_at : HasLines [] []
none_at = record { lines = []; are = tt; is = no_lines }

are_both : (ps qs : List (ℕ × ℕ)) (xs ys : List (List ℕ)) → AreLinesAt ps xs → AreLinesAt qs ys → AreLinesAt (ps ++ qs) (xs ++ ys)
are_both [] qs [] ys x y = y
are_both [] qs (line ∷ xs) ys x y = absurd x
are_both (p ∷ ps) qs [] ys x y = absurd x
are_both (p ∷ ps) qs (line ∷ xs) ys x y = (x.0, are_both ps qs xs ys x.1 y)

both_at : (ps qs : List (ℕ × ℕ)) (a b : List ℕ) → HasLines ps a → HasLines qs b → HasLines (ps ++ qs) (a ++ b)
both_at ps qs a b first second = record {
  lines = first.lines ++ second.lines;
  are = are_both ps qs first.lines second.lines first.are second.are;
  is = both_lines first.lines second.lines a b first.is second.is;
}

one_at : (caller post : ℕ) (word : List ℕ) (words : List (List ℕ)) → are_words (decimal caller ∷ decimal post ∷ word ∷ words) ≡ true
    → HasLines ((caller, post) ∷ []) (line_of (decimal caller ∷ decimal post ∷ word ∷ words))
one_at caller post word words h = record {
  lines = join_with_byte 32 (decimal caller ∷ decimal post ∷ word ∷ words) ∷ [];
  are = ((join_with_byte 32 (word ∷ words), refl), tt);
  is = line_of_words (decimal caller ∷ decimal post ∷ word ∷ words) h;
}

-- a reply says something
record SaysSome (words : List (List ℕ)) : Type 0 where
  word : List ℕ
  more : List (List ℕ)
  is : words ≡ word ∷ more

reply_says : (reply : Reply) → SaysSome (reply_words reply)
reply_says (Edited (edit.Added id)) = record { word = codes "added"; more = decimal id ∷ []; is = refl }
reply_says (Edited (edit.Removed id)) = record { word = codes "removed"; more = decimal id ∷ []; is = refl }
reply_says (Edited (edit.Moved id)) = record { word = codes "moved"; more = decimal id ∷ []; is = refl }
reply_says (Edited (edit.Refused refusal)) = record { word = codes "refused"; more = _; is = refl }
reply_says (Answered (Refused refusal)) = record { word = codes "refused"; more = _; is = refl }
reply_says (Answered Nowhere) = record { word = codes "nowhere"; more = []; is = refl }
reply_says (Answered (IsPath path)) = record { word = codes "path"; more = _; is = refl }
reply_says (Answered (IsRegion region)) = record { word = codes "region"; more = _; is = refl }

reply_at : (caller post : ℕ) (reply : Reply) → HasLines ((caller, post) ∷ []) (reply_line caller post reply)
unfolding reply_line
reply_at caller post reply =
    let says = reply_says reply in
    subst (λ (words : List (List ℕ)). HasLines ((caller, post) ∷ []) (line_of (decimal caller ∷ decimal post ∷ words))) (sym says.is)
    (one_at caller post says.word says.more
    (subst (λ (words : List (List ℕ)). are_words (decimal caller ∷ decimal post ∷ words) ≡ true) says.is (reply_line_words caller post reply)))

-- ---- notes

note_lines : (caller post : ℕ) (note : Note) → SaysNothing caller post note ⊎ SaysLine caller post note
    → HasLines (replicate (lines_of_note note) (caller, post)) (note_text caller post note)
unfolding note_line
note_lines caller post note (inl says) =
    subst (λ (n : ℕ). HasLines (replicate n (caller, post)) (note_text caller post note)) (sym says.none)
    (subst (HasLines []) (sym says.text) none_at)
note_lines caller post note (inr says) =
    subst (λ (n : ℕ). HasLines (replicate n (caller, post)) (note_text caller post note)) (sym says.one)
    (subst (HasLines ((caller, post) ∷ [])) (sym says.text)
    (subst (λ (words : List (List ℕ)). HasLines ((caller, post) ∷ []) (line_of (decimal caller ∷ decimal post ∷ words))) (sym says.words)
    (one_at caller post says.word says.more
    (subst (λ (words : List (List ℕ)). are_words (decimal caller ∷ decimal post ∷ words) ≡ true) says.words (note_line_words caller post note)))))

note_at : (caller post : ℕ) (note : Note) → HasLines (replicate (lines_of_note note) (caller, post)) (note_text caller post note)
note_at caller post note = note_lines caller post note (note_says caller post note)

region_has_one : (report : Report) (m : Map) (s : Standing) (passes : ℕ → Cell → Bool) (x z : ℤ) (named : Option ℕ) (on_map : Bool) (answer : Answer)
    → IsAnswerAt named on_map (λ class. IsRegionAt (passes class) x z) answer → lines_of_answer report answer ≡ 1
region_has_one report m s passes x z None on_map answer is = ap (lines_of_answer report) is
region_has_one report m s passes x z (Some class) false answer is = ap (lines_of_answer report) is
region_has_one report m s passes x z (Some class) true answer is = ap (lines_of_answer report) is.1.0

-- an answer has its line and that of its note
lines_of_noted : (m : Map) (s : Standing) (report : Report) (request : Request) (answer : Answer) (note : Note) → IsAnswerTo m s request answer
    → IsNoteOf m s report request answer note → lines_of_answer report answer ≡ suc (lines_of_note note)
unfolding IsAnswerTo
lines_of_noted m s report (AsksRegion query) answer note is told =
    region_has_one report m s (passable_at m s) query.x query.z (class_named m query.class) (is_on_map m.size query.x query.z) answer is
    ∙ ap (λ (n : Note). suc (lines_of_note n)) (sym told)
lines_of_noted m s report (AsksPath request) (Refused refusal) note is told = ap (λ (n : Note). suc (lines_of_note n)) (sym told)
lines_of_noted m s report (AsksPath request) Nowhere note is told = ap (λ (n : Note). suc (lines_of_note n)) (sym told)
lines_of_noted m s report (AsksPath request) (IsRegion region) note is told = ap (λ (n : Note). suc (lines_of_note n)) (sym told)
lines_of_noted m s report (AsksPath request) (IsPath path) note is told =
    ap (λ (b : Bool). if b then 2 else 1) (told_says report _ _ told.noted.target path note told.noted.told) ∙ lines_of_saying note

lines_by_note : (m : Map) (s : Standing) (report : Report) (request : Request) (answer : Answer) (note : Note) → IsAnswerTo m s request answer
    → IsNote m s report request note → lines_of_answer report answer ≡ suc (lines_of_note note)
unfolding IsNote
lines_by_note m s report request answer note is (other, (answers, told)) =
    ap (lines_of_answer report) (one_answer_to m s request answer other is answers) ∙ lines_of_noted m s report request other note answers told

-- ---- the text of a turn

module _ (report : Report) (m : Map) (final : Standing) where
  -- these replies have their lines at these places, and behind them the notes of further requests are left
  record IsToldAt (caller post : ℕ) (replies : List Reply) (notes : List Note) (further : List Request) : Type 0 where
    at : HasLines (places_from (lines_of_reply report) caller post replies) (noted_lines caller post replies notes)
    left : AreNotes m final report further (notes_left replies notes)

  replies_at : (s : Standing) (caller post : ℕ) (posts : List Post) (replies : List Reply) (notes : List Note) (further : List Request)
      → AreReplies m final s posts replies → AreNotes m final report (requests posts ++ further) notes → IsToldAt caller post replies notes further
  replies_at s caller post [] [] notes further are noted = record { at = none_at; left = noted }
  replies_at s caller post [] (reply ∷ replies) notes further are noted = absurd are
  replies_at s caller post (own ∷ posts) [] notes further are noted = absurd are
  replies_at s caller post (Editing edit ∷ posts) (reply ∷ replies) notes further are noted =
      let more = replies_at (edited m s (Editing edit)) caller (post + 1) posts replies notes further are.1 noted in
      subst (λ (r : Reply). IsToldAt caller post (r ∷ replies) notes further) (sym are.0)
      (record {
        at = both_at ((caller, post) ∷ []) (places_from (lines_of_reply report) caller (post + 1) replies)
            (reply_line caller post (Edited (edit_reply m s edit))) (noted_lines caller (post + 1) replies notes)
            (reply_at caller post (Edited (edit_reply m s edit))) more.at;
        left = more.left;
      })
  replies_at s caller post (Asking request ∷ posts) (reply ∷ replies) [] further are noted = absurd noted
  replies_at s caller post (Asking request ∷ posts) (reply ∷ replies) (note ∷ notes) further are noted =
      let (answer, (is, answers)) = are.0 in
      let more = replies_at (edited m s (Asking request)) caller (post + 1) posts replies notes further are.1 noted.1 in
      let places = places_from (lines_of_reply report) caller (post + 1) replies in
      let behind = noted_lines caller (post + 1) replies notes in
      let here : HasLines (replicate (suc (lines_of_note note)) (caller, post) ++ places)
      (reply_line caller post (Answered answer) ++ (note_text caller post note ++ behind)) =
      both_at ((caller, post) ∷ []) (replicate (lines_of_note note) (caller, post) ++ places) (reply_line caller post (Answered answer))
      (note_text caller post note ++ behind) (reply_at caller post (Answered answer))
      (both_at (replicate (lines_of_note note) (caller, post)) places (note_text caller post note) behind (note_at caller post note) more.at) in
      subst (λ (r : Reply). IsToldAt caller post (r ∷ replies) (note ∷ notes) further) (sym is)
      (record {
        at = subst (λ (n : ℕ). HasLines (replicate n (caller, post) ++ places) (reply_line caller post (Answered answer) ++ (note_text caller post note ++ behind)))
            (sym (lines_by_note m final report request answer note answers noted.0)) here;
        left = more.left;
      })

  callers_at : (s : Standing) (caller : ℕ) (turn : List (List Post)) (lists : List (List Reply)) (notes : List Note)
      → AreTurnReplies m final s turn lists → AreNotes m final report (jobs turn) notes
      → HasLines (places_of (lines_of_reply report) caller lists) (noted_callers caller lists notes)
  callers_at s caller [] [] notes are noted = none_at
  callers_at s caller [] (replies ∷ lists) notes are noted = absurd are
  callers_at s caller (posts ∷ turn) [] notes are noted = absurd are
  callers_at s caller (posts ∷ turn) (replies ∷ lists) notes are noted =
      let first = replies_at s caller 0 posts replies notes (jobs turn) are.0 noted in
      both_at (places_from (lines_of_reply report) caller 0 replies) (places_of (lines_of_reply report) (caller + 1) lists)
      (noted_lines caller 0 replies notes) (noted_callers (caller + 1) lists (notes_left replies notes)) first.at
      (callers_at (after m s posts) (caller + 1) turn lists (notes_left replies notes) are.1 first.left)

turn_line_is : (number : ℕ) (tallies : Tallies) (relabelled : ℕ)
    → IsLines (join_with_byte 32 (turn_words number tallies relabelled) ∷ []) (turn_line number tallies relabelled)
unfolding turn_line
turn_line_is number tallies relabelled = line_of_words (turn_words number tallies relabelled) (turn_line_words number tallies relabelled)

-- the lines of a turn
record IsToldIn (number : ℕ) (places : List (ℕ × ℕ)) (text : List ℕ) : Type 0 where
  first : List ℕ
  rest : List (List ℕ)
  is : IsLines (first ∷ rest) text
  turn : IsTurnLine number first
  posts : AreLinesAt places rest

turn_in : (report : Report) (m : Map) (s : Standing) (number : ℕ) (turn : List (List Post)) (told : TurnReplies) (notes : List Note)
    → IsTurnTold m s turn told → AreNotes m (after_turn m s turn) report (jobs turn) notes
    → IsToldIn number (places_of (lines_of_reply report) 0 told.replies) (noted_text number told notes)
turn_in report m s number turn told notes is noted =
    let words = turn_words number told.tallies told.relabelled in
    let posts = callers_at report m (after_turn m s turn) s 0 turn told.replies notes is.replies noted in
    record {
      first = join_with_byte 32 words;
      rest = posts.lines;
      is = both_lines (join_with_byte 32 words ∷ []) posts.lines (turn_line number told.tallies told.relabelled) (noted_callers 0 told.replies notes)
          (turn_line_is number told.tallies told.relabelled) posts.is;
      turn = (_, refl);
      posts = posts.are;
    }

in_lines : (number : ℕ) (places : List (ℕ × ℕ)) (text : List ℕ) → IsToldIn number places text → HasTurnLines number places text
in_lines number places text told = record {
  first = told.first;
  rest = told.rest;
  lines = lines_are (told.first ∷ told.rest) text told.is;
  ended = all_ended (told.first ∷ told.rest) text told.is;
  turn = told.turn;
  posts = told.posts;
}

turn_text_in : (report : Report) (m : Map) (s : Standing) (number : ℕ) (turn : List (List Post)) (text : List ℕ) → IsTurnText report m s number turn text
    → (told : TurnReplies) × (IsTurnTold m s turn told × IsToldIn number (places_of (lines_of_reply report) 0 told.replies) text)
turn_text_in report m s number turn text (told, (notes, (is, (noted, whole)))) =
    (told, (is, subst (λ (t : List ℕ). IsToldIn number (places_of (lines_of_reply report) 0 told.replies) t) (sym whole) (turn_in report m s number turn told notes is noted)))

pub answers_in_lines : (report : Report) (m : Map) (s : Standing) (number : ℕ) (turn : List (List Post)) (text : List ℕ) → IsTurnText report m s number turn text
    → (told : TurnReplies) × (IsTurnTold m s turn told × HasTurnLines number (places_of (lines_of_reply report) 0 told.replies) text)
answers_in_lines report m s number turn text is =
    let has = turn_text_in report m s number turn text is in
    (has.0, (has.1.0, in_lines number (places_of (lines_of_reply report) 0 has.0.replies) text has.1.1))

-- ---- a line a post

one_of_answers : (reply : Reply) → lines_of_reply Answers reply ≡ 1
one_of_answers (Edited reply) = refl
one_of_answers (Answered (Refused refusal)) = refl
one_of_answers (Answered Nowhere) = refl
one_of_answers (Answered (IsPath path)) = refl
one_of_answers (Answered (IsRegion region)) = refl

places_by_posts : (m : Map) (final s : Standing) (caller post : ℕ) (posts : List Post) (replies : List Reply) → AreReplies m final s posts replies
    → places_from (lines_of_reply Answers) caller post replies ≡ places_from one_line caller post posts
places_by_posts m final s caller post [] [] are = refl
places_by_posts m final s caller post [] (reply ∷ replies) are = absurd are
places_by_posts m final s caller post (own ∷ posts) [] are = absurd are
places_by_posts m final s caller post (own ∷ posts) (reply ∷ replies) are =
    ap (λ (n : ℕ). replicate n (caller, post) ++ places_from (lines_of_reply Answers) caller (post + 1) replies) (one_of_answers reply)
    ∙ ap (λ (places : List (ℕ × ℕ)). (caller, post) ∷ places) (places_by_posts m final (edited m s own) caller (post + 1) posts replies are.1)

places_by_turn : (m : Map) (final s : Standing) (caller : ℕ) (turn : List (List Post)) (lists : List (List Reply)) → AreTurnReplies m final s turn lists
    → places_of (lines_of_reply Answers) caller lists ≡ places_of one_line caller turn
places_by_turn m final s caller [] [] are = refl
places_by_turn m final s caller [] (replies ∷ lists) are = absurd are
places_by_turn m final s caller (posts ∷ turn) [] are = absurd are
places_by_turn m final s caller (posts ∷ turn) (replies ∷ lists) are =
    ap (λ (places : List (ℕ × ℕ)). places ++ places_of (lines_of_reply Answers) (caller + 1) lists) (places_by_posts m final s caller 0 posts replies are.0)
    ∙ ap (λ (places : List (ℕ × ℕ)). places_from one_line caller 0 posts ++ places) (places_by_turn m final (after m s posts) (caller + 1) turn lists are.1)

turn_by_posts : (m : Map) (s : Standing) (number : ℕ) (turn : List (List Post)) (text : List ℕ) → IsTurnText Answers m s number turn text
    → IsToldIn number (places_of one_line 0 turn) text
turn_by_posts m s number turn text is =
    let has = turn_text_in Answers m s number turn text is in
    subst (λ (places : List (ℕ × ℕ)). IsToldIn number places text) (places_by_turn m (after_turn m s turn) s 0 turn has.0.replies has.1.0.replies) has.1.1

pub line_a_post : (m : Map) (s : Standing) (number : ℕ) (turn : List (List Post)) (text : List ℕ) → IsTurnText Answers m s number turn text
    → HasTurnLines number (places_of one_line 0 turn) text
line_a_post m s number turn text is = in_lines number (places_of one_line 0 turn) text (turn_by_posts m s number turn text is)

as_many_lines : (places : List (ℕ × ℕ)) (lines : List (List ℕ)) → AreLinesAt places lines → length lines ≡ length places
as_many_lines [] [] are = refl
as_many_lines [] (line ∷ lines) are = absurd are
as_many_lines (place ∷ places) [] are = absurd are
as_many_lines (place ∷ places) (line ∷ lines) are = ap suc (as_many_lines places lines are.1)

places_of_posts : (caller post : ℕ) (posts : List Post) → length (places_from one_line caller post posts) ≡ length posts
places_of_posts caller post [] = refl
places_of_posts caller post (own ∷ posts) = ap suc (places_of_posts caller (post + 1) posts)

places_in_turn : (caller : ℕ) (turn : List (List Post)) → length (places_of one_line caller turn) ≡ post_count turn
places_in_turn caller [] = refl
places_in_turn caller (posts ∷ turn) =
    length-append (places_from one_line caller 0 posts) (places_of one_line (caller + 1) turn)
    ∙ ap (λ (n : ℕ). n + length (places_of one_line (caller + 1) turn)) (places_of_posts caller 0 posts)
    ∙ ap (λ (n : ℕ). length posts + n) (places_in_turn (caller + 1) turn) ∙ sym (sum_by-cons length posts turn)

turn_count : (number : ℕ) (turn : List (List Post)) (text : List ℕ) (told : IsToldIn number (places_of one_line 0 turn) text)
    → length (told.first ∷ told.rest) ≡ lines_of_turn turn
turn_count number turn text told =
    let many = as_many_lines (places_of one_line 0 turn) told.rest told.posts in
    let count = places_in_turn 0 turn in
    omega (arith, many, count)

pub count_of_turn : (m : Map) (s : Standing) (number : ℕ) (turn : List (List Post)) (text : List ℕ) → IsTurnText Answers m s number turn text
    → length (full_lines text) ≡ lines_of_turn turn
count_of_turn m s number turn text is =
    let told = turn_by_posts m s number turn text is in
    ap length (lines_are (told.first ∷ told.rest) text told.is) ∙ turn_count number turn text told

-- ---- output texts

-- the lines of the text of items
record AreTextLines (report : Report) (items : List Item) (text : List ℕ) : Type 0 where
  lines : List (List ℕ)
  is : IsLines lines text
  count : report ≡ Answers → length lines ≡ sum_by lines_of_turn (turns_of items)

-- the lines of a turn with their count
record HasCounted (report : Report) (turn : List (List Post)) (text : List ℕ) : Type 0 where
  lines : List (List ℕ)
  is : IsLines lines text
  count : report ≡ Answers → length lines ≡ lines_of_turn turn

counted_turn : (report : Report) (m : Map) (s : Standing) (number : ℕ) (turn : List (List Post)) (text : List ℕ) → IsTurnText report m s number turn text
    → HasCounted report turn text
counted_turn report m s number turn text is =
    let has = turn_text_in report m s number turn text is in
    let told = has.1.1 in
    record {
      lines = told.first ∷ told.rest;
      is = told.is;
      count = λ by.
          ap length (sym (lines_are (told.first ∷ told.rest) text told.is))
          ∙ count_of_turn m s number turn text (subst (λ (r : Report). IsTurnText r m s number turn text) by is);
    }

text_lines : (report : Report) (items : List Item) (s t : Said) (text : List ℕ) → Gives report s items text t → AreTextLines report items text
text_lines report [] s t text gives =
    subst (λ (l : List ℕ). AreTextLines report [] l) (sym gives.0) (record { lines = []; is = no_lines; count = λ by. refl })
text_lines report (begins m ∷ items) s t text (piece, (mid, (more, ((none, after), (gives, parts))))) =
    let rest = text_lines report items mid t more gives in
    let same : text ≡ more = parts ∙ ap (λ (l : List ℕ). l ++ more) none in
    subst (λ (l : List ℕ). AreTextLines report (begins m ∷ items) l) (sym same) (record { lines = rest.lines; is = rest.is; count = rest.count })
text_lines report (adds_base rects ∷ items) s t text (piece, (mid, (more, ((none, after), (gives, parts))))) =
    let rest = text_lines report items mid t more gives in
    let same : text ≡ more = parts ∙ ap (λ (l : List ℕ). l ++ more) none in
    subst (λ (l : List ℕ). AreTextLines report (adds_base rects ∷ items) l) (sym same) (record { lines = rest.lines; is = rest.is; count = rest.count })
text_lines report (ends_turn posts ∷ items) s t text (piece, (mid, (more, ((m, (found, (is, after))), (gives, parts))))) =
    let rest = text_lines report items mid t more gives in
    let here = counted_turn report m s.standing (s.turns + 1) posts piece is in
    subst (λ (l : List ℕ). AreTextLines report (ends_turn posts ∷ items) l) (sym parts)
    (record {
      lines = here.lines ++ rest.lines;
      is = both_lines here.lines rest.lines piece more here.is rest.is;
      count = λ by.
          let first = here.count by in
          let others = rest.count by in
          let both = length-append here.lines rest.lines in
          let sum = sum_by-cons lines_of_turn posts (turns_of items) in
          omega (arith, first, others, both, sum);
    })

-- the lines of a stop
record IsStopLines (ends : Ends) : Type 0 where
  lines : List (List ℕ)
  is : IsLines lines (ends_text ends)
  count : length lines ≡ lines_of_stop ends

bad_line_is : (n : ℕ) → IsLines (join_with_byte 32 (codes "bad" ∷ codes "line" ∷ decimal n ∷ []) ∷ []) (bad_line_text n)
unfolding bad_line_text
bad_line_is n = line_of_words (codes "bad" ∷ codes "line" ∷ decimal n ∷ []) (bad_line_words n)

stop_lines : (ends : Ends) → IsStopLines ends
stop_lines (at_place p) = record { lines = []; is = no_lines; count = refl }
stop_lines (stuck_by whole_input) = record { lines = []; is = no_lines; count = refl }
stop_lines (stuck_by (too_long n)) = record { lines = []; is = no_lines; count = refl }
stop_lines (stuck_by (bad_line n)) = record { lines = join_with_byte 32 (codes "bad" ∷ codes "line" ∷ decimal n ∷ []) ∷ []; is = bad_line_is n; count = refl }

-- the lines of an output text
record AreOutLines (report : Report) (bytes out : List ℕ) : Type 0 where
  lines : List (List ℕ)
  is : IsLines lines out
  count : report ≡ Answers → length lines ≡ sum_by lines_of_turn (turns_of (reading bytes beginning).items) + lines_of_stop (reading bytes beginning).ends

out_lines : (report : Report) (bytes out : List ℕ) → IsOut report bytes out → AreOutLines report bytes out
out_lines report bytes out (text, ((t, gives), parts)) =
    let turns = text_lines report (reading bytes beginning).items _ t text gives in
    let stop = stop_lines (reading bytes beginning).ends in
    subst (λ (l : List ℕ). AreOutLines report bytes l) (sym parts)
    (record {
      lines = turns.lines ++ stop.lines;
      is = both_lines turns.lines stop.lines text (ends_text (reading bytes beginning).ends) turns.is stop.is;
      count = λ by.
          let first = turns.count by in
          let last = stop.count in
          let both = length-append turns.lines stop.lines in
          omega (arith, first, last, both);
    })

pub out_ended : (report : Report) (bytes out : List ℕ) → IsOut report bytes out → tail_of out ≡ []
out_ended report bytes out is = let has = out_lines report bytes out is in all_ended has.lines out has.is

pub out_count : (bytes out : List ℕ) → IsOut Answers bytes out
    → length (full_lines out) ≡ sum_by lines_of_turn (turns_of (reading bytes beginning).items) + lines_of_stop (reading bytes beginning).ends
out_count bytes out is =
    let has = out_lines Answers bytes out is in
    ap length (lines_are has.lines out has.is) ∙ has.count refl
