-- Where each request has its note and each turn its numbers there is an output text, and nowhere else.
use Rattle.std.proofs.Common.{◌≡◌, ℕ, ◌+◌, List, [], ◌∷◌, ◌++◌, length, get_or, Bool, true, false, All, Option, Some, None, refl, sym, ap, ◌∙◌, subst}
use Rattle.std.specs.Prelude.{⊤, ◌↔◌, if◌then◌else◌, option_and_then}
use Rattle.std.proofs.lemmas.List.Elements.{All-nil, All-cons, All-head, All-tail}
use Rattle.serde_json.specs.Data.{Data}
use Rattle.posts.specs.declared.notes.Note.{Note}
use Rattle.posts.specs.declared.notes.Report.{Report}
use Rattle.posts.specs.declared.notes.Report.TheVariants.{Answers}
use Rattle.posts.specs.declared.posts.Post.{Post}
use Rattle.posts.specs.declared.posts.Post.TheVariants.{Edit as Editing, Ask as Asking}
use Rattle.posts.specs.declared.posts.Request.{Request}
use Rattle.posts.specs.declared.replies.Answer.{Answer}
use Rattle.posts.specs.declared.replies.Reply.{Reply}
use Rattle.posts.specs.declared.replies.Reply.TheVariants.{Edit as Edited, Answer as Answered}
use Rattle.posts.specs.declared.replies.TurnReplies.{TurnReplies}
use Rattle.posts.specs.Maps.{Map}
use Rattle.posts.specs.Posts.{requests, jobs}
use Rattle.grid_versions.specs.Editing.{edit_reply}
use Rattle.turn_core.specs.Words.{Standing, bare, edited, TellsNumbers}
use Rattle.turn_core.specs.Solving.{IsAnswerTo}
use Rattle.turn_core.specs.Turns.{after, after_turn, AreReplies, AreTurnReplies, OneThread, TellNumbers, replies_in}
use Rattle.turn_core.specs.Notes.{IsNote, AreNotes}
use Rattle.turn_core.proofs.OneNote.{notes_of_answers}
use Rattle.input_lines.specs.Lines.{full_lines, tail_of}
use Rattle.script_text.specs.Forms.{map_of}
use Rattle.script_text.specs.declared.parts.Part.TheVariants.{BeforeMap as before_map}
use Rattle.script_text.specs.Script.{Place, beginning, Item, begins, adds_base, ends_turn, map_after, turns_of, too_long, Walk, stuck, chain, counted, reading_of, map_line, placed_in, is_long, accept, walk, finish, last_line, reading}
use Rattle.script_text.proofs.ReadWalk.{chain-assoc}
use Rattle.match_play.specs.Texts.{unsaid, IsText, ends_text, IsOut}
use Rattle.pathserve.specs.Output.{AreNotesInTurns, noted_texts}
use Rattle.pathserve.proofs.OneThread.{notes_told, notes_give}
use Rattle.answer_laws.proofs.Noting.{note_to}
use Rattle.answer_laws.proofs.Telling.{numbers_of}
use Rattle.match_laws.specs.Outputs.{HasNote, CanTellAll, CanTellInput}

-- ---- the items of an input

-- there are no items, or the first is the map line's
abbrev BeginWithMap : List Item → Type 0
BeginWithMap [] = ⊤
BeginWithMap (begins m ∷ items) = ⊤
BeginWithMap (adds_base rects ∷ items) = ⊥
BeginWithMap (ends_turn posts ∷ items) = ⊥

map_line_first : (p : Place) (found : Option Map) (go_on : Place → Walk) → BeginWithMap (chain (map_line p found) go_on).items
map_line_first p None go_on = tt
map_line_first p (Some m) go_on = tt

line_first : (long : Bool) (p : Place) (d : Option Data) (go_on : Place → Walk)
    → BeginWithMap (chain (if long then stuck (too_long p.lines) else placed_in before_map p d) go_on).items
line_first true p d go_on = tt
line_first false p d go_on = map_line_first p (option_and_then map_of d) go_on

accept_first : (size : ℕ) (line : List ℕ) (go_on : Place → Walk) → BeginWithMap (chain (accept size line beginning) go_on).items
accept_first size line go_on = line_first (is_long beginning size line) (counted beginning size) (reading_of line) go_on

lines_first : (lines : List (List ℕ)) (tail : List ℕ) → BeginWithMap (chain (walk lines beginning) (λ q. last_line tail q)).items
lines_first [] [] = tt
lines_first [] (byte ∷ bytes) = accept_first (length (byte ∷ bytes)) (byte ∷ bytes) finish
lines_first (line ∷ lines) tail =
    subst (λ (w : Walk). BeginWithMap w.items)
    (sym (chain-assoc (accept (length line + 1) line beginning) (λ q. walk lines q) (λ q. last_line tail q)))
    (accept_first (length line + 1) line (λ q. chain (walk lines q) (λ r. last_line tail r)))

map_stays : (m : Map) (items : List Item) → (n : Map) × (map_after (Some m) items ≡ Some n)
map_stays m [] = (m, refl)
map_stays m (begins n ∷ items) = map_stays n items
map_stays m (adds_base rects ∷ items) = map_stays _ items
map_stays m (ends_turn posts ∷ items) = map_stays m items

-- ---- what requests, turns and journals have

module _ (report : Report) (m : Map) (final : Standing) where
  All-first : (xs ys : List Request) → All (HasNote m final report) (xs ++ ys) → All (HasNote m final report) xs
  All-first [] ys all = All-nil (HasNote m final report)
  All-first (x ∷ xs) ys all =
      All-cons (HasNote m final report) x xs (All-head (HasNote m final report) x (xs ++ ys) all)
      (All-first xs ys (All-tail (HasNote m final report) x (xs ++ ys) all))

  All-last : (xs ys : List Request) → All (HasNote m final report) (xs ++ ys) → All (HasNote m final report) ys
  All-last [] ys all = all
  All-last (x ∷ xs) ys all = All-last xs ys (All-tail (HasNote m final report) x (xs ++ ys) all)

  has_answer : (request : Request) → HasNote m final report request → (answer : Answer) × IsAnswerTo m final request answer
  unfolding IsNote
  has_answer request has = (has.1.0, has.1.1.0)

  replies_exist : (s : Standing) (posts : List Post) → All (HasNote m final report) (requests posts) → (replies : List Reply) × AreReplies m final s posts replies
  replies_exist s [] has = ([], tt)
  replies_exist s (Editing edit ∷ posts) has =
      let more = replies_exist (edited m s (Editing edit)) posts has in
      (Edited (edit_reply m s edit) ∷ more.0, (refl, more.1))
  replies_exist s (Asking request ∷ posts) has =
      let found = has_answer request (All-head (HasNote m final report) request (requests posts) has) in
      let more = replies_exist (edited m s (Asking request)) posts (All-tail (HasNote m final report) request (requests posts) has) in
      (Answered found.0 ∷ more.0, ((found.0, (refl, found.1)), more.1))

  turn_replies_exist : (s : Standing) (turn : List (List Post)) → All (HasNote m final report) (jobs turn)
      → (replies : List (List Reply)) × AreTurnReplies m final s turn replies
  turn_replies_exist s [] has = ([], tt)
  turn_replies_exist s (posts ∷ turn) has =
      let first = replies_exist s posts (All-first (requests posts) (jobs turn) has) in
      let more = turn_replies_exist (after m s posts) turn (All-last (requests posts) (jobs turn) has) in
      (first.0 ∷ more.0, (first.1, more.1))

  notes_exist : (asked : List Request) → All (HasNote m final report) asked → (notes : List Note) × AreNotes m final report asked notes
  notes_exist [] has = ([], tt)
  notes_exist (request ∷ asked) has =
      let first = All-head (HasNote m final report) request asked has in
      let more = notes_exist asked (All-tail (HasNote m final report) request asked has) in
      (first.0 ∷ more.0, (first.1, more.1))

  have_notes : (asked : List Request) (notes : List Note) → AreNotes m final report asked notes → All (HasNote m final report) asked
  have_notes [] [] are = All-nil (HasNote m final report)
  have_notes [] (note ∷ notes) are = absurd are
  have_notes (request ∷ asked) [] are = absurd are
  have_notes (request ∷ asked) (note ∷ notes) are = All-cons (HasNote m final report) request asked (note, are.0) (have_notes asked notes are.1)

-- the replies and the notes of the turns of a journal, before which this stands
record AreAll (report : Report) (m : Map) (s : Standing) (journal : List (List (List Post))) : Type 0 where
  all : List TurnReplies
  lists : List (List Note)
  threads : OneThread m s journal (replies_in all)
  numbers : TellNumbers m s journal all
  noted : AreNotesInTurns m s report journal lists

told_all : (report : Report) (m : Map) (s : Standing) (journal : List (List (List Post))) → CanTellAll report m s journal → AreAll report m s journal
unfolding TellsNumbers
told_all report m s [] can = record { all = []; lists = []; threads = tt; numbers = tt; noted = tt }
told_all report m s (turn ∷ journal) can =
    let final : Standing = after_turn m s turn in
    let replies = turn_replies_exist report m final s turn can.0.notes in
    let notes = notes_exist report m final (jobs turn) can.0.notes in
    let numbers = can.0.numbers in
    let told : TurnReplies = record { tallies = numbers.0.tallies; relabelled = numbers.0.relabelled; replies = replies.0 } in
    let more = told_all report m final journal can.1 in
    record {
      all = told ∷ more.all;
      lists = notes.0 ∷ more.lists;
      threads = (replies.1, more.threads);
      numbers = (numbers.1, more.numbers);
      noted = (notes.1, more.noted);
    }

all_told : (report : Report) (m : Map) (s : Standing) (journal : List (List (List Post))) (all : List TurnReplies) (lists : List (List Note))
    → TellNumbers m s journal all → AreNotesInTurns m s report journal lists → CanTellAll report m s journal
all_told report m s [] all lists numbers noted = tt
all_told report m s (turn ∷ journal) [] lists numbers noted = absurd numbers
all_told report m s (turn ∷ journal) (told ∷ all) [] numbers noted = absurd noted
all_told report m s (turn ∷ journal) (told ∷ all) (notes ∷ lists) numbers noted = (
  record { notes = have_notes report m (after_turn m s turn) (jobs turn) notes noted.0; numbers = (told, numbers.0) },
  all_told report m (after_turn m s turn) journal all lists numbers.1 noted.1,
)

-- ---- inputs

text_of_items : (report : Report) (bytes : List ℕ) (items : List Item) → (reading bytes beginning).items ≡ items → BeginWithMap items → CanTellInput report bytes
    → (text : List ℕ) × IsText report (reading bytes beginning).items text
text_of_items report bytes [] is first can = ([], subst (λ (items : List Item). IsText report items []) (sym is) (unsaid, (refl, refl)))
text_of_items report bytes (adds_base rects ∷ items) is first can = absurd first
text_of_items report bytes (ends_turn posts ∷ items) is first can = absurd first
text_of_items report bytes (begins m ∷ items) is first can =
    let (n, stays) = map_stays m items in
    let on : map_after None (reading bytes beginning).items ≡ Some n = ap (λ (all : List Item). map_after None all) is ∙ stays in
    let has = told_all report n bare (turns_of (reading bytes beginning).items) (can n on) in
    (noted_texts 1 has.all has.lists, notes_give report bytes n has.all has.lists on (record { replies = has.threads; numbers = has.numbers }) has.noted)

pub out_exists : (report : Report) (bytes : List ℕ) → CanTellInput report bytes → (out : List ℕ) × IsOut report bytes out
out_exists report bytes can =
    let is = text_of_items report bytes (reading bytes beginning).items refl (lines_first (full_lines bytes) (tail_of bytes)) can in
    (is.0 ++ ends_text (reading bytes beginning).ends, (is.0, (is.1, refl)))

pub can_tell : (report : Report) (bytes out : List ℕ) → IsOut report bytes out → CanTellInput report bytes
can_tell report bytes out is = λ m on.
    let (all, (lists, (thread, (noted, whole)))) = notes_told report bytes is.0 m on is.1.0 in
    all_told report m bare (turns_of (reading bytes beginning).items) all lists thread.numbers noted

pub out_of_no_turn : (report : Report) (bytes : List ℕ) → turns_of (reading bytes beginning).items ≡ [] → (out : List ℕ) × IsOut report bytes out
out_of_no_turn report bytes none =
    out_exists report bytes (λ m on. subst (λ (journal : List (List (List Post))). CanTellAll report m bare journal) (sym none) tt)

-- under the report of answers a note is there where an answer is
pub noted_answer : (m : Map) (standing : Standing) (request : Request) → HasNote m standing Answers request ↔ ((answer : Answer) × IsAnswerTo m standing request answer)
noted_answer m standing request =
    (has_answer Answers m standing request, λ (found : (answer : Answer) × IsAnswerTo m standing request answer). first_note found)
  where
    first_of : (notes : List Note) → AreNotes m standing Answers (request ∷ []) notes → HasNote m standing Answers request
    first_of [] are = absurd are
    first_of (note ∷ notes) are = (note, are.0)

    first_note : (answer : Answer) × IsAnswerTo m standing request answer → HasNote m standing Answers request
    first_note found =
        let notes = notes_of_answers m standing (request ∷ []) (found.0 ∷ []) (found.1, tt) in
        first_of notes.0 notes.1

-- ---- each input

-- each turn can be told, whatever stands before it
told_each : (report : Report) (m : Map) (s : Standing) (journal : List (List (List Post))) → CanTellAll report m s journal
told_each report m s [] = tt
told_each report m s (turn ∷ journal) =
    let final : Standing = after_turn m s turn in (
      record {
        notes = λ k request low. note_to m final report (get_or (jobs turn) k request);
        numbers = numbers_of m s final;
      },
      told_each report m final journal,
    )

pub each_out : (report : Report) (bytes : List ℕ) → (out : List ℕ) × IsOut report bytes out
each_out report bytes =
    out_exists report bytes (λ m is. told_each report m bare (turns_of (reading bytes beginning).items))
