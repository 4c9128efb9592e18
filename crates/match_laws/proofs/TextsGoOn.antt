-- The text of further turns rests on what stands before them alone, and on the number of the first of them.
use Rattle.std.proofs.Common.{◌≡◌, ℕ, ◌+◌, List, [], ◌∷◌, ◌++◌, length, drop, take, refl, sym, ap, ◌∙◌, subst, arith, append_assoc}
use Rattle.posts.specs.declared.notes.Note.{Note}
use Rattle.posts.specs.declared.notes.Report.{Report}
use Rattle.posts.specs.declared.posts.Post.{Post}
use Rattle.posts.specs.declared.replies.TurnReplies.{TurnReplies}
use Rattle.posts.specs.Maps.{Map}
use Rattle.posts.specs.Posts.{jobs}
use Rattle.turn_core.specs.Words.{Standing, bare}
use Rattle.turn_core.specs.Turns.{after_turn, standing, IsOneThread}
use Rattle.turn_core.proofs.OneNote.{one_list_of_notes}
use Rattle.turn_core.proofs.Threads.{same_cons, answer_front}
use Rattle.answer_text.specs.Noted.{noted_text}
use Rattle.pathserve.specs.Output.{AreNotesInTurns, noted_texts}
use Rattle.pathserve.proofs.OneThread.{notes_told}
use Rattle.match_laws.specs.OpenedTexts.{IsMatchText, GoesOnWith}
use Rattle.match_laws.proofs.GoingOn.{goes_on}

-- ---- notes

module _ (report : Report) (m : Map) where
  notes_of_first : (s : Standing) (journal more : List (List (List Post))) (lists : List (List Note))
      → AreNotesInTurns m s report (journal ++ more) lists → AreNotesInTurns m s report journal (take (length journal) lists)
  notes_of_first s [] more lists are = tt
  notes_of_first s (turn ∷ journal) more [] are = absurd are
  notes_of_first s (turn ∷ journal) more (notes ∷ lists) are = (are.0, notes_of_first (after_turn m s turn) journal more lists are.1)

  notes_of_further : (s : Standing) (journal more : List (List (List Post))) (lists : List (List Note))
      → AreNotesInTurns m s report (journal ++ more) lists → AreNotesInTurns m (standing m s journal) report more (drop (length journal) lists)
  notes_of_further s [] more lists are = are
  notes_of_further s (turn ∷ journal) more [] are = absurd are
  notes_of_further s (turn ∷ journal) more (notes ∷ lists) are = notes_of_further (after_turn m s turn) journal more lists are.1

  notes_are_one : (s : Standing) (journal : List (List (List Post))) (a b : List (List Note))
      → AreNotesInTurns m s report journal a → AreNotesInTurns m s report journal b → a ≡ b
  notes_are_one s [] [] [] x y = refl
  notes_are_one s [] [] (notes ∷ b) x y = absurd y
  notes_are_one s [] (notes ∷ a) b x y = absurd x
  notes_are_one s (turn ∷ journal) [] b x y = absurd x
  notes_are_one s (turn ∷ journal) (notes ∷ a) [] x y = absurd y
  notes_are_one s (turn ∷ journal) (notes ∷ a) (others ∷ b) x y =
      same_cons notes others a b (one_list_of_notes m (after_turn m s turn) report (jobs turn) notes others x.0 y.0)
      (notes_are_one (after_turn m s turn) journal a b x.1 y.1)

-- ---- texts

no_notes : (number : ℕ) (all : List TurnReplies) → noted_texts number all [] ≡ []
no_notes number [] = refl
no_notes number (told ∷ all) = refl

-- the texts of the turns of a journal, and of those behind them
texts_in_two : (journal : List (List (List Post))) (number : ℕ) (all : List TurnReplies) (lists : List (List Note))
    → noted_texts number all lists ≡ noted_texts number (take (length journal) all) (take (length journal) lists)
    ++ noted_texts (length journal + number) (drop (length journal) all) (drop (length journal) lists)
texts_in_two [] number all lists =
    let same : number ≡ length {A = List (List Post)} [] + number = omega arith in
    ap (λ (k : ℕ). noted_texts k all lists) same
texts_in_two (turn ∷ journal) number [] lists = refl
texts_in_two (turn ∷ journal) number (told ∷ all) [] = sym (no_notes (length (turn ∷ journal) + number) (drop (length journal) all))
texts_in_two (turn ∷ journal) number (told ∷ all) (notes ∷ lists) =
    let n : ℕ = length journal in
    let same : n + (number + 1) ≡ length (turn ∷ journal) + number = omega arith in
    ap (λ (text : List ℕ). noted_text number told notes ++ text)
    (texts_in_two journal (number + 1) all lists
    ∙ ap (λ (k : ℕ). noted_texts (number + 1) (take n all) (take n lists) ++ noted_texts k (drop n all) (drop n lists)) same)
    ∙ sym (append_assoc (noted_text number told notes) (noted_texts (number + 1) (take n all) (take n lists))
    (noted_texts (length (turn ∷ journal) + number) (drop n all) (drop n lists)))

-- ---- matches

-- the replies and the notes of a match by its text
record HasTold (report : Report) (m : Map) (turns : List (List (List Post))) (text : List ℕ) : Type 0 where
  all : List TurnReplies
  lists : List (List Note)
  one_thread : IsOneThread m turns all
  noted : AreNotesInTurns m bare report turns lists
  whole : text ≡ noted_texts 1 all lists

told_by : (report : Report) (m : Map) (turns : List (List (List Post))) (text : List ℕ) → IsMatchText report m turns text → HasTold report m turns text
told_by report m turns text is =
    subst (λ (journal : List (List (List Post))). HasTold report m journal text) is.are_turns
    (let (all, (lists, (thread, (are, whole)))) = notes_told report is.bytes text m is.on_map is.is_text in
    record { all = all; lists = lists; one_thread = thread; noted = are; whole = whole })

in_two : (report : Report) (m : Map) (journal more : List (List (List Post))) (text : List ℕ) (has : HasTold report m (journal ++ more) text)
    → GoesOnWith report m journal (drop (length journal) has.all) (drop (length journal) has.lists) text
in_two report m journal more text has = record {
  told = take (length journal) has.all;
  lists = take (length journal) has.lists;
  one_thread = answer_front m journal more has.all has.one_thread;
  noted = notes_of_first report m bare journal more has.lists has.noted;
  parts = has.whole ∙ texts_in_two journal 1 has.all has.lists;
}

pub texts_go_on : (report : Report) (m : Map) (a b more : List (List (List Post))) (one two : List ℕ) → standing m bare a ≡ standing m bare b
    → IsMatchText report m (a ++ more) one → IsMatchText report m (b ++ more) two
    → (further : List TurnReplies) × ((notes : List (List Note)) × (GoesOnWith report m a further notes one × GoesOnWith report m b further notes two))
texts_go_on report m a b more one two same first second =
    let x = told_by report m (a ++ more) one first in
    let y = told_by report m (b ++ more) two second in
    let further : drop (length a) x.all ≡ drop (length b) y.all = goes_on m a b more x.all y.all same x.one_thread y.one_thread in
    let before = notes_of_further report m bare a more x.lists x.noted in
    let noted = notes_of_further report m bare b more y.lists y.noted in
    let notes : drop (length a) x.lists ≡ drop (length b) y.lists =
    notes_are_one report m (standing m bare b) more (drop (length a) x.lists) (drop (length b) y.lists)
    (subst (λ (s : Standing). AreNotesInTurns m s report more (drop (length a) x.lists)) same before) noted in
    let here : GoesOnWith report m a (drop (length b) y.all) (drop (length b) y.lists) one =
    subst (λ (all : List TurnReplies). GoesOnWith report m a all (drop (length b) y.lists) one) further
    (subst (λ (lists : List (List Note)). GoesOnWith report m a (drop (length a) x.all) lists one) notes (in_two report m a more one x)) in
    (drop (length b) y.all, (drop (length b) y.lists, (here, in_two report m b more two y)))
