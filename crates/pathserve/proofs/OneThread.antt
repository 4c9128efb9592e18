-- The text of an input's turns is that of the replies of one thread, with what is told beside them: in a reading the map
-- is first, then only turns.
use Rattle.std.proofs.Common.{◌≡◌, ℕ, ◌+◌, List, [], ◌∷◌, ◌++◌, length, Bool, true, false, Option, Some, None, refl, sym, ap, ◌∙◌, subst, append_assoc, append-nil}
use Rattle.std.specs.Prelude.{if◌then◌else◌, ⊤, ◌==◌, option_and_then}
use Rattle.std.specs.List.{list_all}
use Rattle.serde_json.specs.Data.{Data}
use Rattle.nav_types.specs.declared.cells.Rect.{Rect}
use Rattle.posts.specs.declared.replies.TurnReplies.{TurnReplies}
use Rattle.posts.specs.declared.posts.Post.{Post}
use Rattle.posts.specs.Maps.{Map}
use Rattle.posts.specs.declared.notes.Note.{Note}
use Rattle.posts.specs.declared.notes.Report.{Report}
use Rattle.posts.specs.declared.notes.Report.TheVariants.{Answers}
use Rattle.turn_core.specs.Words.{Standing, bare}
use Rattle.posts.specs.Posts.{jobs}
use Rattle.turn_core.specs.Turns.{after_turn, OneThread, TellNumbers, IsTurnTold, IsOneThread, replies_in}
use Rattle.path_service.proofs.machine.Arriving.{answers_turn}
use Rattle.turn_core.proofs.OneNote.{answers_tell_nothing, notes_of_answers}
use Rattle.answer_text.specs.Answers.{turn_text}
use Rattle.answer_text.specs.Noted.{noted_text}
use Rattle.answer_text.proofs.NotesOfNothing.{text_of_nothing}
use Rattle.script_text.specs.declared.forms.CallerPost.{CallerPost}
use Rattle.input_lines.specs.Lines.{full_lines, tail_of}
use Rattle.script_text.specs.Forms.{map_of, base_of, post_of, end_of}
use Rattle.script_text.specs.declared.parts.Rules.{Rules}
use Rattle.script_text.specs.declared.parts.Part.{Part}
use Rattle.script_text.specs.declared.parts.Part.TheVariants.{BeforeMap as before_map, InBase as in_base, InTurns as in_turns}
use Rattle.script_text.specs.Script.{Place, beginning, Item, begins, adds_base, ends_turn, map_after, turns_of, Ends, at_place, stuck_by, Walk, chain, chain_from, counted, reading_of, map_line, end_line, turn_line, placed_in_turn, base_line, placed_in, is_long, accept, walk, is_empty, finish_in, finish, last_line, reading}
use Rattle.pathserve.specs.Output.{Said, unsaid, with_map, with_turn, IsTurnText, Gives, IsText, turn_texts, noted_texts, AreNotesInTurns}
use Rattle.pathserve.proofs.OneText.{some_same}

-- ---- the order of items

-- only turns
abbrev OnlyTurns : List Item → Type 0
OnlyTurns [] = ⊤
OnlyTurns (begins m ∷ items) = ⊥
OnlyTurns (adds_base rects ∷ items) = ⊥
OnlyTurns (ends_turn posts ∷ items) = OnlyTurns items

-- parts of the map, and then only turns
abbrev MapFirst : List Item → Type 0
MapFirst [] = ⊤
MapFirst (begins m ∷ items) = MapFirst items
MapFirst (adds_base rects ∷ items) = MapFirst items
MapFirst (ends_turn posts ∷ items) = OnlyTurns items

-- what may come from a part of the script on
abbrev Follows : Part → List Item → Type 0
Follows before_map items = MapFirst items
Follows (in_base rules) items = MapFirst items
Follows (in_turns rules) items = OnlyTurns items

-- the items may come from a part on, and where they end at a place, so may they with what may come from there on
abbrev FitsTo : Part → List Item → Ends → Type 0
FitsTo part items (at_place q) = (more : List Item) → Follows q.part more → Follows part (items ++ more)
FitsTo part items (stuck_by stop) = Follows part items

abbrev Fits : Part → Walk → Type 0
Fits part w = FitsTo part w.items w.ends

nothing_follows : (part : Part) → Follows part []
nothing_follows before_map = tt
nothing_follows (in_base rules) = tt
nothing_follows (in_turns rules) = tt

fits_joined : (part : Part) (items : List Item) (q : Place) (more : List Item) (ends : Ends)
    → FitsTo part items (at_place q) → FitsTo q.part more ends → FitsTo part (items ++ more) ends
fits_joined part items q more (at_place r) first next = λ rest follows.
    subst (λ (l : List Item). Follows part l) (sym (append_assoc items more rest)) (first (more ++ rest) (next rest follows))
fits_joined part items q more (stuck_by stop) first next = first more next

fits_chain_from : (part : Part) (items : List Item) (ends : Ends) (go_on : Place → Walk) → FitsTo part items ends
    → ((q : Place) → Fits q.part (go_on q)) → Fits part (chain_from items ends go_on)
fits_chain_from part items (at_place q) go_on here on = fits_joined part items q (go_on q).items (go_on q).ends here (on q)
fits_chain_from part items (stuck_by stop) go_on here on = here

fits_chain : (part : Part) (w : Walk) (go_on : Place → Walk) → Fits part w → ((q : Place) → Fits q.part (go_on q)) → Fits part (chain w go_on)
fits_chain part w go_on here on = fits_chain_from part w.items w.ends go_on here on

follows_all : (part : Part) (items : List Item) (ends : Ends) → FitsTo part items ends → Follows part items
follows_all part items (at_place q) fits = subst (λ (l : List Item). Follows part l) (append-nil items) (fits [] (nothing_follows q.part))
follows_all part items (stuck_by stop) fits = fits

fits_either : (b : Bool) (part : Part) (x y : Walk) → Fits part x → Fits part y → Fits part (if b then x else y)
fits_either true part x y p q = p
fits_either false part x y p q = q

-- ---- one line

-- turns may come here
abbrev TakesTurns : Part → Type 0
TakesTurns before_map = ⊥
TakesTurns (in_base rules) = ⊤
TakesTurns (in_turns rules) = ⊤

turns_are_last : (items : List Item) → OnlyTurns items → MapFirst items
turns_are_last [] only = tt
turns_are_last (begins m ∷ items) only = absurd only
turns_are_last (adds_base rects ∷ items) only = absurd only
turns_are_last (ends_turn posts ∷ items) only = only

turns_follow : (part : Part) → TakesTurns part → (more : List Item) → OnlyTurns more → Follows part more
turns_follow before_map takes more only = absurd takes
turns_follow (in_base rules) takes more only = turns_are_last more only
turns_follow (in_turns rules) takes more only = only

fits_map : (p : Place) (m : Option Map) → Fits before_map (map_line p m)
fits_map p None = tt
fits_map p (Some m) = λ more follows. follows

fits_end : (part : Part) → TakesTurns part → (p : Place) (rules : Rules) (number : Option ℕ) → Fits part (end_line p rules number)
fits_end part takes p rules None = nothing_follows part
fits_end part takes p rules (Some number) =
    fits_either (number == p.turns + 1) part _ _ (λ more follows. turns_follow part takes (ends_turn p.posts ∷ more) follows) (nothing_follows part)

fits_turn : (part : Part) → TakesTurns part → (p : Place) (rules : Rules) (said : Option CallerPost) (number : Option ℕ) → Fits part (turn_line p rules said number)
fits_turn part takes p rules (Some said) number = λ more follows. turns_follow part takes more follows
fits_turn part takes p rules None number = fits_end part takes p rules number

fits_in_turn : (part : Part) → TakesTurns part → (p : Place) (rules : Rules) (d : Option Data) → Fits part (placed_in_turn p rules d)
fits_in_turn part takes p rules d = fits_turn part takes p rules (option_and_then (post_of rules.version rules.callers) d) (option_and_then end_of d)

fits_base : (p : Place) (rules : Rules) (d : Option Data) (rects : Option (List (Rect × ℕ))) → p.part ≡ in_base rules → Fits (in_base rules) (base_line p rules d rects)
fits_base p rules d (Some rects) is = λ more follows. subst (λ (part : Part). Follows part more) is follows
fits_base p rules d None is = fits_in_turn (in_base rules) tt p rules d

fits_in : (part : Part) (p : Place) (d : Option Data) → p.part ≡ part → Fits part (placed_in part p d)
fits_in before_map p d is = fits_map p (option_and_then map_of d)
fits_in (in_base rules) p d is = fits_base p rules d (option_and_then (base_of rules.size) d) is
fits_in (in_turns rules) p d is = fits_in_turn (in_turns rules) tt p rules d

fits_line : (size : ℕ) (line : List ℕ) (p : Place) → Fits p.part (accept size line p)
fits_line size line p =
    fits_either (is_long p size line) p.part _ _ (nothing_follows p.part) (fits_in p.part (counted p size) (reading_of line) refl)

-- ---- the whole input

fits_walk : (lines : List (List ℕ)) (p : Place) → Fits p.part (walk lines p)
fits_walk [] p = λ more follows. follows
fits_walk (line ∷ lines) p =
    fits_chain p.part (accept (length line + 1) line p) (λ q. walk lines q) (fits_line (length line + 1) line p) (λ q. fits_walk lines q)

fits_finish_in : (part at : Part) (p : Place) → Fits part (finish_in at p)
fits_finish_in part before_map p = nothing_follows part
fits_finish_in part (in_base rules) p = nothing_follows part
fits_finish_in part (in_turns rules) p = fits_either (list_all is_empty p.posts) part _ _ (nothing_follows part) (nothing_follows part)

fits_last : (line : List ℕ) (p : Place) → Fits p.part (last_line line p)
fits_last [] p = fits_finish_in p.part p.part p
fits_last (byte ∷ bytes) p =
    fits_chain p.part (accept (length (byte ∷ bytes)) (byte ∷ bytes) p) finish (fits_line (length (byte ∷ bytes)) (byte ∷ bytes) p)
    (λ q. fits_finish_in q.part q.part q)

map_is_first : (bytes : List ℕ) → MapFirst (reading bytes beginning).items
map_is_first bytes =
    let fits : Fits before_map (reading bytes beginning) =
    fits_chain before_map (walk (full_lines bytes) beginning) (λ q. last_line (tail_of bytes) q) (fits_walk (full_lines bytes) beginning)
    (λ q. fits_last (tail_of bytes) q) in
    follows_all before_map (reading bytes beginning).items (reading bytes beginning).ends fits

-- ---- the texts of turns

-- the text of the turns of a journal, before which this stands, from one of this number on
abbrev AreTurnTexts : Report → Map → Standing → ℕ → List (List (List Post)) → List ℕ → Type 0
AreTurnTexts report m s number [] text = text ≡ []
AreTurnTexts report m s number (turn ∷ journal) text = (piece : List ℕ) × ((more : List ℕ) × (IsTurnText report m s number turn piece
    × (AreTurnTexts report m (after_turn m s turn) (number + 1) journal more × (text ≡ piece ++ more))))

-- turns leave the map as it is
map_stays : (items : List Item) (found : Option Map) → OnlyTurns items → map_after found items ≡ found
map_stays [] found only = refl
map_stays (begins m ∷ items) found only = absurd only
map_stays (adds_base rects ∷ items) found only = absurd only
map_stays (ends_turn posts ∷ items) found only = map_stays items found only

turns_told : (report : Report) (items : List Item) → OnlyTurns items → (s t : Said) (m : Map) (text : List ℕ) → s.map ≡ Some m
    → Gives report s items text t → AreTurnTexts report m s.standing (s.turns + 1) (turns_of items) text
turns_told report [] only s t m text map gives = gives.0
turns_told report (begins n ∷ items) only s t m text map gives = absurd only
turns_told report (adds_base rects ∷ items) only s t m text map gives = absurd only
turns_told report (ends_turn posts ∷ items) only s t m text map (piece, (mid, (more, ((n, (found, (is, after))), (gives, parts))))) =
    let one : n ≡ m = some_same n m s.map found map in
    let here : IsTurnText report m s.standing (s.turns + 1) posts piece =
    subst (λ (x : Map). IsTurnText report x s.standing (s.turns + 1) posts piece) one is in
    let from : mid ≡ with_turn s m posts = after ∙ ap (λ (x : Map). with_turn s x posts) one in
    let rest = turns_told report items only (with_turn s m posts) t m more map (subst (λ (x : Said). Gives report x items more t) from gives) in
    (piece, (more, (here, (rest, parts))))

-- a text that begins with nothing
only_more : (text piece more : List ℕ) → text ≡ piece ++ more → piece ≡ [] → text ≡ more
only_more text piece more parts none = parts ∙ ap (λ (l : List ℕ). l ++ more) none

items_told : (report : Report) (items : List Item) → MapFirst items → (s t : Said) (m : Map) (text : List ℕ) → map_after s.map items ≡ Some m
    → Gives report s items text t → AreTurnTexts report m s.standing (s.turns + 1) (turns_of items) text
items_told report [] first s t m text map gives = gives.0
items_told report (begins n ∷ items) first s t m text map (piece, (mid, (more, ((none, after), (gives, parts))))) =
    subst (λ (l : List ℕ). AreTurnTexts report m s.standing (s.turns + 1) (turns_of items) l) (sym (only_more text piece more parts none))
    (items_told report items first (with_map s (begins n)) t m more map (subst (λ (x : Said). Gives report x items more t) after gives))
items_told report (adds_base rects ∷ items) first s t m text map (piece, (mid, (more, ((none, after), (gives, parts))))) =
    subst (λ (l : List ℕ). AreTurnTexts report m s.standing (s.turns + 1) (turns_of items) l) (sym (only_more text piece more parts none))
    (items_told report items first (with_map s (adds_base rects)) t m more map (subst (λ (x : Said). Gives report x items more t) after gives))
items_told report (ends_turn posts ∷ items) first s t m text map gives =
    turns_told report (ends_turn posts ∷ items) first s t m text (sym (map_stays items s.map first) ∙ map) gives

turns_give : (report : Report) (items : List Item) → OnlyTurns items → (s : Said) (m : Map) (text : List ℕ) → s.map ≡ Some m
    → AreTurnTexts report m s.standing (s.turns + 1) (turns_of items) text → (t : Said) × Gives report s items text t
turns_give report [] only s m text map none = (s, (none, refl))
turns_give report (begins n ∷ items) only s m text map texts = absurd only
turns_give report (adds_base rects ∷ items) only s m text map texts = absurd only
turns_give report (ends_turn posts ∷ items) only s m text map (piece, (more, (here, (texts, parts)))) =
    let (t, gives) = turns_give report items only (with_turn s m posts) m more map texts in
    (t, (piece, (with_turn s m posts, (more, ((m, (map, (here, refl))), (gives, parts))))))

items_give : (report : Report) (items : List Item) → MapFirst items → (s : Said) (m : Map) (text : List ℕ) → map_after s.map items ≡ Some m
    → AreTurnTexts report m s.standing (s.turns + 1) (turns_of items) text → (t : Said) × Gives report s items text t
items_give report [] first s m text map none = (s, (none, refl))
items_give report (begins n ∷ items) first s m text map texts =
    let (t, gives) = items_give report items first (with_map s (begins n)) m text map texts in
    (t, ([], (with_map s (begins n), (text, ((refl, refl), (gives, refl))))))
items_give report (adds_base rects ∷ items) first s m text map texts =
    let (t, gives) = items_give report items first (with_map s (adds_base rects)) m text map texts in
    (t, ([], (with_map s (adds_base rects), (text, ((refl, refl), (gives, refl))))))
items_give report (ends_turn posts ∷ items) first s m text map texts =
    turns_give report (ends_turn posts ∷ items) first s m text (sym (map_stays items s.map first) ∙ map) texts

-- what is written for the turns of an input

input_told : (report : Report) (bytes text : List ℕ) (m : Map) → map_after None (reading bytes beginning).items ≡ Some m
    → IsText report (reading bytes beginning).items text → AreTurnTexts report m bare 1 (turns_of (reading bytes beginning).items) text
input_told report bytes text m map (t, gives) = items_told report (reading bytes beginning).items (map_is_first bytes) unsaid t m text map gives

input_gives : (report : Report) (bytes text : List ℕ) (m : Map) → map_after None (reading bytes beginning).items ≡ Some m
    → AreTurnTexts report m bare 1 (turns_of (reading bytes beginning).items) text → IsText report (reading bytes beginning).items text
input_gives report bytes text m map texts = items_give report (reading bytes beginning).items (map_is_first bytes) unsaid m text map texts

-- ---- one thread

-- the replies of one thread to a journal, with their numbers
abbrev Threads : Map → Standing → List (List (List Post)) → List TurnReplies → Type 0
Threads m s journal all = OneThread m s journal (replies_in all) × TellNumbers m s journal all

two_parts : (text piece more first rest : List ℕ) → text ≡ piece ++ more → piece ≡ first → more ≡ rest → text ≡ first ++ rest
two_parts text piece more first rest parts p q = parts ∙ (ap (λ (l : List ℕ). l ++ more) p ∙ ap (λ (l : List ℕ). first ++ l) q)

notes_told_from : (report : Report) (m : Map) (s : Standing) (number : ℕ) (journal : List (List (List Post))) (text : List ℕ)
    → AreTurnTexts report m s number journal text
    → (all : List TurnReplies) × ((lists : List (List Note)) × (Threads m s journal all × (AreNotesInTurns m s report journal lists × (text ≡ noted_texts number all lists))))
notes_told_from report m s number [] text none = ([], ([], ((tt, tt), (tt, none))))
notes_told_from report m s number (turn ∷ journal) text (piece, (more, ((told, (notes, (is, (are, says)))), (texts, parts)))) =
    let (all, (lists, ((threads, numbers), (others, rest)))) = notes_told_from report m (after_turn m s turn) (number + 1) journal more texts in (
      told ∷ all,
      (
        notes ∷ lists,
        (
          ((is.replies, threads), (is.numbers, numbers)),
          (
            (are, others),
            two_parts text piece more (noted_text number told notes) (noted_texts (number + 1) all lists) parts says rest,
          ),
        ),
      ),
    )

notes_give_from : (report : Report) (m : Map) (s : Standing) (number : ℕ) (journal : List (List (List Post))) (all : List TurnReplies) (lists : List (List Note))
    → Threads m s journal all → AreNotesInTurns m s report journal lists → AreTurnTexts report m s number journal (noted_texts number all lists)
notes_give_from report m s number [] [] lists threads are = refl
notes_give_from report m s number [] (told ∷ all) lists threads are = absurd threads.0
notes_give_from report m s number (turn ∷ journal) [] lists threads are = absurd threads.0
notes_give_from report m s number (turn ∷ journal) (told ∷ all) [] threads are = absurd are
notes_give_from report m s number (turn ∷ journal) (told ∷ all) (notes ∷ lists) ((replies, threads), (numbers, more)) (here, others) =
    let is : IsTurnTold m s turn told = record { replies = replies; numbers = numbers } in
    let rest = notes_give_from report m (after_turn m s turn) (number + 1) journal all lists (threads, more) others in
    (noted_text number told notes, (noted_texts (number + 1) all lists, ((told, (notes, (is, (here, refl)))), (rest, refl))))

-- the text is that of the replies of one thread and of the notes of its requests
pub notes_told : (report : Report) (bytes text : List ℕ) (m : Map) → map_after None (reading bytes beginning).items ≡ Some m
    → IsText report (reading bytes beginning).items text
    → (all : List TurnReplies) × ((lists : List (List Note)) × (IsOneThread m (turns_of (reading bytes beginning).items) all
    × (AreNotesInTurns m bare report (turns_of (reading bytes beginning).items) lists × (text ≡ noted_texts 1 all lists))))
notes_told report bytes text m map is =
    let (all, (lists, ((threads, numbers), rest))) =
    notes_told_from report m bare 1 (turns_of (reading bytes beginning).items) text (input_told report bytes text m map is) in
    (all, (lists, (record { replies = threads; numbers = numbers }, rest)))

-- and these give the text
pub notes_give : (report : Report) (bytes : List ℕ) (m : Map) (all : List TurnReplies) (lists : List (List Note)) → map_after None (reading bytes beginning).items ≡ Some m
    → IsOneThread m (turns_of (reading bytes beginning).items) all → AreNotesInTurns m bare report (turns_of (reading bytes beginning).items) lists
    → IsText report (reading bytes beginning).items (noted_texts 1 all lists)
notes_give report bytes m all lists map threads are =
    input_gives report bytes (noted_texts 1 all lists) m map
    (notes_give_from report m bare 1 (turns_of (reading bytes beginning).items) all lists (threads.replies, threads.numbers) are)

-- ---- one thread, where nothing is told beside the answers

-- the texts are those of the replies alone
texts_of_answers : (m : Map) (s : Standing) (number : ℕ) (journal : List (List (List Post))) (all : List TurnReplies) (lists : List (List Note))
    → Threads m s journal all → AreNotesInTurns m s Answers journal lists → noted_texts number all lists ≡ turn_texts number all
texts_of_answers m s number [] [] lists threads are = refl
texts_of_answers m s number [] (told ∷ all) lists threads are = absurd threads.0
texts_of_answers m s number (turn ∷ journal) [] lists threads are = absurd threads.0
texts_of_answers m s number (turn ∷ journal) (told ∷ all) [] threads are = absurd are
texts_of_answers m s number (turn ∷ journal) (told ∷ all) (notes ∷ lists) ((replies, threads), (numbers, more)) (here, others) =
    let none = answers_tell_nothing m (after_turn m s turn) (jobs turn) notes here in
    two_parts (noted_text number told notes ++ noted_texts (number + 1) all lists) (noted_text number told notes) (noted_texts (number + 1) all lists)
    (turn_text number told) (turn_texts (number + 1) all) refl (text_of_nothing number told notes none)
    (texts_of_answers m (after_turn m s turn) (number + 1) journal all lists (threads, more) others)

-- there are notes that tell nothing
notes_in_turns : (m : Map) (s : Standing) (journal : List (List (List Post))) (all : List TurnReplies)
    → OneThread m s journal (replies_in all) → (lists : List (List Note)) × AreNotesInTurns m s Answers journal lists
notes_in_turns m s [] all threads = ([], tt)
notes_in_turns m s (turn ∷ journal) [] threads = absurd threads
notes_in_turns m s (turn ∷ journal) (told ∷ all) (replies, threads) =
    let final = after_turn m s turn in
    let answers = answers_turn m final s turn told.replies replies in
    let notes = notes_of_answers m final (jobs turn) answers.0 answers.1 in
    let more = notes_in_turns m final journal all threads in
    (notes.0 ∷ more.0, (notes.1, more.1))

-- the text is that of the replies of one thread
pub one_thread_told : (bytes text : List ℕ) (m : Map) → map_after None (reading bytes beginning).items ≡ Some m
    → IsText Answers (reading bytes beginning).items text
    → (all : List TurnReplies) × (IsOneThread m (turns_of (reading bytes beginning).items) all × (text ≡ turn_texts 1 all))
one_thread_told bytes text m map is =
    let (all, (lists, (threads, (are, texts)))) = notes_told Answers bytes text m map is in
    (all, (threads, texts ∙ texts_of_answers m bare 1 (turns_of (reading bytes beginning).items) all lists (threads.replies, threads.numbers) are))

-- the replies of one thread give the text
pub one_thread_gives : (bytes : List ℕ) (m : Map) (all : List TurnReplies) → map_after None (reading bytes beginning).items ≡ Some m
    → IsOneThread m (turns_of (reading bytes beginning).items) all → IsText Answers (reading bytes beginning).items (turn_texts 1 all)
one_thread_gives bytes m all map threads =
    let journal = turns_of (reading bytes beginning).items in
    let (lists, are) = notes_in_turns m bare journal all threads.replies in
    subst (λ (text : List ℕ). IsText Answers (reading bytes beginning).items text)
    (texts_of_answers m bare 1 journal all lists (threads.replies, threads.numbers) are)
    (notes_give Answers bytes m all lists map threads are)
