-- Where a turn is held, nothing is read for it.
use Rattle.std.proofs.Common.{◌≡◌, ℕ, ◌⊎◌, inl, inr, List, [], ◌∷◌, ◌++◌, Bool, Option, Some, None, Result, Ok, Err, refl, ap, sym, ◌∙◌}
use Rattle.std.proofs.lemmas.List.{append-nil}
use Rattle.std.proofs.lemmas.List.Elements.{All-nil}
use Rattle.script_text.specs.declared.faults.ScriptFault.{ScriptFault}
use Rattle.script_text.specs.declared.faults.ScriptFault.TheVariants.{BadLine, TooLong, ReadFault, NoMemory}
use Rattle.input_lines.specs.Lines.{full_lines, unlines, IsPlain}
use Rattle.script_text.specs.declared.items.ScriptItem.{ScriptItem}
use Rattle.script_text.specs.Items.{ItemAnswers, ItemTold}
use Rattle.script_text.specs.Pushed.{item_of}
use Rattle.script_text.specs.Script.{Item, Walk, walk}
use Rattle.script_text.specs.Reader.{Held, HoldsTurn, UsesLines, GoesOn, Refuses, ReadsWhile, TakesNoneAhead}
use Rattle.input_lines.specs.Held.{HasLine}
use Rattle.input_lines.proofs.LineLists.{full_lines-behind}
use Rattle.input_lines.proofs.ToldLines.{told-weaker}

-- ---- lines that are held

-- a reader that held a turn, and has used lines without its end, still holds a line
pub holds_line : (old new : Held) → HoldsTurn old → UsesLines old new [] [] → HasLine new.bytes
holds_line old new holds u none =
    let bytes : old.bytes ≡ unlines u.lines ++ new.bytes = sym (append-nil old.bytes) ∙ u.bytes in
    let lines : full_lines old.bytes ≡ u.lines =
    ap full_lines bytes ∙ full_lines-behind u.lines new.bytes u.plain ∙ ap (λ more. u.lines ++ more) none ∙ append-nil u.lines in
    holds new.place (ap (λ some. walk some old.place) lines ∙ u.walked)

-- before the first line
pub uses_none : (h : Held) → UsesLines h h [] []
uses_none h = record { lines = []; plain = All-nil IsPlain; bytes = append-nil h.bytes; walked = refl }

-- ---- whether calls may follow plays no part in what is told

abbrev pub with_flags : Held → Bool → Bool → Held
with_flags h over failed = record h { over = over; failed = failed }

uses_flags : (old new : Held) (a b c d : Bool) (taken : List ℕ) (items : List Item) → UsesLines old new taken items → UsesLines (with_flags old a b) (with_flags new c d) taken items
uses_flags old new a b c d taken items u = record { lines = u.lines; plain = u.plain; bytes = u.bytes; walked = u.walked }

goes_flags : (old new : Held) (a b c d : Bool) (x y : List ℕ) (items : List Item) → GoesOn old new x y items → GoesOn (with_flags old a b) (with_flags new c d) x y items
goes_flags old new a b c d x y items g =
    record { taken = g.taken; took = g.took; same = g.same; cause = g.cause; at_end = g.at_end; used = λ going. uses_flags old new a b c d g.taken items (g.used going) }

refuses_flags : (old new : Held) (a b c d : Bool) (x y : List ℕ) (items : List Item) (fault : ScriptFault) → Refuses old new x y items fault
    → Refuses (with_flags old a b) (with_flags new c d) x y items fault
refuses_flags old new a b c d x y items (BadLine n) r = record { stuck = r.stuck; cause = r.cause }
refuses_flags old new a b c d x y items (TooLong n) r = r
refuses_flags old new a b c d x y items ReadFault r =
    record { going = r.going; taken = r.taken; took = r.took; used = uses_flags old new a b c d r.taken items r.used; no_line = r.no_line }
refuses_flags old new a b c d x y items NoMemory r = r

item_answers_flags : (old new : Held) (a b c d : Bool) (x y : List ℕ) (result : Result (Option ScriptItem) ScriptFault) → ItemAnswers old new result x y
    → ItemAnswers (with_flags old a b) (with_flags new c d) result x y
item_answers_flags old new a b c d x y (Ok (Some item)) t = goes_flags old new a b c d x y (item_of item ∷ []) t
item_answers_flags old new a b c d x y (Ok None) t = record { whole = t.whole; nothing = t.nothing }
item_answers_flags old new a b c d x y (Err fault) t = refuses_flags old new a b c d x y [] fault t

pub item_flags : (old new : Held) (a b c d : Bool) (left later : Option (List ℕ)) (result : Result (Option ScriptItem) ScriptFault) → ItemTold old new left later result
    → ItemTold (with_flags old a b) (with_flags new c d) left later result
item_flags old new a b c d left later result = told-weaker left later _ _ (λ x y t end. item_answers_flags old new a b c d x y result (t end))

ahead_by : (Wants : Walk → Type 0) (old : Held) (a b : Bool) (x y : List ℕ) → (x ≡ y) ⊎ ReadsWhile Wants old x y → (x ≡ y) ⊎ ReadsWhile Wants (with_flags old a b) x y
ahead_by Wants old a b x y (inl e) = inl e
ahead_by Wants old a b x y (inr r) = inr (record { earlier = r.earlier; piece = r.piece; took = r.took; few = r.few; going = r.going; wants = r.wants })

pub ahead_flags : (Wants : Walk → Type 0) (old : Held) (a b : Bool) (left later : Option (List ℕ)) → TakesNoneAhead Wants old left later → TakesNoneAhead Wants (with_flags old a b) left later
ahead_flags Wants old a b left later = told-weaker left later _ _ (λ x y t. ahead_by Wants old a b x y t)
