-- Nothing is read ahead: each read is made where no newline is held, and so where the call wants more.
use Rattle.std.proofs.Common.{◌≡◌, ℕ, ◌⊎◌, List, [], ◌++◌, Option, Some, None, IsTrue, refl, ap, sym, subst, inl, inr, ◌∙◌, append_assoc}
use Rattle.std.proofs.lemmas.Bool.{false≢true}
use Rattle.io_edges.specs.Passing.{HasGiven}
use Rattle.input_lines.specs.Lines.{full_lines, unlines}
use Rattle.input_lines.specs.Held.{WhereTold}
use Rattle.input_lines.proofs.LineLists.{full_lines-behind}
use Rattle.input_lines.proofs.ToldLines.{told-same}
use Rattle.script_text.specs.Script.{Item, Walk, arrived, chain, walk}
use Rattle.script_text.specs.Reader.{Held, GoesOn, ReadsWhile, TakesNoneAhead}
use Rattle.script_text.proofs.ReadNext.{not_ended}
use Rattle.script_text.proofs.ReadWalk.{walk-append}

pub ahead-none : (Wants : Walk → Type 0) (old : Held) (left : Option (List ℕ)) → TakesNoneAhead Wants old left left
ahead-none Wants old left = told-same left _ (λ x. inl refl)

-- ---- lines one after another

-- lines were used that give these items, and what is wanted behind them is wanted with them in front
pub record LeadsOn (Wants : Walk → Type 0) (old new : Held) (before after : List ℕ) : Type 0 where
  pub items : List Item
  pub on : GoesOn old new before after items
  pub wants : (w : Walk) → Wants w → Wants (chain (arrived items new.place) (λ q. w))

abbrev pub LeadsTold : (Walk → Type 0) → Held → Held → Option (List ℕ) → Option (List ℕ) → Type 0
LeadsTold Wants old new left later = WhereTold left later (λ before after. (IsTrue old.ended → before ≡ []) → LeadsOn Wants old new before after)

then_by : (Wants : Walk → Type 0) (old new : Held) (x y z : List ℕ) → (IsTrue old.ended → IsTrue new.ended) → ((IsTrue old.ended → x ≡ []) → LeadsOn Wants old new x y)
    → (x ≡ y) ⊎ ReadsWhile Wants old x y → (y ≡ z) ⊎ ReadsWhile Wants new y z → (x ≡ z) ⊎ ReadsWhile Wants old x z
then_by Wants old new x y z stays leads before (inl e) = let P : List ℕ → Type 0 = λ l. (x ≡ l) ⊎ ReadsWhile Wants old x l in subst P e before
then_by Wants old new x y z stays leads before (inr r) =
    let going = not_ended old.ended new.ended stays r.going in
    let l = leads (λ ended. absurd (false≢true (sym going ∙ ended))) in
    let u = l.on.used r.going in
    let more = full_lines (new.bytes ++ r.earlier) in
    let bytes : old.bytes ++ (l.on.taken ++ r.earlier) ≡ unlines u.lines ++ (new.bytes ++ r.earlier) =
    sym (append_assoc old.bytes l.on.taken r.earlier) ∙ ap (λ b. b ++ r.earlier) u.bytes ∙ append_assoc (unlines u.lines) new.bytes r.earlier in
    let walked : walk (full_lines (old.bytes ++ (l.on.taken ++ r.earlier))) old.place ≡ chain (arrived l.items new.place) (λ q. walk more new.place) =
    ap (λ lines. walk lines old.place) (ap full_lines bytes ∙ full_lines-behind u.lines (new.bytes ++ r.earlier) u.plain)
    ∙ walk-append u.lines more old.place ∙ ap (λ w. chain w (λ q. walk more q)) u.walked in
    inr (record {
      earlier = l.on.taken ++ r.earlier;
      piece = r.piece;
      took = l.on.took ∙ ap (λ b. l.on.taken ++ b) r.took ∙ sym (append_assoc l.on.taken r.earlier (r.piece ++ z));
      few = r.few;
      going = going;
      wants = subst Wants (sym walked) (l.wants (walk more new.place) r.wants);
    })

pub ahead_then : (Wants : Walk → Type 0) (old new : Held) (a b c : Option (List ℕ)) → (IsTrue old.ended → IsTrue new.ended) → LeadsTold Wants old new a b → TakesNoneAhead Wants old a b → TakesNoneAhead Wants new b c
    → TakesNoneAhead Wants old a c
ahead_then Wants old new None b c stays leads before next = tt
ahead_then Wants old new (Some x) None c stays leads before next = absurd leads
ahead_then Wants old new (Some x) (Some y) None stays leads before next = absurd next
ahead_then Wants old new (Some x) (Some y) (Some z) stays leads before next = then_by Wants old new x y z stays leads before next

-- ---- what the source gave

pub given_ahead : (Wants : Walk → Type 0) (old : Held) (a b : Option (List ℕ)) → TakesNoneAhead Wants old a b → HasGiven a b
given_ahead Wants old None b ahead = record { given = []; rest = tt }
given_ahead Wants old (Some x) None ahead = absurd ahead
given_ahead Wants old (Some x) (Some y) (inl same) = record { given = []; rest = same }
given_ahead Wants old (Some x) (Some y) (inr r) =
    record { given = r.earlier ++ r.piece; rest = r.took ∙ sym (append_assoc r.earlier r.piece y) }
