use Rattle.std.proofs.Common.{◌≡◌, ◌∙◌, ℕ, ◌+◌, ◌==◌, ◌≤◌, eqb-true, Bool, true, false, List, [], ◌∷◌, ◌++◌, length, cond, Option, Some, IfOk, refl, ap, sym, subst, arith}
use Rattle.input_lines.specs.Lines.{first_line}
use Rattle.script_text.specs.declared.causes.Cause.{Cause}
use Rattle.script_text.specs.Script.{Place}
use Rattle.script_text.specs.Causes.{cause, end_cause, next_cause}
use Rattle.script_text.specs.Reader.{held_cause}
use Rattle.script_text.specs.inner.Judging.{cause_of_held}
use Rattle.script_text.proofs.reader.ScriptReader.cause.Goals as goal

no_bytes : (bytes : List ℕ) → length bytes ≤ 0 → bytes ≡ []
no_bytes [] e = refl
no_bytes (byte ∷ bytes) e = absurd (omega (arith, e))

-- where the script holds nothing, what was taken comes next
next_taken : (p : Place) (bytes : List ℕ) (count : ℕ) (line : List ℕ) → count ≡ length bytes → line ≡ first_line bytes → cause_of_held p count line ≡ next_cause p bytes
next_taken p [] count line counted is = ap (λ n. cond (n == 0) (end_cause p.part p.posts) (cause p.part (p.turns + 1) line)) counted
next_taken p (byte ∷ bytes) count line counted is = by_test (count == 0) refl
  where
    by_test : (test : Bool) → (count == 0) ≡ test → cond test (end_cause p.part p.posts) (cause p.part (p.turns + 1) line) ≡ cause p.part (p.turns + 1) (first_line (byte ∷ bytes))
    by_test true e = let nothing : count ≡ 0 = eqb-true count 0 e in absurd (omega (arith, nothing, counted))
    by_test false e = ap (λ l. cause p.part (p.turns + 1) l) is

pub returns : goal.returns
returns c =
    let i = c.self.inside in
    let none : i.script.bytes ≡ [] = no_bytes i.script.bytes (omega (arith, c.if-held-gt0.false, c.held.ensures.bytes)) in
    let same : cause_of_held i.script.place c.len.result c.first_line.result.now ≡ held_cause c.args.self.now =
    next_taken i.script.place i.taken.bytes c.len.result c.first_line.result.now c.len.ensures.bytes c.first_line.ensures
    ∙ ap (λ bytes. next_cause i.script.place (bytes ++ i.taken.bytes)) (sym none) ∙ ap held_cause c.self.view_is
    in
    let Says : Option Cause → Type 0 = λ why. IfOk c.cause_behind.result (λ found. Some found ≡ why) in
    record { cause = subst Says same c.cause_behind.ensures.cause }
