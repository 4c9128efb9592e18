use Rattle.std.proofs.Common.{◌≡◌, ◌∙◌, ℕ, zero, suc, ◌+◌, ◌==◌, ◌≤◌, eqb-true, List, [], ◌∷◌, length, Bool, true, false, cond, Option, Some, IfOk, refl, ap, sym, subst, arith}
use Rattle.std.specs.Prelude.{IsSome}
use Rattle.input_lines.specs.Held.{HeldLine, bytes_of}
use Rattle.input_lines.specs.Lines.{IsPlain}
use Rattle.script_text.specs.declared.causes.Cause.{Cause}
use Rattle.script_text.specs.Script.{Place}
use Rattle.script_text.specs.Causes.{cause, end_cause, next_cause}
use Rattle.script_text.specs.Reader.{Held, held_cause}
use Rattle.script_text.specs.inner.Judging.{cause_of_held}
use Rattle.script_text.proofs.PushedEnds.{cause-held}
use Rattle.script_text.proofs.PushedReads.{nothing_behind}
use Rattle.script_text.proofs.pushed.PushedScript.cause.Goals as goal

no_bytes : (bytes : List ℕ) → 0 ≡ length bytes → bytes ≡ []
no_bytes [] e = refl
no_bytes (byte ∷ bytes) e = absurd (omega (arith, e))

some_held : (held : ℕ) → (held == 0) ≡ false → 1 ≤ held
some_held zero e = absurd (cc)
some_held (suc n) e = omega arith

-- the line that is held is the first
first_cause : (p : Place) (h : HeldLine) (held : ℕ) (line : List ℕ) → h.rest ≡ nothing_behind → held ≡ length (bytes_of h) → line ≡ h.line → IsPlain line
    → cause_of_held p held line ≡ next_cause p (bytes_of h)
first_cause p h held line behind counted is plain = by_test (held == 0) refl
  where
    by_test : (test : Bool) → (held == 0) ≡ test → cond test (end_cause p.part p.posts) (cause p.part (p.turns + 1) line) ≡ next_cause p (bytes_of h)
    by_test true e = let nothing : held ≡ 0 = eqb-true held 0 e in ap (next_cause p) (sym (no_bytes (bytes_of h) (omega (arith, nothing, counted))))
    by_test false e = ap (λ l. cause p.part (p.turns + 1) l) is ∙ sym (cause-held p h held behind counted (some_held held e) (subst IsPlain is plain))

pub cause-requires : goal.cause-requires
cause-requires c =
    let i = c.self.inside in
    let counted = c.held.ensures.bytes ∙ ap (λ (h : Held). length h.bytes) (sym c.self.view_is) in
    let same = first_cause i.progress i.line c.held.result c.line.result.now c.self.invariant.behind counted c.line.ensures.line c.line.ensures.plain ∙ ap held_cause c.self.view_is in
    record { bad = subst (λ (why : Option Cause). IsSome why) (sym same) c.requires.bad }

pub returns : goal.returns
returns c =
    let i = c.self.inside in
    let counted = c.held.ensures.bytes ∙ ap (λ (h : Held). length h.bytes) (sym c.self.view_is) in
    let same = first_cause i.progress i.line c.held.result c.line.result.now c.self.invariant.behind counted c.line.ensures.line c.line.ensures.plain ∙ ap held_cause c.self.view_is in
    let Says : Option Cause → Type 0 = λ why. IfOk c.cause.result (λ found. Some found ≡ why) in
    record { cause = subst Says same c.cause.ensures.cause }
