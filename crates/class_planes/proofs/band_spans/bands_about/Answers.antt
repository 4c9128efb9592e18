use Rattle.std.proofs.Common.{ℕ, List, ◌≤◌, ◌+◌, get_or, sym, subst, arith}
use Rattle.std.specs.Prelude.{All}
use Rattle.std.proofs.lemmas.List.{take_all}
use Rattle.std.proofs.lemmas.List.Elements.{All-more}
use Rattle.nav_types.specs.declared.cells.Rect.{Rect}
use Rattle.class_planes.specs.inner.Spans.{IsLineAbout}
use Rattle.class_planes.proofs.band_spans.bands_about.Goals as goal

pub loop-rect-preserved : goal.loop-rect-preserved
loop-rect-preserved c n few out =
    let rects = c.args.rects.now in
    let at : ℕ = c.loop-rect.rect-index in
    let none : Rect = record { i0 = 0; j0 = 0; i1 = 0; j1 = 0 } in
    let rect : Rect = get_or rects at none in
    let is = c.range_of.ensures in
    All-more (λ (r : Rect). IsLineAbout c.args.axis r n → ⊥) rects at none c.loop-rect-test.true
    (c.loop-rect.invariant n few
    (λ from to. out (omega (arith, from, c.widened-span.ensures.from)) (omega (arith, to, c.widened-span.ensures.to))))
    (λ about.
    let first : c.range_of.result.0 ≤ n + 1 = subst (λ (p : ℕ × ℕ). p.0 ≤ n + 1) (sym is) about.from in
    let last : n ≤ c.range_of.result.1 + 1 = subst (λ (p : ℕ × ℕ). n ≤ p.1 + 1) (sym is) about.to in
    let met = c.widened-span.ensures.about n few first last in out met.0 met.1)

pub returns-clause-about : goal.returns-clause-about
returns-clause-about c n within out =
    subst (λ (rects : List Rect). All (λ rect. IsLineAbout c.args.axis rect n → ⊥) rects)
    (take_all c.loop-rect.rect-index c.args.rects.now (omega arith))
    (c.loop-rect.invariant n (omega (arith, within, c.requires.few))
    (λ from to. out (omega (arith, from)) (omega (arith, to, within))))
