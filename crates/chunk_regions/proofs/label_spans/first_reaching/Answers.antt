use Rattle.std.proofs.Common.{◌≡◌, ◌∙◌, inl, inr, ap, sym, arith}
use Rattle.std.specs.Prelude.{slice_get}
use Rattle.std.proofs.lemmas.Bool.{cases_lt}
use Rattle.std.proofs.lemmas.Option.{same_Some}
use Rattle.chunk_regions.specs.declared.spans.Span.{Span}
use Rattle.chunk_regions.proofs.label_spans.first_reaching.Goals as goal

pub loop-at-preserved : goal.loop-at-preserved
loop-at-preserved c = λ k span from below found. elim (cases_lt k c.loop-at.at) [
  | inl less ↦ c.loop-at.invariant k span from less found
  | inr more ↦
      let same : k ≡ c.loop-at.at = omega arith in
      let short = c.if-column-span.false in
      let one : span.last ≡ c.span.result.last = ap (λ (s : Span). s.last)
      (same_Some span c.span.result (sym found ∙ ap (λ i. slice_get c.args.rows.now.spans i) same ∙ c.span.ensures.value)) in
      omega arith
]
