use Rattle.std.proofs.Common.{◌≡◌, ◌<◌, ◌∙◌, ap, inl, inr, sym, arith}
use Rattle.std.specs.Int.{bit_at}
use Rattle.std.specs.Prelude.{slice_index}
use Rattle.std.proofs.lemmas.Bool.{cases_lt}
use Rattle.chunk_regions.proofs.BitLemmas.{set_below}
use Rattle.chunk_regions.proofs.bits.are_inside.Goals.{then-row-height, else-row-height}
use Rattle.chunk_regions.proofs.bits.are_inside.Goals as goal

pub loop-row-preserved : goal.loop-row-preserved
loop-row-preserved c = λ row column low less set. elim (cases_lt row c.loop-row.row) [
  | inl earlier ↦ c.loop-row.invariant row column low earlier set
  | inr newest ↦
      let same : row ≡ c.loop-row.row = omega (arith, less, newest) in
      let bits = c.row.result in
      let room = c.if-row-height.room in
      let one : bit_at bits column ≡ 1 = ap (λ b. bit_at b column) (c.row.ensures.value ∙ ap (λ r. slice_index c.args.bits.now r) (sym same)) ∙ set in
      let left : column < room = set_below bits room column c.if-row-room-ne0.false one in
      elim c.if-row-height.branch [
        | then-row-height w ↦ let here = w.if-row-height.true in let is = w.room-is in (omega arith, omega arith)
        | else-row-height w ↦ let is = w.room-is in absurd (omega arith)
      ]
]
