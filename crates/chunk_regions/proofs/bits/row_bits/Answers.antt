use Rattle.std.proofs.Common.{◌≡◌, ◌<◌, ◌+◌, ◌-◌, ◌^◌, ◌==◌, ◌∙◌, ap, inl, inr, sym, subst, arith}
use Rattle.std.specs.Int.{bit_at}
use Rattle.std.proofs.lemmas.Bool.{cases_lt}
use Rattle.nav_types.specs.Cells.{cell_at}
use Rattle.chunk_regions.proofs.BitLemmas.{IsPushed, push_bit, pow_at_most}
use Rattle.chunk_regions.proofs.bits.row_bits.Goals as goal

pub overflow_add-bits : goal.overflow_add-bits
overflow_add-bits g c =
    let w = c.loop-i.i - c.args.west in
    let pushed = push_bit c.loop-i.bits w c.passable.result c.loop-i.invariant.few in
    let few = pushed.few in
    let bit = c.bit-bits.ensures in
    let wide = c.requires.wide in
    let here = c.loop-i-test.true in
    let most = pow_at_most (w + 1) 96 (omega arith) in
    omega arith

pub loop-i-preserved : goal.loop-i-preserved
loop-i-preserved g c =
    let west = c.args.west in
    let i = c.loop-i.i in
    let w = i - west in
    let low = c.loop-i.auto.i in
    let passes = g.V.View.passes c.args.view.now c.args.class in
    let bits = c.loop-i.bits in
    let new = bits + c.bit-bits.result in
    let pushed : IsPushed bits w c.passable.result new = subst (λ b. IsPushed bits w c.passable.result (bits + b)) (sym c.bit-bits.ensures)
    (push_bit bits w c.passable.result c.loop-i.invariant.few) in
    let next : w + 1 ≡ i + 1 - west = omega arith in
    record {
      few = subst (λ k. new < 2 ^ k) next pushed.few;
      bits = λ column less. elim (cases_lt column w) [
        | inl earlier ↦ ap (λ b. b == 1) (pushed.others column earlier) ∙ c.loop-i.invariant.bits column (omega arith)
        | inr newest ↦
            let same : column ≡ w = omega arith in
            let place : i ≡ west + column = omega arith in
            ap (λ k. bit_at new k == 1) same ∙ pushed.last ∙ c.passable.ensures ∙ ap passes c.new.ensures ∙ ap (λ k. passes (cell_at k c.args.j)) place
      ];
    }
