use Rattle.std.proofs.Common.{ℕ, ◌≡◌, ◌*◌, ◌∙◌, ap, arith}
use Rattle.landmarks.specs.declared.units.TheConstants.{UNIT_COST}
use Rattle.landmarks.specs.Spans.{greatest_outside, span_bound}
use Rattle.landmarks.proofs.Spanning.{outside_more}
use Rattle.landmarks.proofs.tables.Landmarks.at_least_to.Goals as goal

pub loop-table-preserved : goal.loop-table-preserved
loop-table-preserved c =
    let tables = c.args.self.now in
    let span = c.args.span.now in
    let k = c.loop-table.table in
    let is = c.numbers_of-numbers.ensures.each k c.loop-table-test.true in
    let before : c.loop-table.most ≡ greatest_outside tables span c.args.from k = c.loop-table.invariant in
    let grown = outside_more tables span c.args.from k in
    omega (arith, c.max-most.ensures, c.max.ensures, c.saturating_sub-below.ensures, c.saturating_sub-above.ensures, is, before, grown)

pub returns-clause-value : goal.returns-clause-value
unfolding span_bound
returns-clause-value c =
    let all : c.loop-table.table ≡ 8 = omega (arith, c.loop-table-test.false, c.loop-table.auto.table-end) in
    let is : c.loop-table.most ≡ greatest_outside c.args.self.now c.args.span.now c.args.from 8 =
    c.loop-table.invariant ∙ ap (λ (n : ℕ). greatest_outside c.args.self.now c.args.span.now c.args.from n) all in
    ap (λ (g : ℕ). UNIT_COST * g) is
