use Rattle.std.proofs.Common.{ℕ, ◌≡◌, ◌*◌, ◌∙◌, ap, get_or, arith}
use Rattle.std.specs.Int.{abs_diff}
use Rattle.landmarks.specs.declared.units.TheConstants.{UNIT_COST}
use Rattle.landmarks.specs.Landmarks.{greatest_apart, landmark_bound, number_of}
use Rattle.landmarks.proofs.Bounds.{apart_more}
use Rattle.landmarks.proofs.tables.Landmarks.at_least.Goals as goal

pub loop-table-preserved : goal.loop-table-preserved
loop-table-preserved c =
    let tables = c.args.self.now in
    let k = c.loop-table.table in
    let a = number_of tables c.args.from k in
    let b = number_of tables c.args.to k in
    let below = c.loop-table-test.true in
    let x = get_or c.numbers_of-here.result.now k 0 in
    let y = get_or c.numbers_of-there.result.now k 0 in
    let here : x ≡ a = c.numbers_of-here.ensures.each k below in
    let there : y ≡ b = c.numbers_of-there.ensures.each k below in
    let before : c.loop-table.most ≡ greatest_apart tables c.args.from c.args.to k = c.loop-table.invariant in
    let apart : abs_diff x y ≡ abs_diff a b = ap (λ (n : ℕ). abs_diff n y) here ∙ ap (λ (n : ℕ). abs_diff a n) there in
    let grown = apart_more tables c.args.from c.args.to k in
    omega (arith, c.max-most.ensures, c.abs_diff.ensures, apart, before, grown)

pub returns-clause-value : goal.returns-clause-value
unfolding landmark_bound
returns-clause-value c =
    let all : c.loop-table.table ≡ 8 = omega (arith, c.loop-table-test.false, c.loop-table.auto.table-end) in
    let is : c.loop-table.most ≡ greatest_apart c.args.self.now c.args.from c.args.to 8 =
    c.loop-table.invariant ∙ ap (λ (n : ℕ). greatest_apart c.args.self.now c.args.from c.args.to n) all in
    ap (λ (g : ℕ). UNIT_COST * g) is
