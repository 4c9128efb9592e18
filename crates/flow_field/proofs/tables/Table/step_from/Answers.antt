use Rattle.std.proofs.Common.{ℕ, ◌<◌, get_or, refl, below_more, arith}
use Rattle.std.proofs.lemmas.Bool.{both_ways}
use Rattle.nav_types.specs.declared.directions.Dir.{Dir}
use Rattle.nav_types.specs.declared.directions.Dir.TheVariants.{N}
use Rattle.walks.specs.Chosen.{preference}
use Rattle.walks.proofs.Tracing.{first_at}
use Rattle.walks.proofs.Sweeping.{each_dir}
use Rattle.flow_field.specs.inner.Ways.{LeadsNearer}
use Rattle.flow_field.proofs.tables.Table.step_from.Goals as goal

pub returns-then-leads_nearer-clause-some : goal.returns-then-leads_nearer-clause-some
returns-then-leads_nearer-clause-some c =
    let table = c.args.self.now in
    let k = c.loop-dir.dir-index in
    first_at (LeadsNearer table.size table.marks.items c.args.at) preference k (get_or preference k N) N c.loop-dir-test.true c.loop-dir.invariant refl (c.leads_nearer.ensures.0 c.if-leads_nearer.true)

pub loop-dir-preserved : goal.loop-dir-preserved
loop-dir-preserved c =
    let table = c.args.self.now in
    below_more (λ (k : ℕ). LeadsNearer table.size table.marks.items c.args.at (get_or preference k N) → ⊥) c.loop-dir.dir-index c.loop-dir.invariant
    (λ nearer. both_ways c.leads_nearer.result c.if-leads_nearer.false (c.leads_nearer.ensures.1 nearer))

pub returns-clause-none : goal.returns-clause-none
returns-clause-none c =
    let table = c.args.self.now in
    let Nearer = LeadsNearer table.size table.marks.items c.args.at in
    let none : (k : ℕ) → k < 8 → Nearer (get_or preference k N) → ⊥ = λ k below. c.loop-dir.invariant k (omega (arith, below, c.loop-dir-test.false)) in
    each_dir (λ (dir : Dir). Nearer dir → ⊥) (none 0 (omega arith)) (none 1 (omega arith)) (none 2 (omega arith)) (none 3 (omega arith))
    (none 4 (omega arith)) (none 5 (omega arith)) (none 6 (omega arith)) (none 7 (omega arith))
