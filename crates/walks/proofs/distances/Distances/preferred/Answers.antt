use Rattle.std.proofs.Common.{ℕ, ◌<◌, get_or, below_more, arith}
use Rattle.nav_types.specs.declared.directions.Dir.{Dir}
use Rattle.nav_types.specs.declared.directions.Dir.TheVariants.{N}
use Rattle.walks.specs.Chosen.{Enters, preference}
use Rattle.walks.specs.inner.Tables.{entry}
use Rattle.walks.proofs.Walking.{some_enters}
use Rattle.walks.proofs.Sweeping.{each_dir}
use Rattle.walks.proofs.Tracing.{first_at}
use Rattle.walks.proofs.distances.Distances.preferred.Goals as goal

pub returns-in-Some-clause-first : goal.returns-in-Some-clause-first
returns-in-Some-clause-first g c =
    first_at (Enters (g.V.View.passes c.args.view.now c.args.class) c.args.self.now.start c.args.cell) preference c.loop-dir.dir-index c.in-Some.arrival.dir N
    c.loop-dir-test.true c.loop-dir.invariant c.in-Some.ensures.dir c.in-Some.ensures.some.enters

pub loop-dir-preserved : goal.loop-dir-preserved
loop-dir-preserved g c =
    below_more (λ (k : ℕ). Enters (g.V.View.passes c.args.view.now c.args.class) c.args.self.now.start c.args.cell (get_or preference k N) → ⊥) c.loop-dir.dir-index
    c.loop-dir.invariant c.in_default.ensures.none

pub unreachable-requires : goal.unreachable-requires
unreachable-requires g c =
    let passes = g.V.View.passes c.args.view.now c.args.class in
    let size = g.V.View.extent c.args.view.now in
    let start = c.args.self.now.start in
    let cell = c.args.cell in
    let distance = c.requires.exact.distance cell c.requires.reached.inside c.requires.reached.walked in
    let some = some_enters passes start cell (entry size c.args.self.now.costs.items cell) distance c.requires.away in
    let none : (k : ℕ) → k < 8 → Enters passes start cell (get_or preference k N) → ⊥ = λ k below. c.loop-dir.invariant k (omega (arith, below, c.loop-dir-test.false)) in
    each_dir (λ (dir : Dir). Enters passes start cell dir → ⊥) (none 0 (omega arith)) (none 1 (omega arith)) (none 2 (omega arith)) (none 3 (omega arith))
    (none 4 (omega arith)) (none 5 (omega arith)) (none 6 (omega arith)) (none 7 (omega arith)) some.0 some.1
