use Rattle.std.proofs.Common.{Option, Some, None, IfSome, IfNone, IsTrue, IsFalse, ◌≡◌, sym, subst}
use Rattle.nav_types.specs.declared.cells.Cell.{Cell}
use Rattle.nav_types.specs.declared.cells.Size.{Size}
use Rattle.nav_types.specs.declared.straights.Straight.{Straight}
use Rattle.jump_scan.specs.Stops.{IsStraightStop}
use Rattle.nav_types.specs.Straights.{straight_dir}
use Rattle.class_planes.specs.Planes.{is_passable}
use Rattle.class_planes.specs.inner.Runs.{Far, RunsFar, cell_along}
use Rattle.nav_types.specs.Lines.{place_on}
use Rattle.class_planes.specs.inner.Runs.{place_along}
use Rattle.class_planes.proofs.StopLemmas.{run_misses, stop_end, stop_none}
use Rattle.class_planes.proofs.plane_scans.straight.Goals as goal

forced_some : (answer : Option Cell) (Runs : Far → Type 0) (straight : Straight) (from : Cell) (Is : Cell → Type 0)
    → IfSome answer (λ cell. (far : Far) × (Runs far × (IsTrue far.forced × (cell ≡ cell_along straight from far.count))))
    → ((far : Far) → Runs far → IsTrue far.forced → Is (cell_along straight from far.count)) → IfSome answer Is
forced_some None Runs straight from Is found is = found
forced_some (Some cell) Runs straight from Is found is = subst Is (sym found.1.1.1) (is found.0 found.1.0 found.1.1.0)

forced_none : (answer : Option Cell) (Runs : Far → Type 0) (Not : Type 0)
    → IfNone answer ((far : Far) × (Runs far × IsFalse far.forced))
    → ((far : Far) → Runs far → IsFalse far.forced → Not) → IfNone answer Not
forced_none None Runs Not found is = is found.0 found.1.0 found.1.1
forced_none (Some cell) Runs Not found is = found

-- a stop that is known without a scan
pub returns-then-not-meets-clause-some : goal.returns-then-not-meets-clause-some
returns-then-not-meets-clause-some g c =
    let passes = is_passable c.args.plane.now in
    let size : Size = c.args.plane.now.size in
    let hit = g.A.Aim.hit c.args.aim.now size in
    forced_some c.forced_stop.result (λ far. RunsFar passes c.args.straight c.args.from far) c.args.straight c.args.from
    (IsStraightStop passes hit (straight_dir c.args.straight) c.args.from) c.forced_stop.ensures.some
    (λ far runs is. stop_end passes hit c.args.straight c.args.from far runs
    (run_misses c.args.plane.now hit (g.A.Aim.framed c.args.aim.now size) c.args.rect c.args.straight c.args.from far
    c.requires.frame (λ cell inside. g.met.A.Aim.hits_framed c.args.aim.now size cell c.requires.aim inside)
    (λ n. c.meets.ensures c.if-not-meets.true (place_along c.args.straight.way (place_on c.args.straight.axis c.args.from) n)) runs) is)

pub returns-then-not-meets-clause-none : goal.returns-then-not-meets-clause-none
returns-then-not-meets-clause-none g c =
    let passes = is_passable c.args.plane.now in
    let size : Size = c.args.plane.now.size in
    let hit = g.A.Aim.hit c.args.aim.now size in
    forced_none c.forced_stop.result (λ far. RunsFar passes c.args.straight c.args.from far)
    ((stop : Cell) → IsStraightStop passes hit (straight_dir c.args.straight) c.args.from stop → ⊥) c.forced_stop.ensures.none
    (λ far runs is. stop_none passes hit c.args.straight c.args.from far runs
    (run_misses c.args.plane.now hit (g.A.Aim.framed c.args.aim.now size) c.args.rect c.args.straight c.args.from far
    c.requires.frame (λ cell inside. g.met.A.Aim.hits_framed c.args.aim.now size cell c.requires.aim inside)
    (λ n. c.meets.ensures c.if-not-meets.true (place_along c.args.straight.way (place_on c.args.straight.axis c.args.from) n)) runs) is)
