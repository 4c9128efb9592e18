use Rattle.std.proofs.Common.{Bool, IfNone, subst}
use Rattle.nav_types.specs.declared.cells.Cell.{Cell}
use Rattle.nav_types.specs.declared.cells.Size.{Size}
use Rattle.jump_scan.specs.Stops.{IsDiagonalStopWithin}
use Rattle.class_planes.proofs.plane_runs.PlaneRunsRuns.diagonal_within.Goals as goal

pub returns-in-Some-clause-none : goal.returns-in-Some-clause-none
returns-in-Some-clause-none g c =
    let plane = c.in-Some.plane.now in
    let view = c.args.self.now in
    let hit = λ (size : Size). g.A.Aim.hit c.args.aim.now size in
    let is = c.in-Some.ensures in
    subst (λ (size : Size). IfNone c.stop_within.result
    ((stop : Cell) → IsDiagonalStopWithin (g.V.View.passes view c.args.class) (hit size) c.args.dir c.args.most
    c.args.from stop → ⊥))
    is.extent
    (subst (λ (passes : Cell → Bool). IfNone c.stop_within.result
    ((stop : Cell) → IsDiagonalStopWithin passes (hit plane.size) c.args.dir c.args.most c.args.from stop → ⊥)) is.cells
    c.stop_within.ensures.none)

pub returns-in-None-clause-none : goal.returns-in-None-clause-none
returns-in-None-clause-none g c =
    subst (λ v. IfNone c.diagonal_within.result
    ((stop : Cell) → IsDiagonalStopWithin (g.V.View.passes v c.args.class)
    (g.A.Aim.hit c.args.aim.now (g.V.View.extent v)) c.args.dir c.args.most c.args.from stop → ⊥)) c.self.view_is
    c.diagonal_within.ensures.none
