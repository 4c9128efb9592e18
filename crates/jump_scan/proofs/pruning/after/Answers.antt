use Rattle.std.proofs.Common.{◌↔◌, IsTrue, Some, sym, subst}
use Rattle.nav_types.specs.declared.directions.Dir.{Dir}
use Rattle.nav_types.specs.DirSets.{holds}
use Rattle.jump_scan.specs.Successors.{IsSuccessor}
use Rattle.jump_scan.proofs.pruning.after.Goals as goal

pub returns-in-N : goal.returns-in-N
returns-in-N g c = λ dir.
    let P = λ (arrived : Dir). IsTrue (holds c.after_straight.result dir) ↔ IsSuccessor (g.V.View.passes c.args.view.now c.args.class) c.args.cell (Some arrived) dir in
    subst P (sym c.in-N.is) (c.after_straight.ensures dir)

pub returns-in-E : goal.returns-in-E
returns-in-E g c = λ dir.
    let P = λ (arrived : Dir). IsTrue (holds c.after_straight-in-E.result dir) ↔ IsSuccessor (g.V.View.passes c.args.view.now c.args.class) c.args.cell (Some arrived) dir in
    subst P (sym c.in-E.is) (c.after_straight-in-E.ensures dir)

pub returns-in-S : goal.returns-in-S
returns-in-S g c = λ dir.
    let P = λ (arrived : Dir). IsTrue (holds c.after_straight-in-S.result dir) ↔ IsSuccessor (g.V.View.passes c.args.view.now c.args.class) c.args.cell (Some arrived) dir in
    subst P (sym c.in-S.is) (c.after_straight-in-S.ensures dir)

pub returns-in-W : goal.returns-in-W
returns-in-W g c = λ dir.
    let P = λ (arrived : Dir). IsTrue (holds c.after_straight-in-W.result dir) ↔ IsSuccessor (g.V.View.passes c.args.view.now c.args.class) c.args.cell (Some arrived) dir in
    subst P (sym c.in-W.is) (c.after_straight-in-W.ensures dir)
