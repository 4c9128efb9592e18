use Rattle.std.proofs.Common.{sym, subst, ◌↔◌, IsTrue, Option}
use Rattle.nav_types.specs.declared.directions.Dir.{Dir}
use Rattle.nav_types.specs.DirSets.{holds}
use Rattle.jump_scan.specs.Successors.{IsSuccessor}
use Rattle.jump_search.proofs.frontier.successors_of.Goals as goal

pub returns-in-Some : goal.returns-in-Some
returns-in-Some g c =
    let passes = g.R.View.passes c.args.runs.now c.args.class in
    subst (λ (arrived : Option Dir). (dir : Dir)
    → IsTrue (holds c.of.result dir) ↔ IsSuccessor passes c.args.state.cell arrived dir)
    (sym c.in-Some.is) (c.of.ensures passes c.args.state.cell c.requires.cell c.beside.ensures)
