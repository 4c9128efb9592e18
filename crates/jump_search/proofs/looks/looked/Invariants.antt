use Rattle.std.proofs.Common.{◌≡◌, ◌*◌, ◌≤◌, IsTrue, List}
use Rattle.nav_types.specs.declared.directions.Dir.{Dir}
use Rattle.nav_types.specs.Walks.{IsWalk, walk_cost}
use Rattle.jump_search.proofs.looks.looked.Given as goal

abbrev pub invariant-loop-steps : goal.invariant-loop-steps
invariant-loop-steps g l =
    let passes = g.R.View.passes l.runs l.class in
    record {
      free : IsTrue (passes l.cell);
      walk : (dirs : List Dir) × (IsWalk passes l.fn.start dirs l.cell × (walk_cost dirs ≡ l.cost));
      low : l.cost ≤ l._steps * 92682;
    }
