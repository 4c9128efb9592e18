use Rattle.std.proofs.Common.{◌≤◌}
use Rattle.grid_versions.specs.inner.Marking.{AreMarks}
use Rattle.grid_versions.proofs.base_grids.base_grid.Given as goal

-- the rectangles of at least `run` rows are marked
abbrev pub invariant-halve : goal.invariant-halve
invariant-halve l = record {
  some : 1 ≤ l.run;
  marks : AreMarks l.base l.map.size l.run l.grid;
}

abbrev pub decreases-halve : goal.decreases-halve
decreases-halve l = l.run
