use Rattle.std.proofs.Common.{ℕ, ◌<◌, get_or}
use Rattle.std.specs.List.{Contains}
use Rattle.nav_types.specs.declared.cells.Cell.{Cell}
use Rattle.nav_types.specs.Cells.{IsInRect}
use Rattle.grid_versions.proofs.ReacherLemmas.{no_reacher}
use Rattle.grid_versions.proofs.reachers.list_reachers.Given as goal

-- the rectangles before `reacher-index` are done
abbrev pub invariant-loop-reacher : goal.invariant-loop-reacher
invariant-loop-reacher l = record {
  kept : (n : ℕ) → Contains l.fn.ids n → Contains l.ids n;
  listed : (k : ℕ) → k < l.reacher-index → (cell : Cell) → IsInRect (get_or l.reachers k no_reacher).rect cell
      → IsInRect l.rect cell → Contains l.ids (get_or l.reachers k no_reacher).id;
}
