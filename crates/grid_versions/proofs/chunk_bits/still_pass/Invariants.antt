use Rattle.std.proofs.Common.{◌<◌, IsTrue}
use Rattle.nav_types.specs.declared.cells.Cell.{Cell}
use Rattle.nav_types.specs.Cells.{IsInRect}
use Rattle.class_planes.specs.Planes.{is_passable}
use Rattle.grid_versions.proofs.chunk_bits.still_pass.Given as goal

-- the cells of the rows before `j` still pass
abbrev pub invariant-loop-j : goal.invariant-loop-j
invariant-loop-j l = (cell : Cell) → IsInRect l.fn.part cell → cell.j < l.j → IsTrue (is_passable l.before cell)
    → IsTrue (is_passable l.plane cell)
