use Rattle.std.proofs.Common.{◌++◌, ℕ, List, take}
use Rattle.std.specs.Prelude.{map}
use Rattle.flat_posts.specs.Cells.{flat_cell}
use Rattle.flat_posts.specs.declared.cells.FlatCell.{FlatCell}
use Rattle.flat_posts.specs.inner.Filling.{IsFilling}
use Rattle.flat_posts.proofs.pages.Filling.take_each.Given as goal

abbrev pub invariant-loop-cell : goal.invariant-loop-cell
invariant-loop-cell l = (first : ℕ) (all old : List FlatCell) → IsFilling first all old l.fn.self.ahead l.fn.self.count l.fn.buffer
    → IsFilling first (all ++ map flat_cell (take l.cell-index l.cells)) old l.self.ahead l.self.count l.buffer
