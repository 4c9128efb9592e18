use Rattle.std.proofs.Common.{ℕ, ◌<◌, ◌≡◌, ◌≢◌}
use Rattle.nav_types.specs.declared.cells.Cell.{Cell}
use Rattle.nav_types.specs.declared.cells.Chunk.{Chunk}
use Rattle.nav_types.specs.Cells.{chunk_of}
use Rattle.nav_types.proofs.Counting.{Counts-unique}
use Rattle.grid_versions.proofs.laws.one_relabelled.Goals as goal

pub returns : goal.returns
returns c = λ classes before now m n one two.
    Counts-unique (λ (p : ℕ × Chunk). (p.0 < classes) × ((cell : Cell) × ((chunk_of cell ≡ p.1) × (before p.0 cell ≢ now p.0 cell)))) m n one two
