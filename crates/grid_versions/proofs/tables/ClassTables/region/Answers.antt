use Rattle.std.proofs.Common.{ℕ, List, ◌≡◌, Some, ap, sym, ◌∙◌}
use Rattle.std.specs.Prelude.{slice_get}
use Rattle.nav_types.specs.declared.cells.Chunk.{Chunk}
use Rattle.nav_types.specs.Cells.{chunk_of}
use Rattle.chunk_regions.specs.Labelling.{Labelling}
use Rattle.grid_versions.specs.Chunks.{chunk_place}
use Rattle.grid_versions.specs.inner.Tables.{Tables}
use Rattle.grid_versions.proofs.RegionLemmas.{labels_have}
use Rattle.grid_versions.proofs.tables.ClassTables.region.Goals as goal

pub at-requires-2 : goal.at-requires-2
at-requires-2 c =
    let size = c.args.size in
    let cell = c.args.cell in
    let tables = c.args.self.now in
    let labels = c.at.result.now in
    let place : c.place_of-place.result ≡ chunk_place size (chunk_of cell) =
    c.place_of-place.ensures.value ∙ ap (λ (chunk : Chunk). chunk_place size chunk) c.chunk.ensures in
    let at : slice_get tables.labels (chunk_place size (chunk_of cell)) ≡ Some labels =
    ap (λ (all : List Labelling). slice_get all (chunk_place size (chunk_of cell))) (ap (λ (t : Tables). t.labels) (sym c.self.view_is))
    ∙ ap (λ (k : ℕ). slice_get c.self.inside.labels k) (sym place) ∙ c.at.ensures in
    labels_have c.requires.tables.0 size tables c.requires.tables.1 cell labels c.requires.inside at
