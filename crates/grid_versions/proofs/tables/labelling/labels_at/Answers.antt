use Rattle.std.proofs.Common.{subst}
use Rattle.std.proofs.lemmas.Result.{IfOk-weaker}
use Rattle.nav_types.specs.declared.cells.Chunk.{Chunk}
use Rattle.nav_types.specs.declared.cells.Size.{Size}
use Rattle.chunk_regions.specs.Labelling.{AreLabels}
use Rattle.class_planes.specs.Planes.{is_passable}
use Rattle.grid_versions.specs.inner.ChunkLists.{chunk_numbered}
use Rattle.grid_versions.proofs.tables.labelling.labels_at.Goals as goal

pub returns-clause-labels : goal.returns-clause-labels
returns-clause-labels g c =
    let passes = is_passable c.args.plane.now in
    let place = c.args.place in
    IfOk-weaker c.label_bits.result _ _
    (λ labels made.
    subst (λ (s : Size). AreLabels passes s (chunk_numbered s place) labels) c.size-size.ensures
    (subst (λ (chunk : Chunk). AreLabels passes c.size-size.result chunk labels) c.numbered-chunk.ensures.value (made passes c.passable_cells-bits.ensures)))
    c.label_bits.ensures.labels
