use Rattle.std.proofs.Common.{◌<◌, ap, sym, subst, ◌∙◌}
use Rattle.nav_types.specs.declared.cells.Chunk.{Chunk}
use Rattle.nav_types.specs.declared.cells.Size.{Size}
use Rattle.nav_types.specs.Rects.{IsPartOf, chunk_rect}
use Rattle.region_edges.specs.Edges.{PassesInside}
use Rattle.class_planes.specs.Planes.{is_passable}
use Rattle.class_planes.proofs.PlaneLemmas.{only_inside}
use Rattle.grid_versions.specs.Chunks.{chunk_count}
use Rattle.grid_versions.specs.inner.ChunkLists.{chunk_numbered, IsChunkInside}
use Rattle.grid_versions.proofs.KeptLemmas.{part_kept}
use Rattle.grid_versions.proofs.tables.kept_numbers.keeps_numbers.Goals as goal

pub numbered-chunk-requires : goal.numbered-chunk-requires
numbered-chunk-requires c = subst (λ (s : Size). c.args.part.place < chunk_count s) (sym c.size.ensures) c.requires.part.within

pub changes_one_way-requires-clause-inside : goal.changes_one_way-requires-clause-inside
changes_one_way-requires-clause-inside c =
    subst (λ (s : Size). IsChunkInside s c.numbered-chunk.result) c.size.ensures c.numbered-chunk.ensures.inside

pub changes_one_way-requires-clause-part : goal.changes_one_way-requires-clause-part
changes_one_way-requires-clause-part c =
    let value = c.numbered-chunk.ensures.value ∙ ap (λ (s : Size). chunk_numbered s c.args.part.place) c.size.ensures in
    subst (λ (chunk : Chunk). IsPartOf (chunk_rect c.args.plane.now.size chunk) c.args.part.rect) (sym value) c.requires.part.holds.inside

pub returns : goal.returns
returns c = λ one_way.
    let plane = c.args.plane.now in
    let before = c.args.changed.now.before.now in
    let part = c.args.part in
    let size = plane.size in
    part_kept (is_passable before) (is_passable plane) size part c.args.changed.now.dirty.now.rects c.at-old.result.now c.at-new.result.now
    (subst (λ (s : Size). PassesInside (is_passable before) s) c.requires.size (only_inside before)) (only_inside plane)
    c.requires.part
    (c.requires.were.are part.place c.at-old.result.now c.at-old.ensures)
    (c.requires.are.are part.place c.at-new.result.now c.at-new.ensures)
    (c.has_firsts_of.ensures.0 c.if-not-has_firsts_of.false) c.requires.dirty.same (c.changes_one_way.ensures one_way)
