use Rattle.std.proofs.Common.{ℕ, List, Option, ◌≡◌, ◌<◌, ◌∙◌, ap, sym, subst}
use Rattle.std.proofs.lemmas.Bool.{false_from_ne_true}
use Rattle.std.proofs.lemmas.Result.{IfOk-weaker}
use Rattle.nav_types.specs.declared.cells.Chunk.{Chunk}
use Rattle.nav_types.specs.declared.cells.Rect.{Rect}
use Rattle.nav_types.specs.declared.cells.Size.{Size}
use Rattle.nav_types.specs.Rects.{chunk_rect}
use Rattle.class_planes.specs.Planes.{is_passable}
use Rattle.chunk_regions.specs.Labelling.{AreLabels}
use Rattle.grid_versions.specs.Chunks.{chunk_count}
use Rattle.grid_versions.specs.inner.ChunkLists.{chunk_numbered}
use Rattle.grid_versions.specs.inner.Reaching.{is_in_some, HoldsReached}
use Rattle.grid_versions.proofs.tables.labelling.rows_labelled.Goals as goal

-- the part of the chunk at a place
reached_here : (rects : List Rect) (one size read : Size) (place : ℕ) (chunk : Chunk) (part : Option Rect) → one ≡ size → read ≡ size
    → chunk ≡ chunk_numbered read place → HoldsReached rects (chunk_rect one (chunk_numbered one place)) part
    → HoldsReached rects (chunk_rect size chunk) part
reached_here rects one size read place chunk part same read_is value reached =
    subst (λ (z : Chunk). HoldsReached rects (chunk_rect size z) part) (sym (value ∙ ap (λ (s : Size). chunk_numbered s place) read_is))
    (subst (λ (s : Size). HoldsReached rects (chunk_rect s (chunk_numbered s place)) part) same reached)

pub part_at-requires : goal.part_at-requires
part_at-requires g c =
    subst (λ (s : Size). c.args.place < chunk_count s) (sym c.requires.dirty.sized) c.requires.within

pub changed_rows-rows-requires-clause-part : goal.changed_rows-rows-requires-clause-part
changed_rows-rows-requires-clause-part g c =
    let dirty = c.args.changed.now.dirty.now in
    let reached = reached_here dirty.rects dirty.size c.args.plane.now.size c.size.result c.args.place c.numbered-chunk.result c.part_at.result
    c.requires.dirty.sized c.size.ensures c.numbered-chunk.ensures.value c.part_at.ensures in
    reached.inside

pub changed_rows-rows-requires-clause-same : goal.changed_rows-rows-requires-clause-same
changed_rows-rows-requires-clause-same g c = λ cell inside out.
    let dirty = c.args.changed.now.dirty.now in
    let reached = reached_here dirty.rects dirty.size c.args.plane.now.size c.size.result c.args.place c.numbered-chunk.result c.part_at.result
    c.requires.dirty.sized c.size.ensures c.numbered-chunk.ensures.value c.part_at.ensures in
    c.requires.dirty.same cell (false_from_ne_true (is_in_some dirty.rects cell) (λ is. out (reached.held cell inside is)))

pub returns-clause-labels : goal.returns-clause-labels
returns-clause-labels g c =
    let plane = c.args.plane.now in
    let before = c.args.changed.now.before.now in
    let chunk = c.numbered-chunk.result in
    let value = c.numbered-chunk.ensures.value ∙ ap (λ (s : Size). chunk_numbered s c.args.place) c.size.ensures in
    let were = subst (λ (z : Chunk). AreLabels (is_passable before) plane.size z c.args.labels.now) (sym value) c.requires.before in
    IfOk-weaker c.relabel.result _ _
    (λ labels made.
    subst (λ (z : Chunk). AreLabels (is_passable plane) plane.size z labels) value
    (made (is_passable before) (is_passable plane) plane.size chunk were c.changed_rows-rows.ensures.agree c.passable_in_rows-bits.ensures))
    c.relabel.ensures.labels
