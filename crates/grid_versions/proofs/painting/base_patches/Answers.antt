use Rattle.std.proofs.Common.{◌≡◌, ◌+◌, ◌∙◌, ℕ, List, ap, sym, subst, arith}
use Rattle.nav_types.specs.declared.cells.Chunk.{Chunk}
use Rattle.nav_types.specs.declared.cells.Rect.{Rect}
use Rattle.nav_types.specs.declared.cells.Size.{Size}
use Rattle.nav_types.specs.Cells.{IsInRect, IsInside, IsRectInside}
use Rattle.nav_types.specs.Numbering.{Numbering}
use Rattle.nav_types.specs.Rects.{chunk_rect}
use Rattle.lane_rows.specs.Rows.{has_class}
use Rattle.grid_versions.specs.Chunks.{chunk_count}
use Rattle.grid_versions.specs.inner.ChunkLists.{chunk_numbered, AreOfChunks}
use Rattle.grid_versions.specs.inner.Painting.{IsBaseChunk}
use Rattle.grid_versions.proofs.ChunkLemmas.{AreOfChunks-push}
use Rattle.grid_versions.proofs.painting.base_patches.Goals as goal

pub base_patch-requires-clause-inside : goal.base_patch-requires-clause-inside
base_patch-requires-clause-inside c =
    subst (λ (s : Size). IsRectInside s c.of_chunk-rect.result) (c.size-size.ensures ∙ sym c.in_ok-grid.ensures.size)
    c.of_chunk-rect.ensures.inside

pub loop-place-preserved : goal.loop-place-preserved
loop-place-preserved c =
    let map = c.args.map.now in
    let size = c.size-size.result in
    let place = c.loop-place.place in
    let patch = c.in_ok-base_patch.field-0 in
    let rect : Rect = c.of_chunk-rect.result in
    let rect_is : rect ≡ chunk_rect map.size (chunk_numbered size place) =
    c.of_chunk-rect.ensures.value ∙ ap (λ (s : Size). chunk_rect s c.numbered.result) c.size-size.ensures
    ∙ ap (λ (chunk : Chunk). chunk_rect map.size chunk) c.numbered.ensures.value in
    let rect_inside : IsRectInside map.size rect =
    subst (λ (s : Size). IsRectInside s rect) c.size-size.ensures c.of_chunk-rect.ensures.inside in
    let own : IsBaseChunk map (chunk_numbered size place) patch = record {
      extent = c.in_ok-base_patch.ensures.rect ∙ rect_is;
      whole = c.in_ok-base_patch.ensures.whole;
      bits = λ k cell inside.
          let here : IsInRect rect cell = subst (λ (r : Rect). IsInRect r cell) c.in_ok-base_patch.ensures.rect inside in
          let east = here.east in let north = here.north in
          let column = rect_inside.last_column in let row = rect_inside.last_row in
          let at : IsInside map.size cell = record { column = omega arith; row = omega arith } in
          ap (has_class k) (c.in_ok-base_patch.ensures.numbers cell here) ∙ c.in_ok-grid.ensures.bits k cell at;
    } in
    subst (λ (all : List Numbering). AreOfChunks size (place + 1) (IsBaseChunk map) all) (sym c.in_ok-push.ensures.ok)
    (AreOfChunks-push size place (IsBaseChunk map) c.loop-place.all patch c.loop-place.invariant own)

pub returns : goal.returns
returns c =
    let map = c.args.map.now in
    let size = c.size-size.result in
    let done : c.loop-place.place ≡ chunk_count size = omega arith in
    subst (λ (s : Size). AreOfChunks s (chunk_count s) (IsBaseChunk map) c.loop-place.all) c.size-size.ensures
    (subst (λ (n : ℕ). AreOfChunks size n (IsBaseChunk map) c.loop-place.all) done c.loop-place.invariant)
