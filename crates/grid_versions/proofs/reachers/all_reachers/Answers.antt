use Rattle.std.proofs.Common.{◌≡◌, ◌+◌, ◌∙◌, ℕ, List, ap, sym, subst, arith}
use Rattle.std.specs.List.{Contains}
use Rattle.nav_types.specs.declared.cells.Chunk.{Chunk}
use Rattle.nav_types.specs.declared.cells.Rect.{Rect}
use Rattle.nav_types.specs.declared.cells.Size.{Size}
use Rattle.nav_types.specs.Cells.{IsRectInside}
use Rattle.clearance_raster.proofs.Reaching.{inside_map}
use Rattle.nav_types.specs.Rects.{chunk_rect}
use Rattle.grid_versions.specs.declared.reachers.Reacher.{Reacher}
use Rattle.grid_versions.specs.Chunks.{chunk_count}
use Rattle.grid_versions.specs.inner.ChunkLists.{chunk_numbered, AreOfChunks}
use Rattle.grid_versions.specs.inner.Reachers.{HoldReachers, HoldChunkReachers, IsReachNoted}
use Rattle.grid_versions.proofs.ChunkLemmas.{AreOfChunks-push}
use Rattle.grid_versions.proofs.reachers.all_reachers.Goals as goal

pub loop-place-preserved : goal.loop-place-preserved
loop-place-preserved c =
    let map = c.args.site.now.map.now in let now = c.args.site.now.shapes.now in
    let size = c.size-size.result in
    let place = c.loop-place.place in
    let made = c.in_ok-made.made in
    let rect = c.of_chunk-rect.result in
    let rect_is : rect ≡ chunk_rect map.size (chunk_numbered size place) =
    c.of_chunk-rect.ensures.value ∙ ap (λ (s : Size). chunk_rect s c.numbered.result) c.size-size.ensures
    ∙ ap (λ (chunk : Chunk). chunk_rect map.size chunk) c.numbered.ensures.value in
    let inside = subst (λ (s : Size). IsRectInside s rect) c.size-size.ensures c.of_chunk-rect.ensures.inside in
    let own : HoldReachers map now rect made = record {
      all = λ id o stands k cell here blocks.
          let has = subst (λ (ids : List ℕ). Contains ids id) (sym c.as_slice.ensures) (c.in_ok-ids.ensures id o stands) in
          let reached = c.in_ok-reachers.ensures id has o stands k cell (inside_map map.size rect cell inside here) blocks in
          c.in_ok-made.ensures id cell (subst (λ (all : List Reacher). IsReachNoted all id cell) (sym c.deref.ensures.value)
          reached) here;
    } in
    subst (λ (all : List (List ℕ)). AreOfChunks size (place + 1) (HoldChunkReachers map now) all) (sym c.in_ok-push.ensures.ok)
    (AreOfChunks-push size place (HoldChunkReachers map now) c.loop-place.all made c.loop-place.invariant
    (subst (λ (r : Rect). HoldReachers map now r made) rect_is own))

pub returns : goal.returns
returns c =
    let map = c.args.site.now.map.now in let now = c.args.site.now.shapes.now in
    let size = c.size-size.result in
    let done : c.loop-place.place ≡ chunk_count size = omega arith in
    subst (λ (s : Size). AreOfChunks s (chunk_count s) (HoldChunkReachers map now) c.loop-place.all) c.size-size.ensures
    (subst (λ (n : ℕ). AreOfChunks size n (HoldChunkReachers map now) c.loop-place.all) done c.loop-place.invariant)
