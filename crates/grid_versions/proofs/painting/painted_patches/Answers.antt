use Rattle.std.proofs.Common.{◌≡◌, ◌+◌, ◌∙◌, ◌||◌, ℕ, List, ap, sym, subst, arith}
use Rattle.nav_types.specs.declared.cells.Chunk.{Chunk}
use Rattle.nav_types.specs.declared.cells.Rect.{Rect}
use Rattle.nav_types.specs.declared.cells.Size.{Size}
use Rattle.nav_types.specs.Cells.{IsInRect}
use Rattle.nav_types.specs.Numbering.{Numbering, number_of}
use Rattle.nav_types.specs.Rects.{chunk_rect, IsPartOf}
use Rattle.grid_versions.specs.Passing.{is_blocked}
use Rattle.grid_versions.specs.Chunks.{chunk_count}
use Rattle.grid_versions.specs.inner.ChunkLists.{chunk_numbered, AreOfChunks}
use Rattle.grid_versions.specs.inner.Painting.{IsBaseChunk, IsPaintedChunk}
use Rattle.grid_versions.specs.inner.Reachers.{HoldReachers}
use Rattle.grid_versions.proofs.ChunkLemmas.{AreOfChunks-push}
use Rattle.grid_versions.proofs.NextLemmas.{whole_part}
use Rattle.grid_versions.proofs.ReacherLemmas.{all_unpainted}
use Rattle.grid_versions.proofs.painting.painted_patches.Goals as goal

pub repainted-requires-clause-part : goal.repainted-requires-clause-part
repainted-requires-clause-part c =
    let map = c.args.site.now.map.now in
    let size = c.size-size.result in
    let place = c.loop-place.place in
    let rect = c.of_chunk-rect.result in
    let under = c.requires.base.are place c.at-under.result.now c.at-under.ensures in
    let rect_is : rect ≡ chunk_rect map.size (chunk_numbered map.size place) =
    c.of_chunk-rect.ensures.value ∙ ap (λ (chunk : Chunk). chunk_rect size chunk) c.numbered.ensures.value
    ∙ ap (λ (s : Size). chunk_rect s (chunk_numbered s place)) c.size-size.ensures in
    subst (λ (r : Rect). IsPartOf r rect) (rect_is ∙ sym under.extent)
    (whole_part rect c.of_chunk-rect.ensures.patch.columns c.of_chunk-rect.ensures.patch.rows)

pub repainted-requires-clause-near : goal.repainted-requires-clause-near
repainted-requires-clause-near c =
    let map = c.args.site.now.map.now in
    let size = c.size-size.result in
    let place = c.loop-place.place in
    let rect = c.of_chunk-rect.result in
    let ids = c.at-near.result.now in
    let rect_is : rect ≡ chunk_rect map.size (chunk_numbered map.size place) =
    c.of_chunk-rect.ensures.value ∙ ap (λ (chunk : Chunk). chunk_rect size chunk) c.numbered.ensures.value
    ∙ ap (λ (s : Size). chunk_rect s (chunk_numbered s place)) c.size-size.ensures in
    all_unpainted map c.args.site.now.shapes.now rect (number_of c.at-under.result.now) c.as_slice.result.now
    (subst (λ (near : List ℕ). HoldReachers map c.args.site.now.shapes.now rect near) (sym c.as_slice.ensures)
    (subst (λ (r : Rect). HoldReachers map c.args.site.now.shapes.now r ids) (sym rect_is)
    (c.requires.reachers.are place ids c.at-near.ensures)))

pub loop-place-preserved : goal.loop-place-preserved
loop-place-preserved c =
    let map = c.args.site.now.map.now in let now = c.args.site.now.shapes.now in
    let size = c.size-size.result in
    let place = c.loop-place.place in
    let rect = c.of_chunk-rect.result in
    let patch = c.in_ok-patch.patch in
    let base = c.at-under.result.now in
    let under = subst (λ (s : Size). IsBaseChunk map (chunk_numbered s place) base) (sym c.size-size.ensures)
    (c.requires.base.are place base c.at-under.ensures) in
    let rect_is : rect ≡ chunk_rect map.size (chunk_numbered size place) =
    c.of_chunk-rect.ensures.value ∙ ap (λ (s : Size). chunk_rect s c.numbered.result) c.size-size.ensures
    ∙ ap (λ (chunk : Chunk). chunk_rect map.size chunk) c.numbered.ensures.value in
    let own : IsPaintedChunk map now (chunk_numbered size place) patch = record {
      extent = c.in_ok-patch.ensures.rect ∙ under.extent;
      whole = c.in_ok-patch.ensures.whole;
      bits = λ k cell inside.
          let in_base = subst (λ (r : Rect). IsInRect r cell) c.in_ok-patch.ensures.rect inside in
          c.in_ok-patch.ensures.bits k cell (subst (λ (r : Rect). IsInRect r cell) (under.extent ∙ sym rect_is) in_base)
          ∙ ap (λ b. b || is_blocked map now k cell) (under.bits k cell in_base);
    } in
    subst (λ (all : List Numbering). AreOfChunks size (place + 1) (IsPaintedChunk map now) all) (sym c.in_ok-push.ensures.ok)
    (AreOfChunks-push size place (IsPaintedChunk map now) c.loop-place.all patch c.loop-place.invariant own)

pub returns : goal.returns
returns c =
    let map = c.args.site.now.map.now in let now = c.args.site.now.shapes.now in
    let size = c.size-size.result in
    let done : c.loop-place.place ≡ chunk_count size = omega arith in
    subst (λ (s : Size). AreOfChunks s (chunk_count s) (IsPaintedChunk map now) c.loop-place.all) c.size-size.ensures
    (subst (λ (n : ℕ). AreOfChunks size n (IsPaintedChunk map now) c.loop-place.all) done c.loop-place.invariant)
