use Rattle.std.proofs.Common.{◌≡◌, ◌∙◌, ℕ, List, inl, inr, ap, sym, subst}
use Rattle.std.specs.List.{Contains}
use Rattle.nav_types.specs.declared.cells.Chunk.{Chunk}
use Rattle.nav_types.specs.declared.cells.Rect.{Rect}
use Rattle.nav_types.specs.declared.cells.Size.{Size}
use Rattle.nav_types.specs.Cells.{IsRectInside}
use Rattle.nav_types.specs.Rects.{chunk_rect}
use Rattle.grid_versions.specs.inner.ChunkLists.{chunk_numbered}
use Rattle.grid_versions.specs.inner.Reachers.{HoldReachers, HoldChunkReachers}
use Rattle.grid_versions.proofs.ReacherLemmas.{reachers_made}
use Rattle.grid_versions.proofs.reachers.reachers_at.Goals as goal

pub returns : goal.returns
returns c = λ map now same before.
    let rect = c.of_chunk-rect.result in
    let old = c.at.result.now in
    let made = c.list_reachers.new.ids in
    let chunk = chunk_numbered c.args.size c.args.place in
    let rect_is : rect ≡ chunk_rect map.size chunk =
    c.of_chunk-rect.ensures.value ∙ ap (λ (s : Size). chunk_rect s c.numbered.result) (sym same)
    ∙ ap (λ (one : Chunk). chunk_rect map.size one) c.numbered.ensures.value in
    let own = subst (λ (s : Size). HoldChunkReachers map before.earlier (chunk_numbered s c.args.place) old) same
    (before.lists.are c.args.place old c.at.ensures) in
    let held = subst (λ (r : Rect). HoldReachers map before.earlier r old) (sym rect_is) own in
    let inside = subst (λ (s : Size). IsRectInside s rect) (sym same) c.of_chunk-rect.ensures.inside in
    subst (λ (r : Rect). HoldReachers map now r made) rect_is
    (reachers_made map before.earlier now c.args.changes.now.dirty.now.rects c.args.changed.now before.each rect old held inside
    c.args.changes.now.ids.now made before.named
    (λ id has. elim (c.in_ok-made.ensures id (subst (λ (all : List ℕ). Contains all id) (sym c.as_slice-old.ensures) has)) [
      | inl changed ↦ inl changed
      | inr kept ↦ inr (c.in_ok-list_reachers.ensures.kept id kept)
    ])
    c.in_ok-list_reachers.ensures.listed)
