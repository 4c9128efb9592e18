use Rattle.std.proofs.Common.{◌≡◌, ◌∙◌, List, [], ◌∷◌, None, Some, inl, inr, refl, ap, sym, subst}
use Rattle.std.specs.List.{Contains}
use Rattle.std.proofs.lemmas.List.Elements.{Contains-push, Contains-push_cases, Contains-append_left}
use Rattle.nav_types.specs.declared.cells.Chunk.{Chunk}
use Rattle.nav_types.specs.declared.cells.Rect.{Rect}
use Rattle.nav_types.specs.Rects.{chunk_rect}
use Rattle.grid_versions.specs.declared.dirty_parts.DirtyPart.{DirtyPart}
use Rattle.grid_versions.specs.inner.ChunkLists.{chunk_numbered}
use Rattle.grid_versions.specs.inner.ReachedParts.{IsReachedPart}
use Rattle.grid_versions.specs.inner.Reaching.{HoldsReached}
use Rattle.grid_versions.proofs.dirty_parts.push_dirty.Goals as goal

pub returns-in_default-clause-reached : goal.returns-in_default-clause-reached
returns-in_default-clause-reached c =
    let rect_is : c.of_chunk-chunk.result ≡ chunk_rect c.args.size (chunk_numbered c.args.size c.args.place) =
    c.of_chunk-chunk.ensures.value ∙ ap (λ (chunk : Chunk). chunk_rect c.args.size chunk) c.numbered.ensures.value in
    inr (subst (λ (r : Rect). HoldsReached c.args.reaches.now r None) rect_is
    (record { inside = c.in_default.ensures.part; held = c.in_default.ensures.held }))

pub returns-clause-each : goal.returns-clause-each
returns-clause-each c = λ all part has.
    let made : DirtyPart = record { place = c.args.place; rect = c.in-Some.rect } in
    let rect_is : c.of_chunk-chunk.result ≡ chunk_rect c.args.size (chunk_numbered c.args.size c.args.place) =
    c.of_chunk-chunk.ensures.value ∙ ap (λ (chunk : Chunk). chunk_rect c.args.size chunk) c.numbered.ensures.value in
    let own : IsReachedPart c.args.size c.args.reaches.now made = record {
      within = c.requires;
      holds = subst (λ (r : Rect). HoldsReached c.args.reaches.now r (Some c.in-Some.rect)) rect_is
          (record { inside = c.in-Some.ensures.part; held = c.in-Some.ensures.held });
    } in
    elim (Contains-push_cases c.args.parts.now.items made part
    (subst (λ (ps : List DirtyPart). Contains ps part) c.in_ok-push.ensures.items has)) [
      | inl old ↦ all part old
      | inr same ↦ subst (λ (p : DirtyPart). IsReachedPart c.args.size c.args.reaches.now p) same own
    ]

pub returns-clause-kept : goal.returns-clause-kept
returns-clause-kept c = λ k has.
    let made : DirtyPart = record { place = c.args.place; rect = c.in-Some.rect } in
    record {
      part = has.part;
      listed = subst (λ (ps : List DirtyPart). Contains ps has.part) (sym c.in_ok-push.ensures.items)
          (Contains-append_left c.args.parts.now.items (made ∷ []) has.part has.listed);
      of = has.of;
    }

pub returns-clause-reached : goal.returns-clause-reached
returns-clause-reached c =
    let made : DirtyPart = record { place = c.args.place; rect = c.in-Some.rect } in
    inl (record {
      part = made;
      listed = subst (λ (ps : List DirtyPart). Contains ps made) (sym c.in_ok-push.ensures.items)
          (Contains-push c.args.parts.now.items made);
      of = refl;
    })
