use Rattle.std.proofs.Common.{ℕ, ◌≡◌, ◌<◌, ◌∙◌, List, [], ◌∷◌, inl, inr, ap, sym, subst}
use Rattle.std.specs.List.{Contains}
use Rattle.std.proofs.lemmas.Bool.{both_ways}
use Rattle.std.proofs.lemmas.List.Elements.{Contains-push, Contains-push_cases, Contains-append_left}
use Rattle.nav_types.specs.declared.cells.Chunk.{Chunk}
use Rattle.nav_types.specs.declared.cells.Rect.{Rect}
use Rattle.nav_types.specs.Cells.{IsInRect}
use Rattle.nav_types.specs.Rects.{chunk_rect}
use Rattle.grid_versions.specs.Chunks.{chunk_count}
use Rattle.grid_versions.specs.inner.ChunkLists.{chunk_numbered}
use Rattle.grid_versions.proofs.dirty_parts.push_place.Goals as goal

pub returns-then-not-meets-clause-reached : goal.returns-then-not-meets-clause-reached
returns-then-not-meets-clause-reached c =
    let rect_is : c.of_chunk-rect.result ≡ chunk_rect c.args.size (chunk_numbered c.args.size c.args.place) =
    c.of_chunk-rect.ensures.value ∙ ap (λ (chunk : Chunk). chunk_rect c.args.size chunk) c.numbered.ensures.value in
    inr (λ cell inside held.
    absurd (both_ways c.meets.result c.if-not-meets.true (c.meets.ensures.1
    (cell, (held, subst (λ (r : Rect). IsInRect r cell) (sym rect_is) inside)))))

pub returns-clause-within : goal.returns-clause-within
returns-clause-within c = λ all k has.
    elim (Contains-push_cases c.args.places.now.items c.args.place k
    (subst (λ (ks : List ℕ). Contains ks k) c.in_ok-push.ensures.items has)) [
      | inl old ↦ all k old
      | inr same ↦ subst (λ (n : ℕ). n < chunk_count c.args.size) same c.requires
    ]

pub returns-clause-kept : goal.returns-clause-kept
returns-clause-kept c = λ k has.
    subst (λ (ks : List ℕ). Contains ks k) (sym c.in_ok-push.ensures.items)
    (Contains-append_left c.args.places.now.items (c.args.place ∷ []) k has)

pub returns-clause-reached : goal.returns-clause-reached
returns-clause-reached c =
    inl (subst (λ (ks : List ℕ). Contains ks c.args.place) (sym c.in_ok-push.ensures.items)
    (Contains-push c.args.places.now.items c.args.place))
