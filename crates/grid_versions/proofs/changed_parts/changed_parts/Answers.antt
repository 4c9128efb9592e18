use Rattle.std.proofs.Common.{ℕ, List, Option, ◌≡◌, ◌∙◌, ◌⊎◌, Some, get_or, inl, inr, refl, sym, subst, arith}
use Rattle.std.specs.Prelude.{IsFalse, slice_get}
use Rattle.nav_types.specs.declared.cells.Rect.{Rect}
use Rattle.nav_types.specs.declared.cells.Size.{Size}
use Rattle.nav_types.specs.Cells.{IsInRect, IsRectInside, chunk_of}
use Rattle.lane_rows.specs.Rows.{has_class}
use Rattle.nav_types.specs.Rects.{chunk_rect}
use Rattle.grid_versions.specs.Chunks.{chunk_place}
use Rattle.grid_versions.specs.inner.ChunkLists.{chunk_numbered}
use Rattle.grid_versions.specs.inner.Reaching.{HoldsReached}
use Rattle.grid_versions.specs.inner.SameNumbers.{IsSameAt}
use Rattle.grid_versions.specs.inner.ReachedParts.{AreReachedParts}
use Rattle.grid_versions.proofs.ChunkLemmas.{numbered_inside, chunk_inside, place_below}
use Rattle.grid_versions.proofs.DirtyLemmas.{part_of, reached_part, left_first, left_next, left_none}
use Rattle.grid_versions.proofs.PlanePartLemmas.{in_numbered, chunk_in_map, same_at}
use Rattle.grid_versions.proofs.changed_parts.changed_parts.Goals as goal

-- the part of the chunk at the place
reached_here : (rects : List Rect) (one size : Size) (place : ℕ) (chunk : Rect) (part : Option Rect) → one ≡ size
    → chunk ≡ chunk_rect size (chunk_numbered size place) → HoldsReached rects (chunk_rect one (chunk_numbered one place)) part
    → HoldsReached rects chunk part
reached_here rects one size place chunk part same is reached =
    subst (λ (r : Rect). HoldsReached rects r part) (sym is)
    (subst (λ (s : Size). HoldsReached rects (chunk_rect s (chunk_numbered s place)) part) same reached)

pub loop-part-init : goal.loop-part-init
loop-part-init c =
    let size = c.args.size in
    let parts = c.parts-parts.result.now in
    let reached = subst (λ (s : Size). AreReachedParts s c.args.dirty.now.rects parts) c.requires.sized c.parts-parts.ensures in
    record {
      inside = λ k part low. absurd (omega arith);
      held = λ class cell kept inside is.
          let place = chunk_place size (chunk_of cell) in
          elim (reached.all place (place_below size (chunk_of cell) (chunk_inside size cell inside))) [
            | inl has ↦ inr (left_first parts place has)
            | inr none ↦ absurd (none.held cell (in_numbered size cell inside) is)
          ];
    }

pub at-old-requires : goal.at-old-requires
at-old-requires c =
    let own = reached_part c.args.size c.args.dirty.now.size c.args.dirty.now.rects c.parts-parts.result.now
    c.loop-part.part-index c.requires.sized c.parts-parts.ensures c.loop-part-test.true in
    let within = own.within in let each = c.requires.before.each in omega (arith, within, each)

pub at-new-requires : goal.at-new-requires
at-new-requires c =
    let own = reached_part c.args.size c.args.dirty.now.size c.args.dirty.now.rects c.parts-parts.result.now
    c.loop-part.part-index c.requires.sized c.parts-parts.ensures c.loop-part-test.true in
    let within = own.within in let each = c.requires.after.each in omega (arith, within, each)

pub bounds-changed-place : goal.bounds-changed-place
bounds-changed-place c =
    let own = reached_part c.args.size c.args.dirty.now.size c.args.dirty.now.rects c.parts-parts.result.now
    c.loop-part.part-index c.requires.sized c.parts-parts.ensures c.loop-part-test.true in
    let within = own.within in let each = c.requires.each in omega (arith, within, each)

pub push_part-requires-clause-dirty : goal.push_part-requires-clause-dirty
push_part-requires-clause-dirty c =
    let place = (part_of c.parts-parts.result.now c.loop-part.part-index).place in
    let rect_is = c.requires.before.are place c.at-old.result.now c.at-old.ensures in
    let reached = reached_here c.args.dirty.now.rects c.args.size c.args.size place c.at-old.result.now.rect _ refl rect_is
    (reached_part c.args.size c.args.dirty.now.size c.args.dirty.now.rects c.parts-parts.result.now
    c.loop-part.part-index c.requires.sized c.parts-parts.ensures c.loop-part-test.true).holds in
    reached.inside

pub push_part-requires-clause-same : goal.push_part-requires-clause-same
push_part-requires-clause-same c =
    let place = (part_of c.parts-parts.result.now c.loop-part.part-index).place in
    c.requires.after.are place c.at-new.result.now c.at-new.ensures
    ∙ sym (c.requires.before.are place c.at-old.result.now c.at-old.ensures)

pub loop-part-preserved : goal.loop-part-preserved
loop-part-preserved c =
    let size = c.args.size in
    let parts = c.parts-parts.result.now in
    let i : ℕ = c.loop-part.part-index in
    let place = (part_of parts i).place in
    let chunk = chunk_numbered size place in
    let a = c.at-old.result.now in
    let b = c.at-new.result.now in
    let at_a : slice_get c.args.before.now place ≡ Some a = c.at-old.ensures in
    let at_b : slice_get c.args.after.now place ≡ Some b = c.at-new.ensures in
    let rect_is : a.rect ≡ chunk_rect size chunk = c.requires.before.are place a at_a in
    let own = reached_part c.args.size c.args.dirty.now.size c.args.dirty.now.rects c.parts-parts.result.now
    c.loop-part.part-index c.requires.sized c.parts-parts.ensures c.loop-part-test.true in
    let part = reached_here c.args.dirty.now.rects size size place a.rect _ refl rect_is own.holds in
    record {
      inside = c.in_ok-push_part.ensures.inside size
          (subst (λ (r : Rect). IsRectInside size r) (sym rect_is)
          (chunk_in_map size chunk (numbered_inside size place own.within))) c.loop-part.invariant.inside;
      held = λ class cell kept inside reached.
          let at : ℕ = chunk_place size (chunk_of cell) in
          elim (c.loop-part.invariant.held class cell (c.in_ok-push_part.ensures.before class cell kept) inside reached) [
            | inl done ↦ inl done
            | inr left ↦ elim (left_next parts i at left) [
              | inr later ↦ inr later
              | inl same ↦
                  let here : IsInRect a.rect cell = subst (λ (r : Rect). IsInRect r cell) (sym rect_is)
                  (subst (λ (p : ℕ). IsInRect (chunk_rect size (chunk_numbered size p)) cell) (sym same)
                  (in_numbered size cell inside)) in
                  inl (subst (λ (p : ℕ). IsFalse (has_class class (get_or c.args.changed.now p 0))
                  ⊎ IsSameAt c.args.before.now c.args.after.now p cell) same
                  (elim (c.in_ok-push_part.ensures.held class cell kept (part.held cell here reached)) [
                    | inl clear ↦ inl clear
                    | inr alike ↦ inr (same_at c.args.before.now c.args.after.now place cell a b at_a at_b alike)
                  ]))
            ]
          ];
    }

pub returns-clause-held : goal.returns-clause-held
returns-clause-held c = λ class cell kept inside reached.
    elim (c.loop-part.invariant.held class cell kept inside reached) [
      | inl done ↦ done
      | inr left ↦ absurd (left_none c.parts-parts.result.now c.loop-part.part-index _ (omega arith) left)
    ]
