use Rattle.std.proofs.Common.{ℕ, ◌≡◌, inl, inr, sym, subst, arith, Some}
use Rattle.std.proofs.lemmas.Bool.{cases_lt}
use Rattle.nav_types.specs.Rects.{chunk_rect}
use Rattle.grid_versions.specs.inner.ChunkLists.{chunk_numbered}
use Rattle.grid_versions.specs.inner.Reaching.{HoldsReached}
use Rattle.grid_versions.proofs.DirtyLemmas.{part_of, part_listed, left_first}
use Rattle.grid_versions.proofs.dirty_parts.DirtyParts.part_at.Goals as goal

pub loop-part-init : goal.loop-part-init
loop-part-init c = λ k below same. absurd (omega arith)

pub loop-part-preserved : goal.loop-part-preserved
loop-part-preserved c = λ k below same. elim (cases_lt k c.loop-part.part-index) [
  | inl early ↦ c.loop-part.invariant k early same
  | inr late ↦
      let here : c.loop-part.part-index ≡ k = omega arith in
      absurd (let apart = c.if-part-place.false in
      let at = subst (λ (n : ℕ). (part_of c.parts-parts.result.now n).place ≡ c.args.place) (sym here) same in omega (arith, apart, at))
]

pub returns-then-part-place : goal.returns-then-part-place
returns-then-part-place c =
    let parts = c.parts-parts.result.now in
    let i : ℕ = c.loop-part.part-index in
    let rects = c.args.self.now.rects in
    let size = c.args.self.now.size in
    let own = c.parts-parts.ensures.each (part_of parts i) (part_listed parts i c.loop-part-test.true) in
    subst (λ (n : ℕ). HoldsReached rects (chunk_rect size (chunk_numbered size n)) (Some (part_of parts i).rect)) c.if-part-place.true
    own.holds

pub returns : goal.returns
returns c =
    let parts = c.parts-parts.result.now in
    elim (c.parts-parts.ensures.all c.args.place c.requires) [
      | inr none ↦ none
      | inl has ↦
          let left = left_first parts c.args.place has in
          let within = left.within in
          absurd (c.loop-part.invariant left.at (omega arith) left.of)
    ]
