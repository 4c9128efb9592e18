use Rattle.std.proofs.Common.{ℕ, ◌≡◌, ◌∙◌, ◌⊎◌, List, get_or, inl, inr, sym, subst, arith}
use Rattle.std.specs.List.{Contains}
use Rattle.std.proofs.lemmas.Bool.{cases_lt}
use Rattle.std.proofs.lemmas.List.{get_or_default}
use Rattle.nav_types.proofs.Items.{Contains-none}
use Rattle.grid_versions.specs.declared.dirty_parts.DirtyPart.{DirtyPart}
use Rattle.grid_versions.specs.inner.ReachedParts.{AreReachedPlaces, HasPart, IsUnreached}
use Rattle.grid_versions.proofs.dirty_parts.reached_parts.Goals as goal

pub push_dirty-requires : goal.push_dirty-requires
push_dirty-requires c =
    let places = c.as_slice-listed.result.now in
    let i : ℕ = c.loop-place.place-index in
    let known = subst (λ (ks : List ℕ). AreReachedPlaces c.args.size c.args.reaches.now ks) (sym c.as_slice-listed.ensures.value)
    c.in_ok-places.ensures in
    known.within (get_or places i 0)
    (i, c.loop-place-test.true, get_or_default places i (get_or places i 0) 0 c.loop-place-test.true)

pub loop-place-init : goal.loop-place-init
loop-place-init c = record {
  each = λ part has. absurd (Contains-none part (subst (λ (ps : List DirtyPart). Contains ps part) c.in_ok-parts.ensures.items has));
  all = λ k below. absurd (omega arith);
}

pub loop-place-preserved : goal.loop-place-preserved
loop-place-preserved c =
    let places = c.as_slice-listed.result.now in
    let i : ℕ = c.loop-place.place-index in
    let here = c.loop-place.invariant in
    let pushed = c.in_ok-push_dirty.ensures in
    record {
      each = pushed.each here.each;
      all = λ k below. elim (cases_lt k i) [
        | inl early ↦ elim (here.all k early) [
          | inl has ↦ inl (pushed.kept (get_or places k 0) has)
          | inr none ↦ inr none
        ]
        | inr late ↦
            let same : i ≡ k = omega arith in
            subst (λ (p : ℕ). HasPart c.push_dirty.new.parts.items (get_or places p 0)
            ⊎ IsUnreached c.args.size c.args.reaches.now (get_or places p 0)) same pushed.reached
      ];
    }

pub returns : goal.returns
returns c =
    let places = c.as_slice-listed.result.now in
    let parts = c.loop-place.parts.items in
    let known = subst (λ (ks : List ℕ). AreReachedPlaces c.args.size c.args.reaches.now ks) (sym c.as_slice-listed.ensures.value)
    c.in_ok-places.ensures in
    record {
      each = c.loop-place.invariant.each;
      all = λ place low. elim (known.all place low) [
        | inr none ↦ inr none
        | inl has ↦
            let at : ℕ = has.0 in
            let within = has.1 in
            let same : get_or places at 0 ≡ place = get_or_default places at 0 place within ∙ has.2 in
            subst (λ (n : ℕ). HasPart parts n ⊎ IsUnreached c.args.size c.args.reaches.now n) same
            (c.loop-place.invariant.all at (omega arith))
      ];
    }
