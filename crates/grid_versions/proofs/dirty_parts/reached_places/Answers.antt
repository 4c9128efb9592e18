use Rattle.std.proofs.Common.{ℕ, List, eqb, inl, inr, sym, subst}
use Rattle.std.specs.List.{Contains}
use Rattle.std.proofs.lemmas.List.{take_all}
use Rattle.std.proofs.lemmas.List.Filters.{dedup_is}
use Rattle.std.proofs.lemmas.List.Kept.{Contains-dedup_nat, Contains-from_dedup}
use Rattle.std.proofs.lemmas.List.Sorted.{Contains-permutation, IsPermutation-sym}
use Rattle.nav_types.specs.declared.cells.Rect.{Rect}
use Rattle.nav_types.proofs.Items.{Contains-none}
use Rattle.grid_versions.specs.inner.ReachedParts.{IsUnreached}
use Rattle.grid_versions.proofs.DirtyLemmas.{unreached_none, unreached_more}
use Rattle.grid_versions.proofs.dirty_parts.reached_places.Goals as goal

pub loop-reach-init : goal.loop-reach-init
loop-reach-init c = record {
  within = λ k has. absurd (Contains-none k (subst (λ (ks : List ℕ). Contains ks k) c.in_ok-places.ensures.items has));
  all = λ k low. inr (unreached_none c.args.size k);
}

pub loop-reach-preserved : goal.loop-reach-preserved
loop-reach-preserved c =
    let here = c.loop-reach.invariant in
    let pushed = c.in_ok-push_reached.ensures in
    record {
      within = pushed.within here.within;
      all = λ k low. elim (here.all k low) [
        | inl has ↦ inl (pushed.kept k has)
        | inr none ↦ elim (pushed.reached k low) [
          | inl has ↦ inl has
          | inr misses ↦ inr (unreached_more c.args.size c.args.reaches.now c.loop-reach.reach-index k c.loop-reach-test.true none misses)
        ]
      ];
    }

pub returns : goal.returns
returns c =
    let sorted = c.sort_unstable.new.self.items in
    let rising = c.dedup.new.self.items in
    let places = c.loop-reach.places.items in
    let kept = dedup_is eqb sorted rising c.dedup.ensures.filtered in
    record {
      within = λ k has. c.loop-reach.invariant.within k
          (Contains-permutation sorted places k (IsPermutation-sym places sorted c.sort_unstable.ensures.permutation)
          (Contains-from_dedup eqb sorted k (subst (λ (ks : List ℕ). Contains ks k) kept has)));
      all = λ k low. elim (c.loop-reach.invariant.all k low) [
        | inl has ↦ inl (subst (λ (ks : List ℕ). Contains ks k) (sym kept)
            (Contains-dedup_nat sorted k (Contains-permutation places sorted k c.sort_unstable.ensures.permutation has)))
        | inr none ↦ inr (subst (λ (rects : List Rect). IsUnreached c.args.size rects k)
            (take_all c.loop-reach.reach-index c.args.reaches.now c.loop-reach-test.false) none)
      ];
    }
