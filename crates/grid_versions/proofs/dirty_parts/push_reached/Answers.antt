use Rattle.std.proofs.Common.{ℕ, ◌≡◌, ◌⊎◌, inl, inr, subst, arith}
use Rattle.std.specs.List.{Contains}
use Rattle.std.proofs.lemmas.Bool.{cases_lt}
use Rattle.grid_versions.specs.inner.ReachedParts.{Misses}
use Rattle.grid_versions.proofs.DirtyLemmas.{places_between}
use Rattle.grid_versions.proofs.dirty_parts.push_reached.Goals as goal

pub loop-place-init : goal.loop-place-init
loop-place-init c = record {
  within = λ all. all;
  kept = λ k has. has;
  reached = λ k from below. absurd (omega arith);
}

pub loop-place-preserved : goal.loop-place-preserved
loop-place-preserved c =
    let here = c.loop-place.invariant in
    let pushed = c.in_ok-push_place.ensures in
    record {
      within = λ all. pushed.within (here.within all);
      kept = λ k has. pushed.kept k (here.kept k has);
      reached = λ k from below. elim (cases_lt k c.loop-place.place) [
        | inl early ↦ elim (here.reached k from early) [
          | inl has ↦ inl (pushed.kept k has)
          | inr misses ↦ inr misses
        ]
        | inr late ↦
            let same : c.loop-place.place ≡ k = omega arith in
            subst (λ (n : ℕ). Contains c.push_place.new.places.items n ⊎ Misses c.args.size c.args.reach n) same pushed.reached
      ];
    }

pub returns-clause-reached : goal.returns-clause-reached
returns-clause-reached c = λ k below.
    let size = c.args.size in
    let reach = c.args.reach in
    let from = c.place_at-first.ensures in
    let to = c.place_behind-behind.ensures in
    let count = c.count.ensures.value in
    let least = c.min-end.ensures in
    elim (cases_lt k c.place_at-first.result) [
      | inl before ↦ inr (λ cell inside held.
          let between = places_between size reach k cell inside held in
          let low = between.0 in absurd (omega (arith, from, low, before)))
      | inr later ↦ elim (cases_lt k c.min-end.result) [
        | inl within ↦ c.loop-place.invariant.reached k later (omega arith)
        | inr past ↦ inr (λ cell inside held.
            let between = places_between size reach k cell inside held in
            let high = between.1 in absurd (omega (arith, to, high, past, below, count, least)))
      ]
    ]
