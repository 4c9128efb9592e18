use Rattle.std.proofs.Common.{ℕ, ◌≡◌, ◌<◌, ◌+◌, List, [], ◌∷◌, ◌++◌, map, sym, ap, ◌∙◌, subst, rules, arith}
use Rattle.std.proofs.lemmas.List.{map-append}
use Rattle.nav_types.specs.Counting.{Lists}
use Rattle.path_workers.specs.inner.Ranking.{ranked_job}
use Rattle.path_workers.proofs.Ordering.{Lists-more}
use Rattle.path_workers.proofs.ranking.all_ranked.Goals as goal

pub loop-request-preserved : goal.loop-request-preserved
loop-request-preserved c =
    let kept = c.loop-request.invariant in
    let number = kept.number in
    record {
      number = search rules;
      count = search rules;
      room = search rules;
      lists = subst (λ (ns : List ℕ). Lists (λ job. job < c.loop-request.request-index + 1) ns)
          (sym (ap (map ranked_job) c.push_reserved.ensures.items ∙ map-append ranked_job c.loop-request.ranked.items (_ ∷ [])
          ∙ ap (λ (n : ℕ). map ranked_job c.loop-request.ranked.items ++ n ∷ []) number))
          (Lists-more c.loop-request.request-index (map ranked_job c.loop-request.ranked.items) kept.lists);
    }

pub returns-clause-all : goal.returns-clause-all
returns-clause-all c =
    let last = c.loop-request-test.false in
    let low = c.loop-request.auto.request-index-end in
    let whole : c.loop-request.request-index ≡ _ = omega (arith, last, low) in
    subst (λ (bound : ℕ). Lists (λ job. job < bound) (map ranked_job c.loop-request.ranked.items)) whole c.loop-request.invariant.lists
