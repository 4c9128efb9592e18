use Rattle.std.proofs.Common.{ℕ, ◌<◌, List, length, map, sym, ap, ◌∙◌, subst}
use Rattle.std.proofs.lemmas.List.Sorted.{IsPermutation-map}
use Rattle.std.proofs.lemmas.Result.{IfOk-weaker}
use Rattle.nav_types.specs.Counting.{Lists}
use Rattle.path_workers.specs.inner.Ranking.{ranked_job}
use Rattle.path_workers.proofs.Ordering.{Lists-permuted}
use Rattle.path_workers.proofs.ranking.longest_first.Goals as goal

pub returns-clause-all : goal.returns-clause-all
returns-clause-all c =
    let Below : ℕ → Type 0 = λ job. job < length c.args.jobs.now in
    let moved = IsPermutation-map ranked_job _ _ c.in_ok-sort_by.ensures.permutation in
    let lists = Lists-permuted Below _ _ moved c.in_ok-ranked.ensures.all in
    IfOk-weaker c.numbers_of.result _ (λ (order : _). Lists Below order.items)
    (λ order is. subst (λ (ns : List ℕ). Lists Below ns) (sym (is ∙ ap (map ranked_job) c.deref.ensures.value)) lists)
    c.numbers_of.ensures
