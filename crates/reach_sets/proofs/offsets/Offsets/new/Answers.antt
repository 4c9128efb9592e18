use Rattle.std.proofs.Common.{◌≡◌, ◌++◌, [], drop, sym, ap, ◌∙◌, arith}
use Rattle.std.proofs.lemmas.List.{drop_all}
use Rattle.reach_sets.specs.inner.RowStarts.{starts_from}
use Rattle.reach_sets.proofs.RowLemmas.{row_made}
use Rattle.reach_sets.proofs.offsets.Offsets.new.Goals as goal

pub invariant_of-result : goal.invariant_of-result
invariant_of-result c =
    let e = c.in_ok-push-2.ensures.items in
    let regions = c.args.regions.now in let loop = c.loop-count in
    let all : drop loop.count-index regions ≡ [] = drop_all loop.count-index regions (omega arith) in
    let made = e ∙ ap (λ ys. loop.starts.items ++ starts_from loop.end ys) (sym all) ∙ loop.invariant.rest in
    (row_made _ regions made c.requires).1

pub returns : goal.returns
returns c =
    let e = c.in_ok-push-2.ensures.items in
    let regions = c.args.regions.now in let loop = c.loop-count in
    let all : drop loop.count-index regions ≡ [] = drop_all loop.count-index regions (omega arith) in
    let made = e ∙ ap (λ ys. loop.starts.items ++ starts_from loop.end ys) (sym all) ∙ loop.invariant.rest in
    (row_made _ regions made c.requires).0
