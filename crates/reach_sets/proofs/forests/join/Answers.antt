use Rattle.std.proofs.Common.{inl, inr, arith}
use Rattle.reach_sets.proofs.ForestLemmas.{joins, keeps_on}
use Rattle.reach_sets.proofs.forests.join.Goals as goal

pub returns-then-first-second : goal.returns-then-first-second
returns-then-first-second c =
    let one = c.root_of-first in let two = c.root_of-second in
    joins c.args.parents.now two.new.parents c.args.a c.args.b two.result one.result
    (keeps_on c.args.parents.now one.new.parents two.new.parents one.ensures.kept two.ensures.kept)
    two.ensures.root (omega arith)
    (inr (two.ensures.found, two.ensures.kept.kept c.args.a one.result one.ensures.found))

pub returns-else-first-second : goal.returns-else-first-second
returns-else-first-second c =
    let one = c.root_of-first in let two = c.root_of-second in
    joins c.args.parents.now two.new.parents c.args.a c.args.b one.result two.result
    (keeps_on c.args.parents.now one.new.parents two.new.parents one.ensures.kept two.ensures.kept)
    (two.ensures.kept.roots one.result one.ensures.root) (omega arith)
    (inl (two.ensures.kept.kept c.args.a one.result one.ensures.found, two.ensures.found))
