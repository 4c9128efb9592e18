use Rattle.jump_search.proofs.Keeping.{only_none, none_known}
use Rattle.jump_search.proofs.known_successors.KnownSuccessors.new.Goals as goal

pub invariant_of-result : goal.invariant_of-result
invariant_of-result c =
    none_known c.in_ok-sets.sets.items (c.in_ok-sets.ensures.items_if_clones_equal (only_none _ (λ dirs is. is)))

pub returns : goal.returns
returns c = c.in_ok-sets.ensures.items_if_clones_equal (only_none _ (λ dirs is. is))
