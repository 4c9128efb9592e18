use Rattle.std.proofs.Common.{List, subst}
use Rattle.jump_search.specs.declared.nodes.Node.{Node}
use Rattle.jump_search.specs.inner.Numbered.{IsLookup}
use Rattle.jump_search.proofs.nodes.Nodes.look_up.Goals as goal

pub returns : goal.returns
returns c =
    subst (λ (nodes : List Node). IsLookup nodes c.args.state c.args.bound c.look_up_before.result) c.self.view_is
    c.look_up_before.ensures
