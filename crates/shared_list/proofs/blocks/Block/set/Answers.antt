use Rattle.std.proofs.Common.{◌∙◌, set, ap}
use Rattle.std.specs.Arc.{arc_value}
use Rattle.std.proofs.lemmas.List.{map-set}
use Rattle.shared_list.proofs.blocks.Block.set.Goals as goal

pub returns : goal.returns
returns g c =
    map-set arc_value c.self.inside.items.items c.args.at c.args.item
    ∙ ap (λ xs. set xs c.args.at (arc_value c.args.item)) c.self.view_is
