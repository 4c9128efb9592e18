use Rattle.std.proofs.Common.{◌++◌, map, ap, ◌∙◌}
use Rattle.std.specs.Arc.{arc_value}
use Rattle.shared_list.proofs.BlockLemmas.{cloned}
use Rattle.shared_list.proofs.blocks.Block.share.Goals as goal

pub returns : goal.returns
returns g c =
    let made = c.in_ok-extend_with_clones.ensures.items in
    ap (λ xs. map arc_value xs) (made.1 ∙ ap (λ xs. xs ++ made.0) c.in_ok-items.ensures.items)
    ∙ cloned arc_value c.deref.result.now made.0 made.2
    ∙ ap (λ xs. map arc_value xs) c.deref.ensures.value ∙ c.self.view_is
