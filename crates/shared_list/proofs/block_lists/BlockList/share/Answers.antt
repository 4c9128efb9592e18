use Rattle.std.proofs.Common.{◌++◌, map, ap, sym, subst, ◌∙◌}
use Rattle.std.specs.Arc.{arc_value}
use Rattle.shared_list.specs.inner.Blocks.{AreBlocks, in_blocks}
use Rattle.shared_list.proofs.BlockLemmas.{cloned}
use Rattle.shared_list.proofs.block_lists.BlockList.share.Goals as goal

pub invariant_of-result : goal.invariant_of-result
invariant_of-result g c =
    let made = c.in_ok-extend_with_clones.ensures.items in
    let same = ap (λ xs. map arc_value xs) (made.1 ∙ ap (λ xs. xs ++ made.0) c.in_ok-blocks.ensures.items)
    ∙ cloned arc_value c.deref.result.now made.0 made.2
    ∙ ap (λ xs. map arc_value xs) c.deref.ensures.value in
    subst (λ bs. AreBlocks bs c.in_ok-share.field-0) (sym same)
    (subst (λ rest. AreBlocks (map arc_value c.self.inside.blocks.items) rest) (sym c.in_ok-share.ensures) c.self.invariant)

pub returns : goal.returns
returns g c =
    let made = c.in_ok-extend_with_clones.ensures.items in
    ap (λ bs. in_blocks bs c.in_ok-share.field-0)
    (ap (λ xs. map arc_value xs) (made.1 ∙ ap (λ xs. xs ++ made.0) c.in_ok-blocks.ensures.items)
    ∙ cloned arc_value c.deref.result.now made.0 made.2
    ∙ ap (λ xs. map arc_value xs) c.deref.ensures.value)
    ∙ ap (λ rest. in_blocks (map arc_value c.self.inside.blocks.items) rest) c.in_ok-share.ensures ∙ c.self.view_is
