use Rattle.std.proofs.Common.{◌++◌, ◌∷◌, [], map, ap, sym, ◌∙◌, subst, arith}
use Rattle.std.specs.Arc.{arc_value}
use Rattle.std.proofs.lemmas.List.{length-map, map-append}
use Rattle.shared_list.specs.inner.Blocks.{AreBlocks, in_blocks}
use Rattle.shared_list.proofs.BlockLemmas.{block_more, more_whole}
use Rattle.shared_list.proofs.block_lists.BlockList.push_shared.Goals as goal

pub invariant_of-self-2 : goal.invariant_of-self-2
invariant_of-self-2 g c =
    let items = c.self.inside.blocks.items in
    let held = c.in_ok-block.block in
    let behind = c.self.invariant.behind in
    subst (λ bs. AreBlocks bs c.new.result)
    (sym (ap (map arc_value) c.in_ok-push.ensures.items ∙ map-append arc_value items (held ∷ [])))
    (subst (λ rest. AreBlocks (map arc_value items ++ arc_value held ∷ []) rest) (sym c.new.ensures)
    (more_whole (map arc_value items) c.self.inside.rest (arc_value held) (arc_value c.args.item) c.self.invariant
    c.in_ok-block.ensures
    (omega (arith, behind, c.len.ensures)) (omega (arith, length-map items arc_value, c.len-2.ensures))))

pub returns-clause-ok : goal.returns-clause-ok
returns-clause-ok g c =
    let items = c.self.inside.blocks.items in
    let held = c.in_ok-block.block in
    ap (λ bs. in_blocks (map arc_value bs) c.new.result) c.in_ok-push.ensures.items
    ∙ ap (λ bs. in_blocks bs c.new.result) (map-append arc_value items (held ∷ []))
    ∙ ap (λ rest. in_blocks (map arc_value items ++ arc_value held ∷ []) rest) c.new.ensures
    ∙ block_more (map arc_value items) c.self.inside.rest (arc_value held) (arc_value c.args.item) c.in_ok-block.ensures
    ∙ ap (λ xs. xs ++ arc_value c.args.item ∷ []) c.self.view_is
