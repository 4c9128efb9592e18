use Rattle.std.proofs.Common.{◌*◌, ◌-◌, ◌/◌, ◌%◌, ◌<◌, length, map, set, ap, sym, subst, ◌∙◌, arith}
use Rattle.std.specs.Arc.{arc_value}
use Rattle.std.proofs.lemmas.List.{length-map}
use Rattle.shared_list.specs.inner.Blocks.{AreBlocks, in_blocks}
use Rattle.shared_list.proofs.BlockLemmas.{blocks_length, block_long, block_made, held_set, block_set, set_whole}
use Rattle.shared_list.proofs.BlockLemmas.{rest_set}
use Rattle.shared_list.proofs.block_lists.BlockList.set_shared.Goals as goal

pub set-requires : goal.set-requires
set-requires g c =
    let long = block_long arc_value c.self.inside.blocks.items c.self.inside.rest (c.args.at / 32)
    c.index.result.now c.self.invariant
    (omega (arith, c.if-place-len.true, c.len.ensures)) c.index.ensures in
    omega (arith, long, ap (λ xs. length xs) (c.in_ok-block.ensures ∙ c.deref.ensures))

pub invariant_of-self-then-place-len : goal.invariant_of-self-then-place-len
invariant_of-self-then-place-len g c =
    let items = c.self.inside.blocks.items in
    let low : c.args.at / 32 < length items = omega (arith, c.if-place-len.true, c.len.ensures) in
    let made = block_made arc_value items (c.args.at / 32) (c.args.at % 32) c.index.result.now c.set.new.self
    (arc_value c.args.item) low c.index.ensures
    (c.set.ensures ∙ ap (λ xs. set xs (c.args.at % 32) (arc_value c.args.item)) (c.in_ok-block.ensures
    ∙ c.deref.ensures)) in
    subst (λ bs. AreBlocks bs c.self.inside.rest)
    (sym (held_set arc_value items c.replace.new.blocks.items (c.args.at / 32) c.in_ok-new.field-0
    c.set.new.self c.replace.ensures c.in_ok-new.ensures.ok))
    (set_whole (map arc_value items) c.self.inside.rest (c.args.at / 32) (c.args.at % 32) c.set.new.self
    (arc_value c.args.item) c.self.invariant
    (omega (arith, low, length-map items arc_value)) made)

pub set-requires-else-place-len : goal.set-requires-else-place-len
set-requires-else-place-len g c =
    let whole = blocks_length (map arc_value c.self.inside.blocks.items) c.self.inside.rest c.self.invariant in
    let long = ap (λ xs. length xs) c.self.view_is in
    omega (
      arith,
      whole,
      long,
      c.requires,
      c.if-place-len.false,
      length-map c.self.inside.blocks.items arc_value,
      c.len.ensures,
      c.len-else-place-len.ensures,
    )

pub returns-in_ok-new-clause-ok : goal.returns-in_ok-new-clause-ok
returns-in_ok-new-clause-ok g c =
    let items = c.self.inside.blocks.items in
    let low : c.args.at / 32 < length items = omega (arith, c.if-place-len.true, c.len.ensures) in
    let made = block_made arc_value items (c.args.at / 32) (c.args.at % 32) c.index.result.now c.set.new.self
    (arc_value c.args.item) low c.index.ensures
    (c.set.ensures ∙ ap (λ xs. set xs (c.args.at % 32) (arc_value c.args.item)) (c.in_ok-block.ensures
    ∙ c.deref.ensures)) in
    ap (λ bs. in_blocks bs c.self.inside.rest)
    (held_set arc_value items c.replace.new.blocks.items (c.args.at / 32) c.in_ok-new.field-0 c.set.new.self
    c.replace.ensures c.in_ok-new.ensures.ok)
    ∙ block_set (map arc_value items) c.self.inside.rest c.args.at c.set.new.self (arc_value c.args.item)
    c.self.invariant
    (omega (arith, low, length-map items arc_value)) made
    ∙ ap (λ xs. set xs c.args.at (arc_value c.args.item)) c.self.view_is

pub returns-else-place-len-clause-ok : goal.returns-else-place-len-clause-ok
returns-else-place-len-clause-ok g c =
    rest_set (map arc_value c.self.inside.blocks.items) c.self.inside.rest c.set-else-place-len.new.self
    c.args.at (c.args.at - c.len-else-place-len.result * 32)
    (arc_value c.args.item) c.self.invariant
    (omega (
      arith,
      c.if-place-len.false,
      length-map c.self.inside.blocks.items arc_value,
      c.len.ensures,
      c.len-else-place-len.ensures,
    ))
    c.set-else-place-len.ensures
    ∙ ap (λ xs. set xs c.args.at (arc_value c.args.item)) c.self.view_is
