use Rattle.std.proofs.Common.{◌*◌, ◌-◌, ◌/◌, ◌%◌, ◌<◌, ◌∙◌, List, length, map, set, ap, subst, arith}
use Rattle.std.specs.Prelude.{IfSome}
use Rattle.std.specs.Arc.{arc_value, arc_with_value}
use Rattle.std.proofs.lemmas.List.{length-map}
use Rattle.shared_list.specs.Changing.{IsChangedBy}
use Rattle.shared_list.specs.inner.Blocks.{in_blocks}
use Rattle.shared_list.proofs.BlockLemmas.{blocks_length, block_long, changed_long, changed_in_block, changed_behind, long_whole, same_block, none_then}
use Rattle.shared_list.proofs.block_lists.BlockList.change.Goals as goal

pub change-requires-clause-place : goal.change-requires-clause-place
change-requires-clause-place g c =
    let low : c.args.at / 32 < length c.self.inside.blocks.items = omega (arith, c.if-place-len.true, c.len.ensures) in
    let long = block_long arc_value c.self.inside.blocks.items c.self.inside.rest (c.args.at / 32) c.index_mut.result.now
    c.self.invariant low c.index_mut.ensures.value in
    omega (arith, long, ap (λ xs. length xs) c.in-Some.ensures.value)

pub invariant_of-self-then-place-len : goal.invariant_of-self-then-place-len
invariant_of-self-then-place-len g c =
    let low : c.args.at / 32 < length c.self.inside.blocks.items = omega (arith, c.if-place-len.true, c.len.ensures) in
    long_whole arc_value c.self.inside.blocks.items c.self.inside.rest (c.args.at / 32) c.index_mut.result.now _
    c.index_mut.ensures.value low c.self.invariant
    (changed_long g.F.FnOnce c.args.change (c.args.at % 32) c.change.result c.in-Some.block.now c.change.new.self
    c.change.ensures.changed c.change.ensures.kept ∙ ap (λ xs. length xs) c.in-Some.ensures.value)

pub returns-then-place-len-clause-changed : goal.returns-then-place-len-clause-changed
returns-then-place-len-clause-changed g c =
    let items = c.self.inside.blocks.items in
    let rest = c.self.inside.rest in
    let low : c.args.at / 32 < length items = omega (arith, c.if-place-len.true, c.len.ensures) in
    let x = c.index_mut.result.now in
    let y = arc_with_value x c.change.new.self in
    let changed = subst (λ (before : List g.row.T.Denot). IfSome c.change.result
    (λ given. IsChangedBy g.F.FnOnce c.args.change (c.args.at % 32) given before c.change.new.self)) c.in-Some.ensures.value
    c.change.ensures.changed in
    subst (λ (before : List g.row.T.Denot). IfSome c.change.result
    (λ given. IsChangedBy g.F.FnOnce c.args.change c.args.at given before (in_blocks (map arc_value (set items (c.args.at / 32) y)) rest)))
    c.self.view_is
    (changed_in_block arc_value g.F.FnOnce c.args.change items rest c.args.at x y c.change.result c.self.invariant low
    c.index_mut.ensures.value changed)

pub returns-then-place-len-clause-kept : goal.returns-then-place-len-clause-kept
returns-then-place-len-clause-kept g c =
    let low : c.args.at / 32 < length c.self.inside.blocks.items = omega (arith, c.if-place-len.true, c.len.ensures) in
    none_then c.change.result (λ same.
    same_block arc_value c.self.inside.blocks.items c.self.inside.rest (c.args.at / 32) c.index_mut.result.now _
    c.index_mut.ensures.value low (same ∙ c.in-Some.ensures.value) ∙ c.self.view_is) c.change.ensures.kept

pub change-requires-2-clause-place : goal.change-requires-2-clause-place
change-requires-2-clause-place g c =
    let whole = blocks_length (map arc_value c.self.inside.blocks.items) c.self.inside.rest c.self.invariant in
    let long = ap (λ xs. length xs) c.self.view_is in
    omega (
      arith,
      whole,
      long,
      c.requires.place,
      c.if-place-len.false,
      length-map c.self.inside.blocks.items arc_value,
      c.len.ensures,
      c.len-2.ensures,
    )

pub returns-clause-changed : goal.returns-clause-changed
returns-clause-changed g c =
    let items = c.self.inside.blocks.items in
    subst (λ (before : List g.row.T.Denot). IfSome c.change-2.result
    (λ given. IsChangedBy g.F.FnOnce c.args.change c.args.at given before (in_blocks (map arc_value items) c.change-2.new.self)))
    c.self.view_is
    (changed_behind g.F.FnOnce c.args.change (map arc_value items) c.self.inside.rest c.change-2.new.self c.args.at
    (c.args.at - c.len-2.result * 32) c.change-2.result c.self.invariant
    (omega (arith, c.if-place-len.false, length-map items arc_value, c.len.ensures, c.len-2.ensures)) c.change-2.ensures.changed)
