use Rattle.std.proofs.Common.{ℕ, List, ◌≡◌, ◌*◌, ◌-◌, ◌/◌, ◌%◌, ◌<◌, Some, option_map, length, map, get_or, ap, sym}
use Rattle.std.proofs.Common.{◌∙◌, arith}
use Rattle.std.specs.Prelude.{slice_get}
use Rattle.std.specs.Arc.{arc_value}
use Rattle.std.proofs.lemmas.List.{length-map}
use Rattle.std.proofs.lemmas.Option.{slice_get-map, slice_get-get_or}
use Rattle.shared_list.proofs.BlockLemmas.{blocks_length, block_item, block_long, rest_item}
use Rattle.shared_list.proofs.block_lists.BlockList.item.Goals as goal

-- a block at a place of the list, and its items
block_here : {A B : Type 0} (f : A → B) (xs : List A) (k : ℕ) (x : A) → k < length xs → x ≡ get_or xs k x
    → slice_get (map f xs) k ≡ Some (f x)
block_here f xs k x low is =
    slice_get-map f xs k ∙ ap (λ o. option_map f o) (slice_get-get_or xs k x low ∙ ap (λ y. Some y) (sym is))

pub item-requires : goal.item-requires
item-requires g c =
    let long = block_long arc_value c.self.inside.blocks.items c.self.inside.rest (c.args.at / 32)
    c.index.result.now c.self.invariant
    (omega (arith, c.if-place-len.true, c.len.ensures)) c.index.ensures in
    omega (arith, long, ap (λ xs. length xs) c.deref.ensures)

pub item-requires-else-place-len : goal.item-requires-else-place-len
item-requires-else-place-len g c =
    let whole = blocks_length (map arc_value c.self.inside.blocks.items) c.self.inside.rest c.self.invariant in
    let long = ap (λ xs. length xs) c.self.view_is in
    let behind = c.self.invariant.behind in
    omega (
      arith,
      whole,
      long,
      behind,
      c.requires,
      c.if-place-len.false,
      length-map c.self.inside.blocks.items
          arc_value,
      c.len.ensures,
      c.len-else-place-len.ensures,
    )

pub returns-then-place-len : goal.returns-then-place-len
returns-then-place-len g c =
    let low : c.args.at / 32 < length c.self.inside.blocks.items = omega (
      arith,
      c.if-place-len.true,
      c.len.ensures,
    ) in
    ap (λ xs. slice_get xs c.args.at) (sym c.self.view_is)
    ∙ block_item (map arc_value c.self.inside.blocks.items) c.self.inside.rest c.args.at (arc_value
    c.index.result.now) (arc_value c.item.result.now) c.self.invariant
    (block_here arc_value c.self.inside.blocks.items (c.args.at / 32) c.index.result.now low c.index.ensures)
    (ap (λ xs. slice_get xs (c.args.at % 32)) (sym c.deref.ensures) ∙ c.item.ensures)

pub returns-else-place-len : goal.returns-else-place-len
returns-else-place-len g c =
    ap (λ xs. slice_get xs c.args.at) (sym c.self.view_is)
    ∙ rest_item (map arc_value c.self.inside.blocks.items) c.self.inside.rest c.args.at (c.args.at -
    c.len-else-place-len.result * 32) (arc_value c.item-else-place-len.result.now)
    c.self.invariant
    (omega (
      arith,
      c.if-place-len.false,
      length-map c.self.inside.blocks.items arc_value,
      c.len.ensures,
      c.len-else-place-len.ensures,
    ))
    c.item-else-place-len.ensures
