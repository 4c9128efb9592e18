use Rattle.std.proofs.Common.{length, map, ap, arith}
use Rattle.std.specs.Arc.{arc_value}
use Rattle.std.proofs.lemmas.List.{length-map}
use Rattle.shared_list.proofs.BlockLemmas.{blocks_length}
use Rattle.shared_list.proofs.block_lists.BlockList.len.Goals as goal

pub overflow_mul-result : goal.overflow_mul-result
overflow_mul-result g c = let few = c.self.invariant.few in omega (
  arith,
  few,
  length-map
      c.self.inside.blocks.items arc_value,
  c.len.ensures,
)

pub overflow_add-result : goal.overflow_add-result
overflow_add-result g c = let few = c.self.invariant.few in let behind = c.self.invariant.behind in
    omega (arith, few, behind, length-map c.self.inside.blocks.items arc_value, c.len.ensures, c.len-2.ensures)

pub returns : goal.returns
returns g c =
    let whole = blocks_length (map arc_value c.self.inside.blocks.items) c.self.inside.rest c.self.invariant in
    omega (
      arith,
      whole,
      ap (λ xs. length xs) c.self.view_is,
      length-map c.self.inside.blocks.items arc_value,
      c.len.ensures,
      c.len-2.ensures,
    )
