use Rattle.std.proofs.Common.{rules, ℕ, ◌≡◌, ◌+◌, ◌++◌, ◌∷◌, [], length, ap, sym, subst, ◌∙◌, List, arith}
use Rattle.nav_types.specs.declared.cells.Cell.{Cell}
use Rattle.jump_search.specs.declared.nodes.Node.{Node}
use Rattle.jump_search.specs.inner.Numbered.{AreSlotChains, AreCovered}
use Rattle.jump_search.specs.inner.Paged.{slot_of, cell_number}
use Rattle.jump_search.proofs.Covering.{covered_more}
use Rattle.jump_search.proofs.Numbering.{chained_more}
use Rattle.jump_search.proofs.nodes.Nodes.add.Goals as goal

pub invariant_of-self-2 : goal.invariant_of-self-2
invariant_of-self-2 c =
    let inside = c.self.inside in
    let node = c.args.node in
    let table = inside.pages.table.items in
    let made = c.replace.new.self.table.items in
    let Head = cell_number table inside.pages.numbers.items in
    let New = cell_number made c.replace.new.self.numbers.items in
    let list = c.push_reserved-2.new.self.items in
    let links = c.push_reserved.new.self.items in
    let set = c.in_ok-before.ensures.set in
    let counted = c.len-count.ensures in
    let few = c.if-count.false in
    let here : (other : Cell) → slot_of other ≡ slot_of node.state.cell → New other ≡ length inside.list.items + 1 =
    λ other same. (let at = set.here other same in omega (arith, at, counted, few)) in
    let items : list ≡ inside.list.items ++ node ∷ [] =
    c.push_reserved-2.ensures.items ∙ ap (λ (l : List Node). l ++ node ∷ []) c.reserve.ensures.items in
    let linked : links ≡ inside.links.items ++ Head node.state.cell ∷ [] =
    c.push_reserved.ensures.items ∙ ap (λ (l : List ℕ). l ++ c.in_ok-before.before ∷ []) c.reserve-2.ensures.items
    ∙ ap (λ (n : ℕ). inside.links.items ++ n ∷ []) c.in_ok-before.ensures.before in
    let chained = chained_more slot_of Head New inside.list.items inside.links.items node (length inside.list.items + 1)
    c.self.invariant.chained (search rules) here set.apart in
    let one = subst (λ (l : List Node). AreSlotChains slot_of New l (inside.links.items ++ Head node.state.cell ∷ []))
    (sym items) chained in
    record {
      chained = subst (λ (l : List ℕ). AreSlotChains slot_of New list l) (sym linked) one;
      covered = subst (λ (l : List Node). AreCovered made l) (sym items)
          (covered_more table made inside.list.items node c.self.invariant.covered c.replace.ensures.others);
    }
