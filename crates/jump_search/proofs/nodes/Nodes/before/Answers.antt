use Rattle.std.proofs.Common.{ℕ, ◌≡◌, ◌<◌, List, Some, length, get_or, sym, subst, ap, arith}
use Rattle.std.specs.Prelude.{slice_get}
use Rattle.std.proofs.lemmas.List.{get_or_read}
use Rattle.jump_search.specs.declared.nodes.Node.{Node}
use Rattle.jump_search.specs.inner.Numbered.{IsLastInSlot}
use Rattle.jump_search.specs.inner.Paged.{slot_of, cell_number}
use Rattle.jump_search.proofs.Numbering.{chained_down}
use Rattle.jump_search.proofs.nodes.Nodes.before.Goals as goal

pub returns-clause-inside : goal.returns-clause-inside
returns-clause-inside c =
    let inside = c.self.inside in
    let list = inside.list.items in
    let links = inside.links.items in
    let down = chained_down slot_of (cell_number inside.pages.table.items inside.pages.numbers.items) list links
    c.self.invariant.chained in
    let known = c.requires in
    let same = ap (λ (nodes : List Node). length nodes) c.self.view_is in
    let within : c.args.number < length list = omega (arith, known, same) in
    let long = down.long in
    let low : c.args.number < length links = omega (arith, within, long) in
    let link : c.index.result.now ≡ get_or links c.args.number 0 =
    get_or_read links c.args.number c.index.result.now low c.index.ensures 0 in
    let most = down.each c.args.number within in
    omega (arith, link, most)

pub returns-clause-last : goal.returns-clause-last
returns-clause-last c = λ node found.
    let inside = c.self.inside in
    let list = inside.list.items in
    let links = inside.links.items in
    let number = c.args.number in
    let known = c.requires in
    let same = ap (λ (nodes : List Node). length nodes) c.self.view_is in
    let long = c.self.invariant.chained.linked.long in
    let low : number < length links = omega (arith, known, same, long) in
    let link : c.index.result.now ≡ get_or links number 0 =
    get_or_read links number c.index.result.now low c.index.ensures 0 in
    let slot = slot_of node.state.cell in
    let got : slice_get list number ≡ Some node =
    subst (λ (nodes : List Node). slice_get nodes number ≡ Some node) (sym c.self.view_is) found in
    subst (λ (nodes : List Node). IsLastInSlot slot_of nodes slot number c.index.result.now) c.self.view_is
    (subst (λ (after : ℕ). IsLastInSlot slot_of list slot number after) (sym link)
    (c.self.invariant.chained.linked.each number node got))
