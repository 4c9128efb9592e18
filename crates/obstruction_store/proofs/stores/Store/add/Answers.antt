use Rattle.std.proofs.Common.{◌≡◌, None, ap, sym, ◌∙◌, arith}
use Rattle.std.specs.FinMap as map
use Rattle.obstruction_store.specs.inner.Paged.{standing_in}
use Rattle.obstruction_store.proofs.Holding.{none_from_test}
use Rattle.obstruction_store.proofs.Paging.{page_on, page_here, standing_with, ArePages-added}
use Rattle.obstruction_store.proofs.stores.Store.add.Goals as goal

pub add_on-requires : goal.add_on-requires
add_on-requires c = let each = c.self.invariant.each in omega (arith, each, c.page_of-at.ensures)

pub invariant_of-self-2 : goal.invariant_of-self-2
invariant_of-self-2 c = let at = c.self.inside in
    let none : map.get (standing_in at.pages) c.args.id ≡ None =
    ap (λ m. map.get m c.args.id) c.self.view_is ∙ none_from_test (map.get c.args.self.now c.args.id) (sym c.stands.ensures ∙ c.if-stands.false) in
    let room = c.if-self-ge-MAX_OBSTRUCTIONS.false in
    let page = page_on at.pages c.args.id in
    ArePages-added at.pages at.count c.args.id c.page_of-at.result page c.self.invariant c.page_of-at.ensures (page_here at.pages c.args.id c.page_of-at.result c.self.invariant.each c.page_of-at.ensures)
    c.args.obstruction c.add_on.new.pages (c.in-Ok.ensures.added page (page_here at.pages c.args.id c.page_of-at.result c.self.invariant.each c.page_of-at.ensures)) none (omega (arith, room))

pub returns-clause-added : goal.returns-clause-added
returns-clause-added c = let at = c.self.inside in
    let page = page_on at.pages c.args.id in
    standing_with at.pages at.count c.args.id c.page_of-at.result page c.self.invariant c.page_of-at.ensures (page_here at.pages c.args.id c.page_of-at.result c.self.invariant.each c.page_of-at.ensures)
    c.args.obstruction c.add_on.new.pages (c.in-Ok.ensures.added page (page_here at.pages c.args.id c.page_of-at.result c.self.invariant.each c.page_of-at.ensures))
    ∙ ap (λ m. map.insert m c.args.id c.args.obstruction) c.self.view_is
