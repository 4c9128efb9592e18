use Rattle.std.proofs.Common.{ap, sym, ◌∙◌, arith}
use Rattle.std.specs.FinMap as map
use Rattle.std.specs.Prelude.{option_copied}
use Rattle.obstruction_store.proofs.Paging.{page_on, page_here, standing_without, ArePages-removed, counts_one}
use Rattle.obstruction_store.proofs.stores.Store.remove.Goals as goal

pub remove_on-requires : goal.remove_on-requires
remove_on-requires c = let each = c.self.invariant.each in omega (arith, each, c.page_of-at.ensures)

pub overflow_sub-self : goal.overflow_sub-self
overflow_sub-self c = let at = c.self.inside in
    counts_one at.pages at.count c.args.id c.in-Some.found.now c.self.invariant
    (ap (λ m. map.get m c.args.id) c.self.view_is ∙ sym c.get.ensures ∙ ap option_copied c.in-Some.is)

pub invariant_of-self-2 : goal.invariant_of-self-2
invariant_of-self-2 c = let at = c.self.inside in
    let page = page_on at.pages c.args.id in
    ArePages-removed at.pages at.count c.args.id c.page_of-at.result page c.self.invariant c.page_of-at.ensures (page_here at.pages c.args.id c.page_of-at.result c.self.invariant.each c.page_of-at.ensures)
    c.in-Some.found.now c.remove_on.new.pages (c.in-Ok.ensures.removed page (page_here at.pages c.args.id c.page_of-at.result c.self.invariant.each c.page_of-at.ensures))
    (ap (λ m. map.get m c.args.id) c.self.view_is ∙ sym c.get.ensures ∙ ap option_copied c.in-Some.is)

pub returns-clause-removed : goal.returns-clause-removed
returns-clause-removed c = let at = c.self.inside in
    let page = page_on at.pages c.args.id in
    standing_without at.pages at.count c.args.id c.page_of-at.result page c.self.invariant c.page_of-at.ensures (page_here at.pages c.args.id c.page_of-at.result c.self.invariant.each c.page_of-at.ensures)
    c.remove_on.new.pages (c.in-Ok.ensures.removed page (page_here at.pages c.args.id c.page_of-at.result c.self.invariant.each c.page_of-at.ensures))
    ∙ ap (λ m. map.remove m c.args.id) c.self.view_is
