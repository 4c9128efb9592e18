use Rattle.std.proofs.Common.{◌≡◌, ap, sym, ◌∙◌, arith}
use Rattle.std.specs.FinMap as map
use Rattle.std.specs.Prelude.{option_copied}
use Rattle.obstruction_shapes.specs.declared.shapes.Obstruction.{Obstruction}
use Rattle.obstruction_shapes.specs.declared.shapes.Shape.{Shape}
use Rattle.obstruction_shapes.specs.Shapes.{moved_to}
use Rattle.obstruction_store.specs.Standing.{with_placed}
use Rattle.obstruction_store.proofs.Paging.{page_on, page_here, standing_with, ArePages-written}
use Rattle.obstruction_store.proofs.stores.Store.move_to.Goals as goal

pub replace_on-requires : goal.replace_on-requires
replace_on-requires c = let each = c.self.invariant.each in omega (arith, each, c.page_of-at.ensures)

pub invariant_of-self-2 : goal.invariant_of-self-2
invariant_of-self-2 c = let at = c.self.inside in
    let written : Obstruction = record { shape = c.in-Ok.shape; mask = c.in-Some.found.now.mask } in
    let page = page_on at.pages c.args.id in
    ArePages-written at.pages at.count c.args.id c.page_of-at.result page c.self.invariant c.page_of-at.ensures (page_here at.pages c.args.id c.page_of-at.result c.self.invariant.each c.page_of-at.ensures)
    written c.in-Some.found.now c.replace_on.new.pages (c.in-Ok-replace_on.ensures.replaced page (page_here at.pages c.args.id c.page_of-at.result c.self.invariant.each c.page_of-at.ensures))
    (ap (λ m. map.get m c.args.id) c.self.view_is ∙ sym c.get.ensures ∙ ap option_copied c.in-Some.is)

pub returns-clause-moves : goal.returns-clause-moves
returns-clause-moves c = let at = c.self.inside in
    let reshaped : Shape → Obstruction = λ shape. record { shape = shape; mask = c.in-Some.found.now.mask } in
    let shape_is : c.in-Ok.shape ≡ moved_to c.in-Some.found.now.shape c.args.x c.args.z = c.in-Ok.ensures.1 ∙ c.moved.ensures in
    let page = page_on at.pages c.args.id in
    standing_with at.pages at.count c.args.id c.page_of-at.result page c.self.invariant c.page_of-at.ensures (page_here at.pages c.args.id c.page_of-at.result c.self.invariant.each c.page_of-at.ensures)
    (reshaped c.in-Ok.shape) c.replace_on.new.pages (c.in-Ok-replace_on.ensures.replaced page (page_here at.pages c.args.id c.page_of-at.result c.self.invariant.each c.page_of-at.ensures))
    ∙ ap (λ m. map.insert m c.args.id (reshaped c.in-Ok.shape)) c.self.view_is
    ∙ ap (λ shape. map.insert c.args.self.now c.args.id (reshaped shape)) shape_is
    ∙ sym (ap (with_placed c.args.self.now c.args.id c.args.x c.args.z) (sym c.get.ensures ∙ ap option_copied c.in-Some.is))
