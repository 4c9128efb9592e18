use Rattle.std.proofs.Common.{sym, ◌∙◌}
use Rattle.obstruction_store.proofs.Holding.{stands_at, none_stands}
use Rattle.obstruction_store.proofs.pages.Page.get.Goals as goal

pub returns-in-Some : goal.returns-in-Some
returns-in-Some c = let at = c.self.inside in
    c.get-in-Some.ensures
    ∙ sym (stands_at at.keys at.obstructions.slots c.self.invariant c.args.self.now c.self.view_is c.args.id c.in-Some.field-0.now (sym c.in-Some.ensures.value))

pub returns-in-None : goal.returns-in-None
returns-in-None c = let at = c.self.inside in
    sym (none_stands at.keys at.obstructions.slots c.self.invariant c.args.self.now c.self.view_is c.args.id (sym c.in-None.ensures.value))
