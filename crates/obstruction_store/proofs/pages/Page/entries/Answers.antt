use Rattle.std.proofs.Common.{ap, sym, subst, ◌∙◌}
use Rattle.std.specs.FinMap as map
use Rattle.obstruction_store.specs.inner.Held.{held_entries, HaveFullSlots}
use Rattle.obstruction_store.proofs.Holding.{all_full, entries-held}
use Rattle.obstruction_store.proofs.pages.Page.entries.Goals as goal

pub new-requires : goal.new-requires
new-requires c = let at = c.self.inside in
    subst (HaveFullSlots at.obstructions.slots) (sym c.iter.ensures.rest) (all_full at.keys at.obstructions.slots c.self.invariant)

pub returns : goal.returns
returns c = let at = c.self.inside in
    c.new.ensures ∙ ap (held_entries at.obstructions.slots) c.iter.ensures.rest
    ∙ sym (entries-held at.keys at.obstructions.slots c.self.invariant) ∙ ap map.entries c.self.view_is
