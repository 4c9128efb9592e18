use Rattle.std.proofs.Common.{List, replicate, sym, ap, ◌∙◌}
use Rattle.turn_model.specs.declared.machines.delivered.DeliveredTurn.{DeliveredTurn}
use Rattle.turn_core.specs.Words.{bare}
use Rattle.turn_core.specs.Turns.{standing}
use Rattle.turn_model.specs.inner.Runs.{posts_in}
use Rattle.turn_model.proofs.ReplyPlaces.{come_nowhere}
use Rattle.turn_model.proofs.machines.Machine.new.Goals as goal

pub invariant_of-result : goal.invariant_of-result
invariant_of-result c =
    let callers = c.from-callers.result in
    record {
      standing = c.in_ok-version.ensures.standing
          ∙ ap (λ (ds : List DeliveredTurn). standing c.in_ok-version.version.map bare (posts_in ds)) (sym c.new.ensures.items);
      running = tt;
      staged = tt;
      come = come_nowhere callers c.new.result.items c.in_ok-collected.collected.items c.in_ok-places.places.items c.new.ensures.items
          (c.in_ok-collected.ensures.items_if_clones_equal (λ y same. same))
          (c.in_ok-places.ensures.items_if_clones_equal (λ y same. same) ∙ ap (replicate callers) c.beginning.ensures);
    }
