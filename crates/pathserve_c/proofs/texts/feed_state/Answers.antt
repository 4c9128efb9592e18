use Rattle.std.proofs.Common.{Some, sym, subst}
use Rattle.pathserve_c.specs.declared.states.State.{State}
use Rattle.pathserve_c.specs.declared.states.State.TheVariants.{Text}
use Rattle.pathserve_c.specs.Calls.{IsFed}
use Rattle.pathserve_c.proofs.texts.feed_state.Goals as goal

pub returns-in-Text : goal.returns-in-Text
returns-in-Text c =
    let made = c.feed_in_limit.new.text in
    subst (λ (old : State). IsFed (Some old) (Some (Text made)) c.args.bytes.now.now c.feed_in_limit.new.bytes.now c.feed_in_limit.result)
    (sym c.in-Text.is) c.feed_in_limit.ensures
