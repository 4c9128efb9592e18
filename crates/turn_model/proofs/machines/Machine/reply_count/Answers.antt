use Rattle.std.proofs.Common.{◌≡◌, ◌-◌, length, sym, ap, ◌∙◌, subst, arith}
use Rattle.posts.specs.Callers.{list_of}
use Rattle.path_service.specs.machine.States.{State}
use Rattle.path_service.specs.machine.Facts.{Facts}
use Rattle.turn_model.specs.inner.Machines.{state_of}
use Rattle.turn_model.proofs.HeldCounts.{held_count}
use Rattle.turn_model.proofs.machines.Machine.reply_count.Goals as goal

pub overflow_sub-result : goal.overflow_sub-result
overflow_sub-result c =
    let counted = held_count c.self.inside c.args.caller c.number_at-taken.result c.as_slice.result.now c.as_slice.ensures.value
    c.number_at-taken.ensures.value (subst Facts (sym c.self.view_is) c.requires) in
    omega (arith, counted, c.post_count.ensures)

pub overflow_sub-result-2 : goal.overflow_sub-result-2
overflow_sub-result-2 c =
    let counted = held_count c.self.inside c.args.caller c.number_at-taken.result c.as_slice.result.now c.as_slice.ensures.value
    c.number_at-taken.ensures.value (subst Facts (sym c.self.view_is) c.requires) in
    omega (arith, counted, c.post_count.ensures, c.post_count-2.ensures)

pub returns : goal.returns
returns c =
    let counted = held_count c.self.inside c.args.caller c.number_at-taken.result c.as_slice.result.now c.as_slice.ensures.value
    c.number_at-taken.ensures.value (subst Facts (sym c.self.view_is) c.requires) in
    let left : c.number_at-taken.result - c.post_count.result - c.post_count-2.result ≡ length (list_of (state_of c.self.inside).replies c.args.caller) =
    omega (arith, counted, c.post_count.ensures, c.post_count-2.ensures) in
    left ∙ ap (λ (s : State). length (list_of s.replies c.args.caller)) c.self.view_is
