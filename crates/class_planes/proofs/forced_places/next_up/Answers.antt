use Rattle.std.proofs.Common.{◌+◌, ◌*◌, inl, inr, length, arith}
use Rattle.std.proofs.lemmas.Bool.{cases_lt}
use Rattle.class_planes.specs.inner.Runs.{open_up}
use Rattle.class_planes.proofs.WordLemmas.{next_in, none_in}
use Rattle.class_planes.proofs.OpeningLemmas.{up_past}
use Rattle.class_planes.proofs.forced_places.next_up.Goals as goal

pub loop-w-init : goal.loop-w-init
loop-w-init c = record { beyond = omega arith; none = λ i past below. absurd (omega (arith, past, below)) }

pub returns-then-here-ne0-clause-some : goal.returns-then-here-ne0-clause-some
returns-then-here-ne0-clause-some c =
    let beyond = c.loop-w.invariant.beyond in
    next_in (open_up c.args.left.now c.args.right.now) (64 * c.args.first + 63) c.loop-w.w c.lowest.result
    c.forced_up-here.result c.lowest.ensures.small (omega (arith, beyond)) c.loop-w.invariant.none
    c.forced_up-here.ensures c.lowest.ensures.set c.lowest.ensures.none

pub loop-w-preserved : goal.loop-w-preserved
loop-w-preserved c =
    let beyond = c.loop-w.invariant.beyond in
    record {
      beyond = omega (arith, beyond);
      none = none_in (open_up c.args.left.now c.args.right.now) (64 * c.args.first + 63) c.loop-w.w
          c.forced_up-here.result (omega (arith, beyond)) c.loop-w.invariant.none c.forced_up-here.ensures
          c.if-here-ne0.false;
    }

pub returns-clause-none : goal.returns-clause-none
returns-clause-none c i past =
    let end = c.loop-w-test.false in
    elim (cases_lt i (64 * length c.args.left.now)) [
      | inl below ↦ c.loop-w.invariant.none i past (omega (arith, below, end))
      | inr beyond ↦ up_past c.args.left.now c.args.right.now i c.requires.long beyond
    ]
