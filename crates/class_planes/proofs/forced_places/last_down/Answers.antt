use Rattle.std.proofs.Common.{◌-◌, ◌*◌, arith}
use Rattle.class_planes.specs.inner.Runs.{open_down}
use Rattle.class_planes.proofs.WordLemmas.{last_in, none_under}
use Rattle.class_planes.proofs.forced_places.last_down.Goals as goal

pub down-init : goal.down-init
down-init c = record { within = omega arith; none = λ i past below. absurd (omega (arith, past, below)) }

pub returns-then-here-ne0-clause-some : goal.returns-then-here-ne0-clause-some
returns-then-here-ne0-clause-some c =
    let some = c.down-test.true in
    let within = c.down.invariant.within in
    last_in (open_down c.args.left.now c.args.right.now) (64 * c.args.first) (c.down.w - 1) c.highest.result
    c.forced_down-here.result c.highest.ensures.small (omega (arith, some, within))
    (λ i past below. c.down.invariant.none i (omega (arith, past, some)) below) c.forced_down-here.ensures
    c.highest.ensures.set c.highest.ensures.none

pub down-preserved : goal.down-preserved
down-preserved c =
    let some = c.down-test.true in
    let within = c.down.invariant.within in
    record {
      within = omega (arith, within);
      none = none_under (open_down c.args.left.now c.args.right.now) (64 * c.args.first) (c.down.w - 1)
          c.forced_down-here.result (λ i past below. c.down.invariant.none i (omega (arith, past, some)) below)
          c.forced_down-here.ensures c.if-here-ne0.false;
    }

pub returns-clause-none : goal.returns-clause-none
returns-clause-none c i below = let none = c.down-test.false in c.down.invariant.none i (omega (arith, none)) below
