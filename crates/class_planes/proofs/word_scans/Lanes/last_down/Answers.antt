use Rattle.std.proofs.Common.{◌-◌, sym, subst, arith}
use Rattle.class_planes.specs.inner.Runs.{end_down, IsLast}
use Rattle.class_planes.proofs.WordLemmas.{last_here, none_before, last_in, none_under}
use Rattle.class_planes.proofs.word_scans.Lanes.last_down.Goals as goal

pub returns-then-before-ne0-clause-some : goal.returns-then-before-ne0-clause-some
returns-then-before-ne0-clause-some c =
    subst (IsLast (end_down c.args.self.now) c.args.from) (sym c.end_at.ensures.place)
    (last_here (end_down c.args.self.now) c.args.from c.highest.result c.first_ends_down.result c.bits_before-before.result
    c.first_ends_down.ensures
    c.bits_before-before.ensures.kept c.bits_before-before.ensures.none c.highest.ensures.set c.highest.ensures.none)

pub down-init : goal.down-init
down-init c = record {
  within = omega arith;
  none = none_before (end_down c.args.self.now) c.args.from c.first_ends_down.result c.bits_before-before.result
      c.first_ends_down.ensures c.bits_before-before.ensures.kept c.if-before-ne0.false;
}

pub returns-then-ends-ne0-clause-some : goal.returns-then-ends-ne0-clause-some
returns-then-ends-ne0-clause-some c =
    let some = c.down-test.true in
    let within = c.down.invariant.within in
    subst (IsLast (end_down c.args.self.now) c.args.from) (sym c.end_at-then-ends-ne0.ensures.place)
    (last_in (end_down c.args.self.now) c.args.from (c.down.w - 1) c.highest-then-ends-ne0.result c.ends_down-ends.result
    c.highest-then-ends-ne0.ensures.small
    (omega (arith, some, within)) (λ i past below. c.down.invariant.none i (omega (arith, past, some)) below)
    c.ends_down-ends.ensures c.highest-then-ends-ne0.ensures.set c.highest-then-ends-ne0.ensures.none)

pub down-preserved : goal.down-preserved
down-preserved c =
    let some = c.down-test.true in
    let within = c.down.invariant.within in
    record {
      within = omega (arith, within);
      none = none_under (end_down c.args.self.now) c.args.from (c.down.w - 1) c.ends_down-ends.result
          (λ i past below. c.down.invariant.none i (omega (arith, past, some)) below) c.ends_down-ends.ensures
          c.if-ends-ne0.false;
    }

pub returns-clause-none : goal.returns-clause-none
returns-clause-none c i below = let none = c.down-test.false in c.down.invariant.none i (omega (arith, none)) below
