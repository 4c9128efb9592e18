use Rattle.std.proofs.Common.{eqb, ◌≡◌, ◌*◌, ◌^◌, ◌<◌, length, sym, ap, subst, arith, rules}
use Rattle.class_planes.specs.inner.Runs.{LaneWords, IsNext, bit_in, end_up}
use Rattle.class_planes.proofs.WordLemmas.{stays_here, next_here, none_here, next_in, none_in, past_line, end_past}
use Rattle.class_planes.proofs.word_scans.Lanes.next_up.Goals as goal

pub end_at-requires-clause-place : goal.end_at-requires-clause-place
end_at-requires-clause-place c =
    let fits : c.first_ends_up.result < 2 ^ 64 = Prim.search rules in
    stays_here c.args.from c.lowest.result c.first_ends_up.result c.bits_after-after.result fits
    c.bits_after-after.ensures c.lowest.ensures.set

pub returns-then-after-ne0-clause-next : goal.returns-then-after-ne0-clause-next
returns-then-after-ne0-clause-next c =
    let fits : c.first_ends_up.result < 2 ^ 64 = Prim.search rules in
    subst (IsNext (end_up c.args.self.now) c.args.from) (sym c.end_at.ensures.place)
    (next_here (end_up c.args.self.now) c.args.from c.lowest.result c.first_ends_up.result c.bits_after-after.result fits
    c.first_ends_up.ensures c.bits_after-after.ensures c.lowest.ensures.set c.lowest.ensures.none)

pub loop-w-init : goal.loop-w-init
loop-w-init c = record {
  beyond = omega arith;
  none = none_here (end_up c.args.self.now) c.args.from c.first_ends_up.result c.bits_after-after.result c.first_ends_up.ensures
      c.bits_after-after.ensures (omega arith);
}

pub returns-then-ends-ne0-clause-next : goal.returns-then-ends-ne0-clause-next
returns-then-ends-ne0-clause-next c =
    let beyond = c.loop-w.invariant.beyond in
    subst (IsNext (end_up c.args.self.now) c.args.from) (sym c.end_at-then-ends-ne0.ensures.place)
    (next_in (end_up c.args.self.now) c.args.from c.loop-w.w c.lowest-then-ends-ne0.result c.ends_up-ends.result
    c.lowest-then-ends-ne0.ensures.small (omega (arith, beyond))
    c.loop-w.invariant.none c.ends_up-ends.ensures c.lowest-then-ends-ne0.ensures.set
    c.lowest-then-ends-ne0.ensures.none)

pub loop-w-preserved : goal.loop-w-preserved
loop-w-preserved c =
    let beyond = c.loop-w.invariant.beyond in
    record {
      beyond = omega (arith, beyond);
      none = none_in (end_up c.args.self.now) c.args.from c.loop-w.w c.ends_up-ends.result (omega (arith, beyond))
          c.loop-w.invariant.none c.ends_up-ends.ensures c.if-ends-ne0.false;
    }

pub returns-clause-next : goal.returns-clause-next
returns-clause-next c =
    let lanes = c.args.self.now in
    let same : length c.self.inside.mid.now ≡ length lanes.mid = ap (λ (l : LaneWords). length l.mid) c.self.view_is in
    let end = c.loop-w-test.false in
    record {
      after = omega (arith, same, c.requires);
      set = subst (λ n. end_up lanes (64 * n) ≡ 1) (sym same) (end_past lanes);
      none = λ i past below. c.loop-w.invariant.none i past (omega (arith, below, end));
    }

pub returns-clause-free : goal.returns-clause-free
returns-clause-free c =
    let mid = c.args.self.now.mid in
    let same : length c.self.inside.mid.now ≡ length mid = ap (λ (l : LaneWords). length l.mid) c.self.view_is in
    let none : bit_in mid (64 * length c.self.inside.mid.now) ≡ 0 =
    past_line mid (64 * length c.self.inside.mid.now) (omega (arith, same)) in
    ap (λ bit. eqb bit 1) (sym none)
