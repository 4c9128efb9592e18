use Rattle.std.proofs.Common.{ℕ, ◌<◌, ◌≤◌, ◌+◌, ◌-◌, ◌*◌, ◌/◌, ⊎_elim, arith}
use Rattle.std.proofs.lemmas.Bool.{cases_lt}
use Rattle.class_planes.proofs.transposed.write_half.Goals as goal

pub returns-then-span-clause-set : goal.returns-then-span-clause-set
returns-then-span-clause-set c m j low high inside =
    let half : ℕ = c.args.half in
    let west : c.args.rect.i0 ≤ 32 * c.args.band + m = inside.west in
    let east : 32 * c.args.band + m ≤ c.args.rect.i1 = inside.east in
    let met = c.columns_met-span.ensures.met (m - 16 * half) (omega (arith, low, high)) (omega (arith, west, low))
    (omega (arith, east, low)) in
    absurd (omega (arith, met.0, met.1, c.if-span.true))

pub returns-then-span-clause-kept : goal.returns-then-span-clause-kept
returns-then-span-clause-kept c m j small within was = was

pub loop-w-init : goal.loop-w-init
loop-w-init c = record {
  set = λ m j low high from to. absurd (omega (arith, from, to));
  kept = λ m j small within was. was;
}

pub loop-w-preserved : goal.loop-w-preserved
loop-w-preserved c =
    let w : ℕ = c.loop-w.w in
    let height : ℕ = c.args.map.now.size.h in
    let last : c.args.rect.j1 < height = c.requires.inside.last_row in
    let within : w < height / 64 + 1 = omega (arith, c.loop-w-test.true, last) in
    record {
      set = λ m j low high from to. ⊎_elim
          (λ (before : j / 64 < w).
          c.write_group.ensures.kept m j
          (omega (arith, high, c.columns_met-span.ensures.within, c.requires.half)) (omega (arith, before, within))
          (c.loop-w.invariant.set m j low high from before))
          (λ (least : w ≤ j / 64). c.write_group.ensures.set m j low high (omega (arith, least, to)))
          (cases_lt (j / 64) w);
      kept = λ m j small fits was. c.write_group.ensures.kept m j small fits (c.loop-w.invariant.kept m j small fits was);
    }

pub returns-clause-set : goal.returns-clause-set
returns-clause-set c m j low high inside =
    let half : ℕ = c.args.half in
    let west : c.args.rect.i0 ≤ 32 * c.args.band + m = inside.west in
    let east : 32 * c.args.band + m ≤ c.args.rect.i1 = inside.east in
    let south : c.args.rect.j0 ≤ j = inside.south in
    let north : j ≤ c.args.rect.j1 = inside.north in
    let met = c.columns_met-span.ensures.met (m - 16 * half) (omega (arith, low, high)) (omega (arith, west, low))
    (omega (arith, east, low)) in
    c.loop-w.invariant.set m j (omega (arith, met.0, low)) (omega (arith, met.1, low)) (omega (arith, south))
    (omega (arith, north, c.loop-w-test.false))

pub returns-clause-kept : goal.returns-clause-kept
returns-clause-kept c m j small within was = c.loop-w.invariant.kept m j small within was
