use Rattle.std.proofs.Common.{ℕ, ◌+◌, ◌≤◌, max, ap, ◌∙◌, arith}
use Rattle.class_planes.proofs.StopBandLemmas.{none_near, line_near}
use Rattle.class_planes.proofs.stops.write_rect.Goals as goal

pub loop-n-init : goal.loop-n-init
loop-n-init c =
    none_near c.args.way c.args.map.now.lines c.args.rect c.args.map.now.count c.args.first c.max-from.result c.args.band.now
    (c.max-from.ensures ∙ ap (λ (j : ℕ). max j c.args.first) c.saturating_sub.ensures)

pub write_line-requires-clause-line : goal.write_line-requires-clause-line
write_line-requires-clause-line c = omega (arith, c.loop-n-test.true, c.min-to.ensures, c.count.ensures)

pub write_line-requires-clause-low : goal.write_line-requires-clause-low
write_line-requires-clause-low c = omega (arith, c.loop-n.auto.n, c.max-from.ensures)

pub write_line-requires-clause-high : goal.write_line-requires-clause-high
write_line-requires-clause-high c = omega (arith, c.loop-n-test.true, c.min-to.ensures, c.min.ensures)

pub write_line-requires-clause-band : goal.write_line-requires-clause-band
write_line-requires-clause-band c = c.loop-n.auto.band ∙ c.requires.band

pub loop-n-preserved : goal.loop-n-preserved
loop-n-preserved c =
    line_near c.args.way c.args.map.now.lines c.args.rect c.args.map.now.count c.args.first c.loop-n.n c.args.band.now c.loop-n.band
    c.write_line.new.band c.write_line.ensures.near c.write_line.ensures.kept c.loop-n.invariant

pub returns-clause-near : goal.returns-clause-near
returns-clause-near c m i small line within is =
    let north : c.args.first + m ≤ c.args.rect.j1 + 1 = is.north in
    c.loop-n.invariant.near m i small line within is
    (omega (arith, c.loop-n-test.false, c.min-to.ensures, c.count.ensures, c.min.ensures, north, small, line))

pub returns-clause-kept : goal.returns-clause-kept
returns-clause-kept c m i small line within was = c.loop-n.invariant.kept m i small line within was
