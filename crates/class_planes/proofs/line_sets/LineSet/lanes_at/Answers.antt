use Rattle.std.proofs.Common.{ℕ, ◌+◌, ◌/◌, ◌<◌, ◌≤◌, length, ap, sym, ◌∙◌, subst, arith}
use Rattle.class_planes.specs.inner.Lines.{LineTable, line_at}
use Rattle.class_planes.specs.inner.Runs.{LaneWords}
use Rattle.class_planes.specs.inner.StopLines.{line_before, map_lines}
use Rattle.class_planes.proofs.StopBandLemmas.{line_before_later, map_line_long, same_lanes}
use Rattle.class_planes.proofs.line_sets.LineSet.lanes_at.Goals as goal

pub inner_lanes-requires : goal.inner_lanes-requires
inner_lanes-requires c =
    let line = c.requires.line in
    let inner = c.is_inner.ensures.0 c.if-is_inner.true in
    record {
      band = omega (arith, c.requires.lines.many, line);
      long = c.requires.lines.long (c.args.n / 32) (omega (arith, line));
      few = c.requires.lines.few;
      low = inner.0;
      high = inner.1;
    }

pub returns-then-is_inner : goal.returns-then-is_inner
returns-then-is_inner c =
    let lines : LineTable = map_lines c.args.self.now in
    let lanes : LaneWords = c.inner_lanes.result in
    let inner = c.is_inner.ensures.0 c.if-is_inner.true in
    let low = inner.0 in
    let some : 0 < c.args.n = omega (arith, low) in
    same_lanes lanes.mid (line_at lines c.args.n) lanes.left (line_at lines (c.args.n + 1)) lanes.right
    (line_at lines (line_before c.args.count c.args.n)) c.inner_lanes.ensures.mid c.inner_lanes.ensures.left
    (c.inner_lanes.ensures.right ∙ ap (line_at lines) (sym (line_before_later c.args.count c.args.n some)))

pub line-mid-requires-clause-band : goal.line-mid-requires-clause-band
line-mid-requires-clause-band c = omega (arith, c.requires.lines.many, c.requires.line)

pub line-mid-requires-clause-long : goal.line-mid-requires-clause-long
line-mid-requires-clause-long c = c.requires.lines.long (c.args.n / 32) (omega (arith, c.requires.line))

pub line-left-requires-clause-band : goal.line-left-requires-clause-band
line-left-requires-clause-band c = omega (arith, c.requires.lines.many, c.requires.line)

pub line-left-requires-clause-long : goal.line-left-requires-clause-long
line-left-requires-clause-long c = c.requires.lines.long ((c.args.n + 1) / 32) (omega (arith, c.requires.line))

pub line-right-requires-clause-band : goal.line-right-requires-clause-band
line-right-requires-clause-band c = omega (arith, c.requires.lines.many, c.line_before.ensures.small)

pub line-right-requires-clause-long : goal.line-right-requires-clause-long
line-right-requires-clause-long c =
    c.requires.lines.long (c.line_before.result / 32) (omega (arith, c.line_before.ensures.small))

pub invariant_of-result : goal.invariant_of-result
invariant_of-result c =
    let lines : LineTable = map_lines c.args.self.now in
    let count : ℕ = c.args.count in
    let n : ℕ = c.args.n in
    let mid = ap length c.line-mid.ensures ∙ map_line_long lines count n c.requires.lines (omega (arith, c.requires.line)) in
    let left = ap length c.line-left.ensures ∙ map_line_long lines count (n + 1) c.requires.lines (omega (arith, c.requires.line)) in
    let right = ap length c.line-right.ensures
    ∙ map_line_long lines count c.line_before.result c.requires.lines c.line_before.ensures.small in
    record {
      left = left ∙ sym mid;
      right = right ∙ sym mid;
      few = subst (λ w. w ≤ 33) (sym mid) c.requires.lines.few;
    }

pub returns : goal.returns
returns c =
    let lines : LineTable = map_lines c.args.self.now in
    same_lanes c.line-mid.result.now (line_at lines c.args.n) c.line-left.result.now (line_at lines (c.args.n + 1))
    c.line-right.result.now (line_at lines (line_before c.args.count c.args.n)) c.line-mid.ensures c.line-left.ensures
    (c.line-right.ensures ∙ ap (line_at lines) c.line_before.ensures.before)
