use Rattle.std.proofs.Common.{◌≤◌, arith, rules}
use Rattle.line_smooth.proofs.Spans.{IsOn, some_span, span_up, span_down}
use Rattle.line_smooth.proofs.segments.Segment.span.Goals as goal

pub returns-then-from-to-clause-exact : goal.returns-then-from-to-clause-exact
returns-then-from-to-clause-exact c =
    let s = c.args.self in
    let p = c.place_on-from.ensures in let q = c.place_on-to.ensures in
    let l = c.line_on.ensures in let m = c.line_on-2.ensures in
    let long = c.gap.ensures in let short = c.gap-short.ensures in let across = c.requires.across in
    let on : IsOn s.axis s.from s.to c.args.line c.place_on-from.result c.place_on-to.result c.gap.result c.gap-short.result c.args.across = record {
      between = c.requires.between;
      from_is = p;
      to_is = q;
      long_is = (cc);
      short_is = (cc);
      across_is = (cc);
    } in
    span_up s.axis s.from s.to c.args.line c.place_on-from.result c.place_on-to.result c.gap.result c.gap-short.result c.args.across
    c.touched-along.result.first c.touched-along.result.last on long c.if-from-to.true c.touched-along.ensures.within c.touched-along.ensures.exact

pub returns-else-from-to-clause-exact : goal.returns-else-from-to-clause-exact
returns-else-from-to-clause-exact c =
    let s = c.args.self in
    let p = c.place_on-from.ensures in let q = c.place_on-to.ensures in
    let l = c.line_on.ensures in let m = c.line_on-2.ensures in
    let long = c.gap.ensures in let short = c.gap-short.ensures in let across = c.requires.across in
    let on : IsOn s.axis s.from s.to c.args.line c.place_on-from.result c.place_on-to.result c.gap.result c.gap-short.result c.args.across = record {
      between = c.requires.between;
      from_is = p;
      to_is = q;
      long_is = (cc);
      short_is = (cc);
      across_is = (cc);
    } in
    span_down s.axis s.from s.to c.args.line c.place_on-from.result c.place_on-to.result c.gap.result c.gap-short.result c.args.across
    c.touched-along.result.first c.touched-along.result.last on long (omega arith) (some_span c.gap.result c.gap-short.result c.args.across c.touched-along.result.first c.touched-along.result.last (omega arith) c.touched-along.ensures.exact) c.touched-along.ensures.within c.touched-along.ensures.exact

pub overflow_add-result : goal.overflow_add-result
overflow_add-result c =
    let some : c.touched-along.result.first ≤ c.touched-along.result.last =
    some_span c.gap.result c.gap-short.result c.args.across c.touched-along.result.first c.touched-along.result.last (omega arith) c.touched-along.ensures.exact in
    search rules

pub overflow_sub-result-else-from-to : goal.overflow_sub-result-else-from-to
overflow_sub-result-else-from-to c =
    let some : c.touched-along.result.first ≤ c.touched-along.result.last =
    some_span c.gap.result c.gap-short.result c.args.across c.touched-along.result.first c.touched-along.result.last (omega arith) c.touched-along.ensures.exact in
    omega arith

pub returns-then-from-to-clause-some : goal.returns-then-from-to-clause-some
returns-then-from-to-clause-some c =
    let some : c.touched-along.result.first ≤ c.touched-along.result.last =
    some_span c.gap.result c.gap-short.result c.args.across c.touched-along.result.first c.touched-along.result.last (omega arith) c.touched-along.ensures.exact in
    omega arith

pub returns-else-from-to-clause-some : goal.returns-else-from-to-clause-some
returns-else-from-to-clause-some c =
    let some : c.touched-along.result.first ≤ c.touched-along.result.last =
    some_span c.gap.result c.gap-short.result c.args.across c.touched-along.result.first c.touched-along.result.last (omega arith) c.touched-along.ensures.exact in
    omega arith
