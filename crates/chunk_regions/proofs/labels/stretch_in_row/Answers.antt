use Rattle.std.proofs.Common.{◌≡◌, ◌<◌, ◌+◌, ◌-◌, length, arith}
use Rattle.std.proofs.lemmas.Option.{slice_get_within}
use Rattle.chunk_regions.specs.inner.Spans.{Holds}
use Rattle.chunk_regions.proofs.SpanLemmas.{region_at-held, region_at-none, none_in_gap, none_behind, none_past}
use Rattle.chunk_regions.proofs.labels.stretch_in_row.Goals as goal

pub returns-then-span-column-clause-same : goal.returns-then-span-column-clause-same
returns-then-span-column-clause-same c = λ x west east.
    let runs = c.args.spans.now in
    let at = c.loop-at.at in
    let low = c.loop-at.auto.at in
    let from = c.row-start.ensures.from in
    let to = c.row-start.ensures.to in
    let below = c.loop-at-test.true in
    let begins = c.if-span-column.true in
    let held : Holds runs c.args.row at x = record {
      span = c.span-span.result;
      found = c.span-span.ensures.value;
      row = c.requires.row;
      from = omega arith;
      to = omega arith;
      west = omega arith;
      east = east;
    } in
    region_at-held runs c.args.regions.now c.args.row at x c.row-start.ensures.are held

pub returns-then-column-span-clause-same : goal.returns-then-column-span-clause-same
returns-then-column-span-clause-same c = λ x west east.
    let runs = c.args.spans.now in
    let low = c.loop-at.auto.at in
    let from = c.row-start.ensures.from in
    let begins = c.if-span-column.false in
    region_at-none runs c.args.regions.now c.args.row x c.requires.row
    (none_in_gap runs c.args.row c.loop-at.at c.args.column x c.span-span.result c.row-start.ensures.are (omega arith) c.loop-at.invariant west
    c.span-span.ensures.value (omega arith))

pub returns-clause-same : goal.returns-clause-same
returns-clause-same c = λ x west east.
    let to = c.row-start.ensures.to in
    let past = c.loop-at-test.false in
    region_at-none c.args.spans.now c.args.regions.now c.args.row x c.requires.row
    (none_past c.args.spans.now c.args.row c.loop-at.at c.args.column x c.loop-at.invariant west (omega arith))

pub returns-then-span-column-clause-longest : goal.returns-then-span-column-clause-longest
returns-then-span-column-clause-longest c = λ less same.
    let runs = c.args.spans.now in
    let regions = c.args.regions.now in
    let at = c.loop-at.at in
    let low = c.loop-at.auto.at in
    let from = c.row-start.ensures.from in
    let to = c.row-start.ensures.to in
    let below = c.loop-at-test.true in
    let span = c.span-span.result in
    let each = c.requires.each in
    let placed = slice_get_within runs.spans at span c.span-span.ensures.value in
    let within : at < length regions = omega arith in
    let some = c.requires.some at within in
    let none = region_at-none runs regions c.args.row (span.last + 1) c.requires.row
    (none_behind runs c.args.row at span c.row-start.ensures.are (omega arith) (omega arith) c.span-span.ensures.value) in
    omega arith

pub returns-then-column-span-clause-longest : goal.returns-then-column-span-clause-longest
returns-then-column-span-clause-longest c = λ less same.
    let runs = c.args.spans.now in
    let regions = c.args.regions.now in
    let at = c.loop-at.at in
    let low = c.loop-at.auto.at in
    let from = c.row-start.ensures.from in
    let to = c.row-start.ensures.to in
    let below = c.loop-at-test.true in
    let begins = c.if-span-column.false in
    let span = c.span-span.result in
    let each = c.requires.each in
    let placed = slice_get_within runs.spans at span c.span-span.ensures.value in
    let within : at < length regions = omega arith in
    let some = c.requires.some at within in
    let next : span.first - 1 + 1 ≡ span.first = omega arith in
    let held : Holds runs c.args.row at (span.first - 1 + 1) = record {
      span = span;
      found = c.span-span.ensures.value;
      row = c.requires.row;
      from = omega arith;
      to = omega arith;
      west = omega arith;
      east = omega arith;
    } in
    let value = region_at-held runs regions c.args.row at (span.first - 1 + 1) c.row-start.ensures.are held in
    omega arith
