use Rattle.std.proofs.Common.{◌≤◌, length, arith}
use Rattle.class_planes.specs.inner.StopLines.{map_lines}
use Rattle.class_planes.proofs.LineLemmas.{lines_shared}
use Rattle.class_planes.proofs.SetLemmas.{part_shared, parts_many, stops_spanned}
use Rattle.class_planes.proofs.line_sets.share_bands.Goals as goal

pub returns-clause-lines : goal.returns-clause-lines
returns-clause-lines c free words are each =
    let within : c.args.end ≤ length (map_lines c.args.from.now).bands =
    omega (arith, c.requires.within, parts_many c.args.from.now 0) in
    lines_shared free c.args.start c.args.end words (map_lines c.args.lines.now) (map_lines c.share_span.new.self)
    (map_lines c.args.from.now) c.requires.order within are c.in_ok-share_span.ensures.words
    (part_shared 0 c.args.start c.args.end c.args.lines.now c.share_span.new.self c.args.from.now
    c.in_ok-share_span.ensures.words c.requires.words c.in_ok-share_span.ensures.bands) each

pub returns-clause-stops : goal.returns-clause-stops
returns-clause-stops c many same =
    stops_spanned c.args.start c.args.end c.args.lines.now c.share_span.new.self c.args.from.now many
    c.in_ok-share_span.ensures.bands same
