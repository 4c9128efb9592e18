use Rattle.std.proofs.Common.{ℕ, Bool, false, ◌≡◌, ◌+◌, ◌*◌, ◌/◌, length, sym, ap, ◌∙◌, subst, arith}
use Rattle.nav_types.specs.Cells.{cell_at}
use Rattle.nav_types.specs.declared.straights.Axis.TheVariants.{Row, Column}
use Rattle.class_planes.proofs.StopLineLemmas.{track_along}
use Rattle.class_planes.specs.inner.Lines.{AreLines, AreRows, LineTable, RowTable, free_cell}
use Rattle.class_planes.specs.inner.StopLines.{AreMapLines, map_lines, stops_along}
use Rattle.class_planes.proofs.StopBandLemmas.{are_map_lines}
use Rattle.class_planes.proofs.class_plane.ClassPlane.of_rows.Goals as goal

pub unstopped-requires : goal.unstopped-requires
unstopped-requires c = record {
  words = omega (arith, c.requires.wide, c.args.size.wide);
  long = λ b below. (c.requires.each b (omega (arith, below, c.requires.many))).long
      ∙ ap (λ (w : ℕ). 32 * w) (sym c.requires.wide);
}

pub columns_of-requires : goal.columns_of-requires
columns_of-requires c =
    subst (λ (rows : LineTable). AreRows (record { size = c.args.size; rows = rows })) (sym c.in_ok-lines.ensures.lines)
    c.requires

pub stopped-requires-clause-lines : goal.stopped-requires-clause-lines
stopped-requires-clause-lines c =
    let table : RowTable = record { size = c.args.size; rows = c.args.rows } in
    subst (AreMapLines c.args.size.h) (sym c.in_ok-lines.ensures.lines)
    (are_map_lines (λ j i. free_cell table (cell_at i j)) c.args.size.h c.args.size.w c.args.rows
    (omega (arith, c.args.size.high)) (omega (arith, c.args.size.high)) (omega (arith, c.args.size.wide)) c.requires)

pub stopped-requires-clause-blank : goal.stopped-requires-clause-blank
stopped-requires-clause-blank c way =
    let lines : LineTable = c.in_ok-lines.lines in
    let none : ℕ → ℕ → Bool = λ n i. false in
    subst (λ (n : ℕ). AreLines none n lines.words (stops_along way lines)) c.requires.many
    (subst (λ (w : ℕ). AreLines none (length c.args.rows.bands) w (stops_along way lines))
    (ap (λ (t : LineTable). t.words) (sym c.in_ok-lines.ensures.lines)) (c.in_ok-lines.ensures.stops way))

pub stopped-requires-2-clause-lines : goal.stopped-requires-2-clause-lines
stopped-requires-2-clause-lines c =
    let table : RowTable = record { size = c.args.size; rows = map_lines c.in_ok-lines.lines } in
    are_map_lines (λ i j. free_cell table (cell_at i j)) c.args.size.w c.args.size.h (map_lines c.in_ok-columns.columns)
    (omega (arith, c.args.size.wide)) (omega (arith, c.args.size.wide)) (omega (arith, c.args.size.high))
    c.in_ok-columns.ensures.lines

pub stopped-requires-2-clause-blank : goal.stopped-requires-2-clause-blank
stopped-requires-2-clause-blank c way =
    subst (λ (w : ℕ). AreLines (λ n i. false) (c.args.size.w / 32 + 1) w (stops_along way c.in_ok-columns.columns))
    (sym c.in_ok-columns.ensures.lines.wide) (c.in_ok-columns.ensures.stops way)

pub invariant_of-result : goal.invariant_of-result
invariant_of-result c =
    let size = c.args.size in
    let lines : LineTable = c.in_ok-lines.lines in
    let row_track : LineTable = c.in_ok-row_track.row_track in
    let kept : map_lines row_track ≡ map_lines lines = c.in_ok-row_track.ensures.lines in
    let are : AreRows (record { size = size; rows = map_lines lines }) =
    subst (λ (rows : LineTable). AreRows (record { size = size; rows = rows })) (sym c.in_ok-lines.ensures.lines) c.requires in
    record {
      row_track = track_along Row size (map_lines lines) (map_lines lines) row_track row_track kept kept are
          c.in_ok-row_track.ensures.stops;
      column_track = track_along Column size (map_lines lines) (map_lines c.in_ok-columns.columns) row_track
          c.in_ok-column_track.column_track kept c.in_ok-column_track.ensures.lines c.in_ok-columns.ensures.lines
          c.in_ok-column_track.ensures.stops;
    }
