use Rattle.std.proofs.Common.{ℕ, ◌≡◌, ◌+◌, ◌/◌, List, ap, sym, ◌∙◌, subst, arith}
use Rattle.std.specs.Prelude.{All}
use Rattle.nav_types.specs.declared.cells.Rect.{Rect}
use Rattle.nav_types.specs.Cells.{IsRectInside, cell_at}
use Rattle.nav_types.specs.declared.cells.Size.{Size}
use Rattle.nav_types.specs.declared.straights.Axis.TheVariants.{Row, Column}
use Rattle.class_planes.proofs.StopLineLemmas.{track_along}
use Rattle.class_planes.specs.Planes.{PlaneCells, IsOutside, is_passable}
use Rattle.class_planes.specs.inner.Lines.{LineTable, RowTable, AreRows, free_cell, plane_of}
use Rattle.class_planes.specs.inner.StopLines.{AreSameOutside, AreSameStops, IsRectOf, map_lines}
use Rattle.class_planes.specs.inner.Reading.{IsUnread}
use Rattle.class_planes.proofs.SetLemmas.{parts_many, stops_carried}
use Rattle.class_planes.proofs.PlaneLemmas.{are_rows, plane_same}
use Rattle.class_planes.proofs.StopBandLemmas.{are_map_lines}
use Rattle.class_planes.proofs.StopChangeLemmas.{columns_alike, rects_of_columns, rects_of_rows, rows_alike}
use Rattle.class_planes.proofs.UpdateLemmas.{cells_same, rows_before, columns_were}
use Rattle.class_planes.proofs.class_plane.ClassPlane.renewed.Goals as goal

pub updated_lines-requires-clause-before : goal.updated_lines-requires-clause-before
updated_lines-requires-clause-before g c =
    let view = c.args.view.now in
    let extent = g.V.View.extent view in
    let table : RowTable = record { size = c.self.inside.size; rows = map_lines c.self.inside.rows } in
    let size : c.self.inside.size ≡ extent = ap (λ (p : PlaneCells). p.size) c.self.view_is ∙ c.requires.extent in
    rows_before table c.args.self.now extent (g.V.View.passes view c.args.class) (IsOutside c.args.rects.now) c.self.view_is
    size c.self.invariant.row_track.lines c.requires.same

pub updated_lines-requires-clause-unread : goal.updated_lines-requires-clause-unread
updated_lines-requires-clause-unread g c =
    let view = c.args.view.now in
    let extent = g.V.View.extent view in
    let table : RowTable = record { size = c.self.inside.size; rows = map_lines c.self.inside.rows } in
    let size : c.self.inside.size ≡ extent = ap (λ (p : PlaneCells). p.size) c.self.view_is ∙ c.requires.extent in
    rows_before table c.args.self.now extent (g.V.View.passes view c.args.class) (IsUnread c.args.reads.now) c.self.view_is
    size c.self.invariant.row_track.lines c.requires.unread

pub updated_columns-requires-clause-rows : goal.updated_columns-requires-clause-rows
updated_columns-requires-clause-rows g c =
    let view = c.args.view.now in
    let class = c.args.class in
    let extent = g.V.View.extent view in
    let size : c.self.inside.size ≡ extent = ap (λ (p : PlaneCells). p.size) c.self.view_is ∙ c.requires.extent in
    subst (λ (s : Size). AreRows (record { size = s; rows = map_lines c.in_ok-rows.rows })) (sym size)
    (are_rows extent (map_lines c.in_ok-rows.rows) (g.V.View.passes view class) (g.met.V.View.within view class) c.in_ok-rows.ensures.lines)

pub updated_columns-requires-clause-before : goal.updated_columns-requires-clause-before
updated_columns-requires-clause-before g c =
    let view = c.args.view.now in
    let class = c.args.class in
    let extent = g.V.View.extent view in
    let table : RowTable = record { size = c.self.inside.size; rows = map_lines c.self.inside.rows } in
    let size : c.self.inside.size ≡ extent = ap (λ (p : PlaneCells). p.size) c.self.view_is ∙ c.requires.extent in
    columns_were table c.args.self.now extent (g.V.View.passes view class) c.args.rects.now (map_lines c.in_ok-rows.rows)
    (map_lines c.self.inside.columns) c.self.view_is size (g.met.V.View.within view class) c.in_ok-rows.ensures.lines c.self.invariant.column_track.lines
    c.requires.same

pub updated_stops-requires-clause-alike : goal.updated_stops-requires-clause-alike
updated_stops-requires-clause-alike g c =
    let view = c.args.view.now in
    let class = c.args.class in
    let extent = g.V.View.extent view in
    let table : RowTable = record { size = c.self.inside.size; rows = map_lines c.self.inside.rows } in
    let size : c.self.inside.size ≡ extent = ap (λ (p : PlaneCells). p.size) c.self.view_is ∙ c.requires.extent in
    let rows : AreRows (record { size = table.size; rows = map_lines c.in_ok-rows.rows }) =
    subst (λ (s : Size). AreRows (record { size = s; rows = map_lines c.in_ok-rows.rows })) (sym size)
    (are_rows extent (map_lines c.in_ok-rows.rows) (g.V.View.passes view class) (g.met.V.View.within view class) c.in_ok-rows.ensures.lines)
    in
    record {
      before = are_map_lines (λ j i. free_cell table (cell_at i j)) table.size.h table.size.w (map_lines c.self.inside.rows)
          (omega (arith, table.size.high)) (omega (arith, table.size.high)) (omega (arith, table.size.wide))
          c.self.invariant.row_track.lines;
      lines = are_map_lines (λ j i. free_cell (record { size = table.size; rows = map_lines c.in_ok-rows.rows }) (cell_at i j))
          table.size.h table.size.w (map_lines c.in_ok-rows.rows) (omega (arith, table.size.high)) (omega (arith, table.size.high))
          (omega (arith, table.size.wide)) rows;
      words = c.self.invariant.row_track.lines.wide ∙ sym rows.wide;
    }

pub updated_stops-requires-clause-inside : goal.updated_stops-requires-clause-inside
updated_stops-requires-clause-inside g c =
    let view = c.args.view.now in
    let class = c.args.class in
    let extent = g.V.View.extent view in
    let table : RowTable = record { size = c.self.inside.size; rows = map_lines c.self.inside.rows } in
    let size : c.self.inside.size ≡ extent = ap (λ (p : PlaneCells). p.size) c.self.view_is ∙ c.requires.extent in
    let rows : AreRows (record { size = table.size; rows = map_lines c.in_ok-rows.rows }) =
    subst (λ (s : Size). AreRows (record { size = s; rows = map_lines c.in_ok-rows.rows })) (sym size)
    (are_rows extent (map_lines c.in_ok-rows.rows) (g.V.View.passes view class) (g.met.V.View.within view class) c.in_ok-rows.ensures.lines)
    in
    let inside : All (IsRectInside table.size) c.args.rects.now =
    subst (λ (s : Size). All (IsRectInside s) c.args.rects.now) (sym size) c.requires.inside in
    rects_of_rows table.size c.in_ok-rows.rows.words c.args.rects.now rows.wide inside

pub updated_stops-requires-clause-same : goal.updated_stops-requires-clause-same
updated_stops-requires-clause-same g c =
    let view = c.args.view.now in
    let class = c.args.class in
    let extent = g.V.View.extent view in
    let table : RowTable = record { size = c.self.inside.size; rows = map_lines c.self.inside.rows } in
    let size : c.self.inside.size ≡ extent = ap (λ (p : PlaneCells). p.size) c.self.view_is ∙ c.requires.extent in
    let rows : AreRows (record { size = table.size; rows = map_lines c.in_ok-rows.rows }) =
    subst (λ (s : Size). AreRows (record { size = s; rows = map_lines c.in_ok-rows.rows })) (sym size)
    (are_rows extent (map_lines c.in_ok-rows.rows) (g.V.View.passes view class) (g.met.V.View.within view class) c.in_ok-rows.ensures.lines)
    in
    let same = cells_same table c.args.self.now extent (g.V.View.passes view class) c.args.rects.now (map_lines c.in_ok-rows.rows)
    c.self.view_is size (g.met.V.View.within view class) c.in_ok-rows.ensures.lines c.requires.same in
    rows_alike table (map_lines c.in_ok-rows.rows) c.args.rects.now c.self.invariant.row_track.lines rows same

pub updated_stops-requires-2-clause-alike : goal.updated_stops-requires-2-clause-alike
updated_stops-requires-2-clause-alike g c =
    let table : RowTable = record { size = c.self.inside.size; rows = map_lines c.self.inside.rows } in
    record {
      before = are_map_lines (λ i j. free_cell table (cell_at i j)) table.size.w table.size.h (map_lines c.self.inside.columns)
          (omega (arith, table.size.wide)) (omega (arith, table.size.wide)) (omega (arith, table.size.high))
          c.self.invariant.column_track.lines;
      lines = are_map_lines (λ i j. free_cell (record { size = table.size; rows = map_lines c.in_ok-rows.rows }) (cell_at i j))
          table.size.w table.size.h (map_lines c.in_ok-columns.columns) (omega (arith, table.size.wide))
          (omega (arith, table.size.wide)) (omega (arith, table.size.high)) c.in_ok-columns.ensures.lines;
      words = c.self.invariant.column_track.lines.wide ∙ sym c.in_ok-columns.ensures.lines.wide;
    }

pub updated_stops-requires-2-clause-inside : goal.updated_stops-requires-2-clause-inside
updated_stops-requires-2-clause-inside g c =
    let view = c.args.view.now in
    let class = c.args.class in
    let extent = g.V.View.extent view in
    let table : RowTable = record { size = c.self.inside.size; rows = map_lines c.self.inside.rows } in
    let size : c.self.inside.size ≡ extent = ap (λ (p : PlaneCells). p.size) c.self.view_is ∙ c.requires.extent in
    let inside : All (IsRectInside table.size) c.args.rects.now =
    subst (λ (s : Size). All (IsRectInside s) c.args.rects.now) (sym size) c.requires.inside in
    subst (All (IsRectOf table.size.w c.in_ok-columns.columns.words)) (sym c.deref.ensures.value)
    (rects_of_columns table.size c.in_ok-columns.columns.words c.args.rects.now c.in_ok-across.across.items
    c.in_ok-columns.ensures.lines.wide c.in_ok-across.ensures inside)

pub updated_stops-requires-2-clause-same : goal.updated_stops-requires-2-clause-same
updated_stops-requires-2-clause-same g c =
    let view = c.args.view.now in
    let class = c.args.class in
    let extent = g.V.View.extent view in
    let table : RowTable = record { size = c.self.inside.size; rows = map_lines c.self.inside.rows } in
    let size : c.self.inside.size ≡ extent = ap (λ (p : PlaneCells). p.size) c.self.view_is ∙ c.requires.extent in
    let same = cells_same table c.args.self.now extent (g.V.View.passes view class) c.args.rects.now (map_lines c.in_ok-rows.rows)
    c.self.view_is size (g.met.V.View.within view class) c.in_ok-rows.ensures.lines c.requires.same in
    subst (λ (rects : List Rect). AreSameOutside table.size.w (map_lines c.self.inside.columns) (map_lines c.in_ok-columns.columns) rects)
    (sym c.deref.ensures.value)
    (columns_alike table (map_lines c.in_ok-rows.rows) (map_lines c.self.inside.columns) (map_lines c.in_ok-columns.columns) c.args.rects.now
    c.in_ok-across.across.items c.in_ok-across.ensures c.self.invariant.column_track.lines c.in_ok-columns.ensures.lines same)

pub updated_stops-requires-clause-stops : goal.updated_stops-requires-clause-stops
updated_stops-requires-clause-stops g c way =
    let old : LineTable = c.self.inside.rows in
    let new : LineTable = c.in_ok-rows.rows in
    let extent : Size = g.V.View.extent c.args.view.now in
    let size : c.self.inside.size ≡ extent = ap (λ (p : PlaneCells). p.size) c.self.view_is ∙ c.requires.extent in
    let high : c.self.inside.size.h / 32 + 1 ≡ extent.h / 32 + 1 = ap (λ (s : Size). s.h / 32 + 1) size in
    let wide : c.self.inside.size.w / 64 + 1 ≡ extent.w / 64 + 1 = ap (λ (s : Size). s.w / 64 + 1) size in
    stops_carried way c.self.inside.size.h (map_lines old) old new (c.self.invariant.row_track.stops way)
    (c.in_ok-rows.ensures.lines.wide ∙ sym wide ∙ sym c.self.invariant.row_track.lines.wide)
    (sym (parts_many new 0) ∙ c.in_ok-rows.ensures.lines.many ∙ sym high)
    (subst (λ (n : ℕ). AreSameStops n old new) (sym high) c.in_ok-rows.ensures.stops)

pub updated_stops-requires-2-clause-stops : goal.updated_stops-requires-2-clause-stops
updated_stops-requires-2-clause-stops g c way =
    let old : LineTable = c.self.inside.columns in
    let new : LineTable = c.in_ok-columns.columns in
    stops_carried way c.self.inside.size.w (map_lines old) old new (c.self.invariant.column_track.stops way)
    (c.in_ok-columns.ensures.lines.wide ∙ sym c.self.invariant.column_track.lines.wide)
    (sym (parts_many new 0) ∙ c.in_ok-columns.ensures.lines.many) c.in_ok-columns.ensures.stops

pub invariant_of-result : goal.invariant_of-result
invariant_of-result g c =
    let view = c.args.view.now in
    let class = c.args.class in
    let extent = g.V.View.extent view in
    let size : c.self.inside.size ≡ extent = ap (λ (p : PlaneCells). p.size) c.self.view_is ∙ c.requires.extent in
    let inside : Size = c.self.inside.size in
    let rows : LineTable = map_lines c.in_ok-rows.rows in
    let row_track : LineTable = c.in_ok-row_track.row_track in
    let kept = c.in_ok-row_track.ensures.lines in
    let are : AreRows (record { size = inside; rows = rows }) =
    subst (λ (s : Size). AreRows (record { size = s; rows = rows })) (sym size)
    (are_rows extent rows (g.V.View.passes view class) (g.met.V.View.within view class) c.in_ok-rows.ensures.lines) in
    record {
      row_track = track_along Row inside rows rows row_track row_track kept kept are c.in_ok-row_track.ensures.stops;
      column_track = track_along Column inside rows (map_lines c.in_ok-columns.columns) row_track c.in_ok-column_track.column_track kept
          c.in_ok-column_track.ensures.lines c.in_ok-columns.ensures.lines c.in_ok-column_track.ensures.stops;
    }

pub returns-clause-passes : goal.returns-clause-passes
returns-clause-passes g c =
    let view = c.args.view.now in
    let class = c.args.class in
    let extent = g.V.View.extent view in
    let size : c.self.inside.size ≡ extent = ap (λ (p : PlaneCells). p.size) c.self.view_is ∙ c.requires.extent in
    ap (λ (r : LineTable). is_passable (plane_of (record { size = c.self.inside.size; rows = r })))
    c.in_ok-row_track.ensures.lines
    ∙ ap (λ (s : Size). is_passable (plane_of (record { size = s; rows = map_lines c.in_ok-rows.rows }))) size
    ∙ plane_same extent (map_lines c.in_ok-rows.rows) (g.V.View.passes view class) (g.met.V.View.within view class) c.in_ok-rows.ensures.lines
