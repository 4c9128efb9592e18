use Rattle.std.proofs.Common.{IsFalse, inl, inr, sym, subst}
use Rattle.std.proofs.lemmas.Bool.{both_ways}
use Rattle.nav_types.specs.declared.cells.Cell.{Cell}
use Rattle.nav_types.specs.declared.directions.Dir.{Dir}
use Rattle.nav_types.specs.Cells.{IsInRect}
use Rattle.jump_scan.specs.Stops.{HasStraightStop}
use Rattle.class_planes.specs.Planes.{is_passable}
use Rattle.nav_types.specs.Lines.{place_on}
use Rattle.class_planes.specs.inner.Runs.{place_along}
use Rattle.class_planes.proofs.StopLemmas.{known_stop, misses_outside}
use Rattle.class_planes.proofs.plane_scans.halts_diagonal.Goals as goal

pub returns-then-has_jump_point : goal.returns-then-has_jump_point
returns-then-has_jump_point g c =
    let hit = g.A.Aim.hit c.args.aim.now c.args.plane.now.size in
    let framed = g.A.Aim.framed c.args.aim.now c.args.plane.now.size in
    let row = known_stop c.args.plane.now hit framed c.args.rect c.row_part-along_row.result c.args.cell c.has_jump_point.result
    c.requires.frame (λ cell inside. g.met.A.Aim.hits_framed c.args.aim.now c.args.plane.now.size cell c.requires.aim inside)
    (λ n. c.meets.ensures c.if-meets.false (place_along c.row_part-along_row.result.way (place_on c.row_part-along_row.result.axis c.args.cell) n)) c.has_jump_point.ensures in (
      λ is. inr (inl (subst (λ (dir : Dir). HasStraightStop (is_passable c.args.plane.now) hit dir c.args.cell)
          c.row_part-along_row.ensures (row.0 is))),
      λ halts. c.if-has_jump_point.true,
    )

pub returns-else-has_jump_point : goal.returns-else-has_jump_point
returns-else-has_jump_point g c =
    let hit = g.A.Aim.hit c.args.aim.now c.args.plane.now.size in
    let framed = g.A.Aim.framed c.args.aim.now c.args.plane.now.size in
    let Has = λ (dir : Dir). HasStraightStop (is_passable c.args.plane.now) hit dir c.args.cell in
    let row = known_stop c.args.plane.now hit framed c.args.rect c.row_part-along_row.result c.args.cell c.has_jump_point.result
    c.requires.frame (λ cell inside. g.met.A.Aim.hits_framed c.args.aim.now c.args.plane.now.size cell c.requires.aim inside)
    (λ n. c.meets.ensures c.if-meets.false (place_along c.row_part-along_row.result.way (place_on c.row_part-along_row.result.axis c.args.cell) n)) c.has_jump_point.ensures in
    let column = known_stop c.args.plane.now hit framed c.args.rect c.column_part-along_column.result c.args.cell
    c.has_jump_point-else-has_jump_point.result c.requires.frame
    (λ cell inside. g.met.A.Aim.hits_framed c.args.aim.now c.args.plane.now.size cell c.requires.aim inside)
    (λ n. c.meets-else-meets.ensures c.if-meets-2.false (place_along c.column_part-along_column.result.way (place_on c.column_part-along_column.result.axis c.args.cell) n)) c.has_jump_point-else-has_jump_point.ensures in
    let misses : IsFalse (hit c.args.cell) = misses_outside hit framed c.args.plane.now.size c.args.rect c.args.cell
    c.requires.frame c.requires.inside
    (g.met.A.Aim.hits_framed c.args.aim.now c.args.plane.now.size c.args.cell c.requires.aim c.requires.inside)
    (λ within. c.meets.ensures c.if-meets.false
    (place_along c.row_part-along_row.result.way (place_on c.row_part-along_row.result.axis c.args.cell) 0)
    (subst (λ (cell : Cell). IsInRect c.args.rect cell) c.has_jump_point.ensures.1.0.start within)) in (
      λ is. inr (inr (subst Has c.column_part-along_column.ensures (column.0 is))),
      λ halts. elim halts [
        | inl hits ↦ absurd (both_ways (hit c.args.cell) misses hits)
        | inr aside ↦ elim aside [
          | inl is ↦ absurd (both_ways c.has_jump_point.result c.if-has_jump_point.false (row.1 (subst Has (sym c.row_part-along_row.ensures) is)))
          | inr is ↦ column.1 (subst Has (sym c.column_part-along_column.ensures) is)
        ]
      ],
    )
