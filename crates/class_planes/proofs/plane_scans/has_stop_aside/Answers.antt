use Rattle.std.proofs.Common.{inl, inr, sym, subst}
use Rattle.std.proofs.lemmas.Bool.{both_ways}
use Rattle.nav_types.specs.declared.directions.Dir.{Dir}
use Rattle.jump_scan.specs.Stops.{HasStraightStop}
use Rattle.class_planes.specs.Planes.{is_passable}
use Rattle.class_planes.proofs.plane_scans.has_stop_aside.Goals as goal

pub returns-else-has_straight_stop : goal.returns-else-has_straight_stop
returns-else-has_straight_stop g c =
    let Has = λ (dir : Dir). HasStraightStop (is_passable c.args.plane.now)
    (g.A.Aim.hit c.args.aim.now c.args.plane.now.size) dir c.args.cell in
    let second = c.has_straight_stop-else-has_straight_stop.ensures in (
      λ is. inr (subst Has c.column_part.ensures (second.0 is)),
      λ has. elim has [
        | inl row ↦ absurd (both_ways c.has_straight_stop.result c.if-has_straight_stop.false
            (c.has_straight_stop.ensures.1 (subst Has (sym c.row_part.ensures) row)))
        | inr column ↦ second.1 (subst Has (sym c.column_part.ensures) column)
      ],
    )
