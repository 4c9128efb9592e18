use Rattle.std.proofs.Common.{List, sym, subst}
use Rattle.std.specs.Prelude.{All}
use Rattle.nav_types.specs.Cells.{cell_at}
use Rattle.nav_types.specs.declared.cells.Rect.{Rect}
use Rattle.class_planes.specs.inner.StopLines.{AreStopsBefore, AreSameOutside, IsRectOf, map_lines, stops_along}
use Rattle.class_planes.proofs.StopChangeLemmas.{stops_before}
use Rattle.class_planes.proofs.stops.updated_stops.Goals.{After-deref}
use Rattle.class_planes.proofs.stops.updated_stops.Goals as goal

-- the rectangles that are left hold what has changed
inside_near : (c : After-deref) → All (IsRectOf c.args.count c.args.lines.words) c.in_ok-near.near.items
inside_near c = c.in_ok-near.ensures.inside c.args.count c.args.lines.words
    (c.in_ok-rows.ensures.inside c.args.count c.args.lines.words c.in_ok-tight.ensures.inside)

same_near : (c : After-deref)
    → AreSameOutside c.args.count (map_lines c.args.before.now) (map_lines c.args.lines) c.in_ok-near.near.items
same_near c n i within out = c.in_ok-tight.ensures.same n i within
    (c.in_ok-rows.ensures.outside (cell_at i n) (c.in_ok-near.ensures.outside (cell_at i n) out))

pub renew_stops-requires-clause-inside : goal.renew_stops-requires-clause-inside
renew_stops-requires-clause-inside c =
    subst (All (IsRectOf c.args.count c.args.lines.words)) (sym c.deref.ensures.value) (inside_near c)

pub renew_stops-requires-clause-before : goal.renew_stops-requires-clause-before
renew_stops-requires-clause-before c way =
    subst (λ (rects : List Rect). AreStopsBefore way rects c.args.count (map_lines c.args.lines) (stops_along way c.args.lines))
    (sym c.deref.ensures.value)
    (stops_before way c.in_ok-near.near.items c.args.count (map_lines c.args.before.now) (map_lines c.args.lines)
    (stops_along way c.args.lines) c.requires.alike.words (inside_near c) (same_near c) (c.requires.stops way))
