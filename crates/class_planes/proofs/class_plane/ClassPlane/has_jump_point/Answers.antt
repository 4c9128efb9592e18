use Rattle.std.proofs.Common.{ℕ, ap₂, sym, ◌∙◌, subst}
use Rattle.nav_types.specs.Lines.{line_on}
use Rattle.class_planes.specs.inner.Lines.{LineTable, free_at}
use Rattle.class_planes.specs.inner.StopLines.{stops_along}
use Rattle.class_planes.proofs.StopBandLemmas.{HasPlace}
use Rattle.class_planes.proofs.StopLineLemmas.{stop_known, stop_place}
use Rattle.class_planes.proofs.class_plane.ClassPlane.has_jump_point.Goals as goal

pub has_jump_point-requires : goal.has_jump_point-requires
has_jump_point-requires c =
    let axis = c.args.straight.axis in
    let stops : LineTable = stops_along c.args.straight.way c.line_set.result.now in
    let at : HasPlace stops c.line_on.result c.place_on.result =
    subst (λ (n : ℕ). HasPlace stops n c.place_on.result) (sym c.line_on.ensures)
    (subst (HasPlace stops (line_on axis c.args.cell)) (sym c.place_on.ensures)
    (stop_place axis c.args.straight.way c.args.self.now c.args.cell c.line_set.result.now c.line_set.ensures c.requires)) in
    record { band = at.band; long = at.long; place = at.place }

pub returns : goal.returns
returns c =
    let stops : LineTable = stops_along c.args.straight.way c.line_set.result.now in
    let known = stop_known c.args.self.now c.args.straight c.args.cell c.line_set.result.now c.line_set.ensures c.requires in
    (known.0, (known.1.0, c.has_jump_point.ensures ∙ ap₂ (free_at stops) c.line_on.ensures c.place_on.ensures ∙ known.1.1))
