use Rattle.nav_types.specs.Lines.{place_on}
use Rattle.class_planes.specs.inner.Runs.{place_along}
use Rattle.class_planes.proofs.StopLemmas.{known_stop}
use Rattle.class_planes.proofs.plane_scans.has_straight_stop.Goals as goal

pub returns-then-not-meets : goal.returns-then-not-meets
returns-then-not-meets g c =
    known_stop c.args.plane.now (g.A.Aim.hit c.args.aim.now c.args.plane.now.size)
    (g.A.Aim.framed c.args.aim.now c.args.plane.now.size) c.args.rect c.args.straight c.args.cell c.has_jump_point.result
    c.requires.frame (λ cell inside. g.met.A.Aim.hits_framed c.args.aim.now c.args.plane.now.size cell c.requires.aim inside)
    (λ n. c.meets.ensures c.if-not-meets.true (place_along c.args.straight.way (place_on c.args.straight.axis c.args.cell) n)) c.has_jump_point.ensures
