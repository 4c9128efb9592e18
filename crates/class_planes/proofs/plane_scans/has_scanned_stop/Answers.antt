use Rattle.std.proofs.Common.{◌↔◌, IsTrue, inl, inr, sym, subst}
use Rattle.std.proofs.lemmas.Bool.{cases_Bool}
use Rattle.nav_types.specs.declared.cells.Size.{Size}
use Rattle.jump_scan.specs.Stops.{HasStraightStop}
use Rattle.nav_types.specs.Straights.{straight_dir}
use Rattle.class_planes.specs.Planes.{is_passable}
use Rattle.class_planes.specs.inner.Runs.{Far, RunsFar, cell_along}
use Rattle.class_planes.proofs.StopLemmas.{stop_hit, stop_none, stop_somewhere}
use Rattle.class_planes.proofs.plane_scans.has_scanned_stop.Goals as goal

pub returns-then-forced : goal.returns-then-forced
returns-then-forced g c =
    let passes = is_passable c.args.plane.now in
    let hit = g.A.Aim.hit c.args.aim.now c.args.plane.now.size in
    let far : Far = record { count = c.count.inside.count; forced = c.count.inside.forced } in
    let runs : RunsFar passes c.args.straight c.args.cell far = subst (λ (f : Far). RunsFar passes c.args.straight c.args.cell f)
    (sym c.count.view_is) c.reach.ensures in (
      (λ is. stop_somewhere passes hit c.args.straight c.args.cell far runs c.if-forced.true),
      (λ has. c.if-forced.true),
    )

pub returns-else-forced : goal.returns-else-forced
returns-else-forced g c =
    let passes = is_passable c.args.plane.now in
    let hit = λ (size : Size). g.A.Aim.hit c.args.aim.now size in
    let far : Far = record { count = c.count.inside.count; forced = c.count.inside.forced } in
    let runs : RunsFar passes c.args.straight c.args.cell far = subst (λ (f : Far). RunsFar passes c.args.straight c.args.cell f)
    (sym c.count.view_is) c.reach.ensures in
    subst (λ (size : Size). IsTrue c.has_hit.result ↔ HasStraightStop passes (hit size) (straight_dir c.args.straight) c.args.cell)
    c.size.ensures (
      (λ is.
          let found = c.has_hit.ensures.hits is in
          (cell_along c.args.straight c.args.cell found.0, stop_hit passes (hit c.size.result) c.args.straight c.args.cell far found.0 runs found.1)),
      (λ has. elim (cases_Bool c.has_hit.result) [
        | inl is ↦ is
        | inr misses ↦ absurd (stop_none passes (hit c.size.result) c.args.straight c.args.cell far runs (c.has_hit.ensures.misses misses)
            c.if-forced.false has.0 has.1)
      ]),
    )
