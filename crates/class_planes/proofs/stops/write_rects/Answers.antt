use Rattle.std.proofs.Common.{ℕ, List, get_or, ◌∙◌, arith}
use Rattle.std.proofs.lemmas.List.{get_or_default}
use Rattle.nav_types.specs.declared.cells.Rect.{Rect}
use Rattle.class_planes.proofs.StopBandLemmas.{stops_but_more}
use Rattle.class_planes.proofs.stops.write_rects.Goals as goal

pub loop-rect-init : goal.loop-rect-init
loop-rect-init c m i small line within far =
    c.requires.before.each m i small line within (λ k d below near. far k d (omega arith) below near)

pub write_rect-requires-clause-rect : goal.write_rect-requires-clause-rect
write_rect-requires-clause-rect c =
    let none : Rect = record { i0 = 0; j0 = 0; i1 = 0; j1 = 0 } in
    c.requires.inside c.loop-rect.rect-index none c.loop-rect-test.true

pub write_rect-requires-clause-band : goal.write_rect-requires-clause-band
write_rect-requires-clause-band c = c.loop-rect.auto.band ∙ c.requires.before.long

pub loop-rect-preserved : goal.loop-rect-preserved
loop-rect-preserved c =
    let none : Rect = record { i0 = 0; j0 = 0; i1 = 0; j1 = 0 } in
    let rects : List Rect = c.args.rects.now in
    let at : ℕ = c.loop-rect.rect-index in
    stops_but_more c.args.way c.args.map.now.lines c.args.map.now.count c.args.first rects at (get_or rects at none) c.loop-rect.band
    c.write_rect.new.band (λ d. get_or_default rects at d none c.loop-rect-test.true) c.write_rect.ensures.near
    c.write_rect.ensures.kept c.loop-rect.invariant

pub returns-clause-stops : goal.returns-clause-stops
returns-clause-stops c = record {
  long = c.loop-rect.auto.band ∙ c.requires.before.long;
  each = λ m i small line within sure.
      c.loop-rect.invariant m i small line within
      (λ k d least below near. absurd (omega (arith, least, below, c.loop-rect-test.false)));
}
