use Rattle.std.proofs.Common.{ℕ, ◌≡◌, ◌∙◌, ap, subst, arith}
use Rattle.nav_types.specs.declared.cells.Rect.{Rect}
use Rattle.region_edges.specs.inner.Borders.{border_length}
use Rattle.region_edges.proofs.MeetLemmas.{AreMeetings, AreMeetings-part}
use Rattle.region_edges.proofs.borders.meetings.Goals as goal

pub loop-at-preserved : goal.loop-at-preserved
loop-at-preserved c =
    let part = c.part_at-part in
    let end = part.ensures.within in
    let whole = c.length-length.ensures ∙ ap (λ (rect : Rect). border_length c.args.side rect) c.rect.ensures in
    record {
      within = omega arith;
      meet = AreMeetings-part c.args.side c.args.here.now c.args.there.now c.loop-at.at part.result.end c.loop-at.pairs.items c.add_meeting.new.pairs.items
          part.result.pair c.loop-at.invariant.meet part.ensures.further part.ensures.same c.in_ok-add_meeting.ensures;
    }

pub returns : goal.returns
returns c =
    let side = c.args.side in
    let within = c.loop-at.invariant.within in
    let past = c.loop-at-test.false in
    let last : c.loop-at.at ≡ c.length-length.result = omega arith in
    let whole = last ∙ c.length-length.ensures ∙ ap (λ (rect : Rect). border_length side rect) c.rect.ensures in
    subst (λ (places : ℕ). AreMeetings side c.args.here.now c.args.there.now places c.loop-at.pairs.items) whole c.loop-at.invariant.meet
