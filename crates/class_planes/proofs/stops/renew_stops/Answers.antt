use Rattle.std.proofs.Common.{ℕ, ◌≡◌, ◌+◌, ◌*◌, ◌/◌, ◌<◌, [], length, get_or, inl, inr, refl, sym, ap, ◌∙◌, subst, arith}
use Rattle.std.specs.Prelude.{⊤, All}
use Rattle.std.proofs.lemmas.Bool.{cases_lt}
use Rattle.class_planes.specs.inner.Lines.{LineTable}
use Rattle.class_planes.specs.inner.StopLines.{AreBandStops, AreMapLines, IsFarFrom, IsRectOf, map_lines, part_along, stops_along}
use Rattle.class_planes.proofs.SetLemmas.{parts_many}
use Rattle.class_planes.proofs.SpanLemmas.{stops_same}
use Rattle.class_planes.proofs.StopBandLemmas.{renewed_more}
use Rattle.class_planes.proofs.stops.renew_stops.Goals as goal

pub loop-band-init : goal.loop-band-init
loop-band-init c =
    let set : LineTable = c.args.set.now in
    let near = c.bands_about-near.result in
    record {
      lines = refl;
      stops = λ way. record {
        before = c.requires.before way;
        done = λ b below early. stops_same way (map_lines set) (stops_along way set) c.args.count c.args.rects.now near.from
            near.to (c.requires.before way) c.bands_about-near.ensures.about b below
            (λ from to. omega (arith, from, early));
      };
    }

pub renew_band-requires-clause-lines : goal.renew_band-requires-clause-lines
renew_band-requires-clause-lines c = subst (AreMapLines c.args.count) (sym c.loop-band.invariant.lines) c.requires.lines

pub renew_band-requires-clause-inside : goal.renew_band-requires-clause-inside
renew_band-requires-clause-inside c =
    subst (λ (w : ℕ). All (IsRectOf c.args.count w) c.args.rects.now)
    (ap (λ (t : LineTable). t.words) (sym c.loop-band.invariant.lines)) c.requires.inside

pub renew_band-requires-clause-before : goal.renew_band-requires-clause-before
renew_band-requires-clause-before c way =
    let band : ℕ = c.loop-band.band in
    let few = c.bands_about-near.ensures in
    let below : band < c.args.count / 32 + 1 = omega (arith, c.loop-band-test.true, few.within) in
    subst (λ (lines : LineTable). AreBandStops (IsFarFrom c.args.rects.now) way lines c.args.count (32 * band)
    (get_or (stops_along way c.loop-band.set).bands band [])) (sym c.loop-band.invariant.lines)
    ((c.loop-band.invariant.stops way).before.each band below)

pub loop-band-preserved : goal.loop-band-preserved
loop-band-preserved c =
    let start : LineTable = c.args.set.now in
    let old : LineTable = c.loop-band.set in
    let new : LineTable = c.renew_band.new.set in
    let band : ℕ = c.loop-band.band in
    let kept : map_lines new ≡ map_lines old = c.in_ok-renew_band.ensures.lines in
    record {
      lines = kept ∙ c.loop-band.invariant.lines;
      stops = λ way.
          let k : ℕ = part_along way in
          renewed_more way (map_lines start) (stops_along way old) (stops_along way new) c.args.count c.args.rects.now
          band (c.loop-band.invariant.stops way) (ap (λ (t : LineTable). t.words) kept)
          (parts_many new k ∙ sym (parts_many new 0) ∙ ap (λ (t : LineTable). length t.bands) kept ∙ parts_many old 0
          ∙ sym (parts_many old k))
          (subst (λ (lines : LineTable). AreBandStops (λ n i. ⊤) way lines c.args.count (32 * band)
          (get_or (stops_along way new).bands band [])) c.loop-band.invariant.lines
          (c.in_ok-renew_band.ensures.stops way))
          (c.in_ok-renew_band.ensures.others way);
    }

pub returns-clause-stops : goal.returns-clause-stops
returns-clause-stops c way =
    let are = c.loop-band.invariant.stops way in
    let near = c.bands_about-near.result in
    let end = c.loop-band-test.false in
    record {
      wide = are.before.wide;
      many = are.before.many;
      each = λ b below. elim (cases_lt b c.loop-band.band) [
        | inl early ↦ are.done b below early
        | inr late ↦ stops_same way (map_lines c.args.set.now) (stops_along way c.loop-band.set) c.args.count
            c.args.rects.now near.from near.to are.before c.bands_about-near.ensures.about b below
            (λ from to. omega (arith, late, to, end))
      ];
    }
