use Rattle.std.proofs.Common.{ℕ, List, Some, ◌≡◌, ◌∷◌, ◌∙◌, length, map, sym, subst, arith}
use Rattle.std.specs.Prelude.{slice_get}
use Rattle.nav_types.specs.declared.cells.Cell.{Cell}
use Rattle.line_smooth.specs.Smoothed.{IsSmoothing}
use Rattle.line_smooth.specs.inner.Plans.{AreLegsClear, ArePlanned, AreRising, Follows}
use Rattle.line_smooth.proofs.Legs.{clear_legs}
use Rattle.line_smooth.proofs.Candidates.{rising}
use Rattle.line_smooth.proofs.BestPlaces.{followed_smoothed}
use Rattle.std.proofs.lemmas.Result.{IfOk-weaker}
use Rattle.line_smooth.proofs.smoothing.smooth.Goals as goal

pub planned_rises-requires-clause-legs : goal.planned_rises-requires-clause-legs
planned_rises-requires-clause-legs g c =
    let passes = g.V.View.passes c.args.view.now c.args.class in
    let is = c.as_slice.ensures.value ∙ c.in_ok-places.ensures in
    let P = λ (places : List Cell). AreLegsClear passes places in
    subst P (sym is) (clear_legs passes c.args.start c.args.corners.now c.requires.corners)

pub followed-requires : goal.followed-requires
followed-requires g c =
    let passes = g.V.View.passes c.args.view.now c.args.class in
    let places = c.args.start ∷ c.args.corners.now in
    let first = c.as_slice.ensures.value ∙ c.in_ok-places.ensures in
    let second = c.as_slice-2.ensures.value ∙ c.in_ok-places.ensures in
    let P = λ (list : List Cell). ArePlanned passes list c.in_ok-rises.rises.items 0 in
    let Q = λ (list : List Cell). AreRising (length list) c.as_slice-3.result.now in
    let R = λ (rises : List ℕ). AreRising (length places) rises in
    subst Q (sym second) (subst R (sym c.as_slice-3.ensures.value)
    (rising passes places c.in_ok-rises.rises.items (omega arith) (subst P first c.in_ok-rises.ensures)))

pub returns : goal.returns
returns g c =
    let passes = g.V.View.passes c.args.view.now c.args.class in
    let places = c.args.start ∷ c.args.corners.now in
    let first = c.as_slice.ensures.value ∙ c.in_ok-places.ensures in
    let second = c.as_slice-2.ensures.value ∙ c.in_ok-places.ensures in
    let P = λ (list : List Cell). ArePlanned passes list c.in_ok-rises.rises.items 0 in
    let Q = λ (rises : List ℕ). ArePlanned passes places rises 0 in
    let planned : ArePlanned passes places c.as_slice-3.result.now 0 = subst Q (sym c.as_slice-3.ensures.value) (subst P first c.in_ok-rises.ensures) in
    IfOk-weaker c.followed.result _ (IsSmoothing passes c.args.start c.args.corners.now)
    (λ points made.
    (let R = λ (list : List Cell). Follows (length list) c.as_slice-3.result.now 0 made.0 in
    let S = λ (list : List Cell). map (λ place. slice_get list place) made.0 ≡ map (λ (point : Cell). Some point) points in
    record {
      kept = made.0;
      smoothed = followed_smoothed passes places c.as_slice-3.result.now planned 0 made.0 (subst R second made.1.0);
      placed = subst S second made.1.1;
    }))
    c.followed.ensures
