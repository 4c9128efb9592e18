use Rattle.std.proofs.Common.{◌+◌, ◌≤◌, List, get_or, length, refl, subst, arith}
use Rattle.std.specs.Prelude.{drop}
use Rattle.std.proofs.lemmas.Bool.{both_ways}
use Rattle.nav_types.specs.declared.cells.Cell.{Cell}
use Rattle.nav_types.specs.Cells.{cell_at}
use Rattle.flat_ways.proofs.LegWalks.{IsLeft, all_walked, corners_left, left_blocked, left_less, left_straight, legs_by_corners, refused}
use Rattle.flat_ways.proofs.corners.are_corners.Goals as goal

pub loop-corner-init : goal.loop-corner-init
loop-corner-init g c = ((λ legs. legs, λ legs. legs), c.requires.start)

pub leg-requires-clause-inside : goal.leg-requires-clause-inside
leg-requires-clause-inside g c = c.loop-corner.invariant.1

pub returns-in_default : goal.returns-in_default
returns-in_default g c =
    let passes = g.V.View.passes c.args.view.now c.args.class in
    let corners = c.args.corners.now in let k = c.loop-corner.corner-index in let corner = get_or corners k (cell_at 0 0) in
    let left = subst (λ (rest : List Cell). IsLeft passes c.args.start corners c.loop-corner.at c.loop-corner.before rest)
    (corners_left corners k (cell_at 0 0) c.loop-corner-test.true) c.loop-corner.invariant.0 in
    refused (λ are. left_blocked passes c.args.start c.loop-corner.at corner corners (drop (k + 1) corners) c.loop-corner.before left c.in_default.ensures.none
    (legs_by_corners passes c.args.start corners are))

pub returns-then-goes_on : goal.returns-then-goes_on
returns-then-goes_on g c =
    let passes = g.V.View.passes c.args.view.now c.args.class in
    let corners = c.args.corners.now in let k = c.loop-corner.corner-index in let corner = get_or corners k (cell_at 0 0) in
    let left = subst (λ (rest : List Cell). IsLeft passes c.args.start corners c.loop-corner.at c.loop-corner.before rest)
    (corners_left corners k (cell_at 0 0) c.loop-corner-test.true) c.loop-corner.invariant.0 in
    refused (λ are. left_straight passes c.args.start c.loop-corner.at corner corners (drop (k + 1) corners) c.loop-corner.before c.in-Some.dir left
    c.in-Some.ensures.only (c.goes_on.ensures.0 c.if-goes_on.true) (legs_by_corners passes c.args.start corners are))

pub loop-corner-preserved : goal.loop-corner-preserved
loop-corner-preserved g c =
    let passes = g.V.View.passes c.args.view.now c.args.class in
    let corners = c.args.corners.now in let k = c.loop-corner.corner-index in let corner = get_or corners k (cell_at 0 0) in
    let left = subst (λ (rest : List Cell). IsLeft passes c.args.start corners c.loop-corner.at c.loop-corner.before rest)
    (corners_left corners k (cell_at 0 0) c.loop-corner-test.true) c.loop-corner.invariant.0 in (
      left_less passes c.args.start c.loop-corner.at corner corners (drop (k + 1) corners) c.loop-corner.before c.in-Some.dir left
          c.in-Some.ensures.some c.in-Some.ensures.only (λ same. both_ways c.goes_on.result c.if-goes_on.false (c.goes_on.ensures.1 same)),
      c.in-Some.ensures.inside,
    )

pub returns : goal.returns
returns g c =
    let past : length c.args.corners.now ≤ c.loop-corner.corner-index = omega (arith, c.loop-corner-test.false) in (
      λ yes. all_walked (g.V.View.passes c.args.view.now c.args.class) c.args.start c.loop-corner.at c.args.corners.now c.loop-corner.corner-index
          c.loop-corner.before past c.loop-corner.invariant.0,
      λ are. refl,
    )
