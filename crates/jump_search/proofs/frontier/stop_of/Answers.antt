use Rattle.std.proofs.Common.{ℕ, Option, None, Some, IfSome, IfNone, inl, inr, sym, subst, ◌∙◌, ◌+◌, IsTrue, IsFalse}
use Rattle.std.proofs.lemmas.Bool.{both_ways}
use Rattle.nav_types.specs.declared.cells.Cell.{Cell}
use Rattle.nav_types.specs.Directions.{is_straight}
use Rattle.jump_scan.specs.Stops.{IsStraightStop, IsDiagonalStop, IsDiagonalStopWithin}
use Rattle.jump_search.specs.JumpStates.{IsStopOf, octile_between}
use Rattle.jump_search.specs.inner.Searched.{HasNearer, IsCostToHit}
use Rattle.jump_search.proofs.Landing.{nearer_than_stop}
use Rattle.jump_search.proofs.frontier.stop_of.Goals as goal

none_then : {A : Type 0} (found : Option A) (P Q : Type 0) → (P → Q) → IfNone found P → IfNone found Q
none_then None P Q f p = f p
none_then (Some a) P Q f p = tt

pub returns-then-is_straight-clause-none : goal.returns-then-is_straight-clause-none
returns-then-is_straight-clause-none g c =
    let problem = c.args.problem.now in
    let passes = g.R.View.passes problem.runs.now problem.class in
    let hit = g.A.Aim.hit problem.aim.now (g.R.View.extent problem.runs.now) in
    let dir = c.args.dir in
    let from = c.args.node.now.state.cell in
    let straight : IsTrue (is_straight dir) = sym c.is_straight.ensures ∙ c.if-is_straight.true in
    none_then c.straight.result ((stop : Cell) → IsStraightStop passes hit dir from stop → ⊥)
    ((stop : Cell) → IsStopOf passes hit dir from stop
    → HasNearer passes hit problem.start (c.args.node.now.cost + octile_between from stop))
    (λ none stop is. elim is [
      | inl here ↦ absurd (none stop here.1)
      | inr there ↦ absurd (both_ways (is_straight dir) there.0 straight)
    ]) c.straight.ensures.none

pub returns-in_default-clause-none : goal.returns-in_default-clause-none
returns-in_default-clause-none g c =
    let problem = c.args.problem.now in
    let passes = g.R.View.passes problem.runs.now problem.class in
    let hit = g.A.Aim.hit problem.aim.now (g.R.View.extent problem.runs.now) in
    let dir = c.args.dir in
    let from = c.args.node.now.state.cell in
    let diagonal : IsFalse (is_straight dir) = sym c.is_straight.ensures ∙ c.if-is_straight.false in
    none_then c.diagonal.result ((stop : Cell) → IsDiagonalStop passes hit dir from stop → ⊥)
    ((stop : Cell) → IsStopOf passes hit dir from stop
    → HasNearer passes hit problem.start (c.args.node.now.cost + octile_between from stop))
    (λ none stop is. elim is [
      | inl here ↦ absurd (both_ways (is_straight dir) diagonal here.0)
      | inr there ↦ absurd (none stop there.1)
    ]) c.diagonal.ensures.none

pub returns-clause-none : goal.returns-clause-none
returns-clause-none g c =
    let problem = c.args.problem.now in
    let passes = g.R.View.passes problem.runs.now problem.class in
    let hit = g.A.Aim.hit problem.aim.now (g.R.View.extent problem.runs.now) in
    let dir = c.args.dir in
    let from = c.args.node.now.state.cell in
    let cost = c.args.node.now.cost in
    let limit = c.in-Some.limit in
    let most = c.steps_within-most.result in
    let diagonal : IsFalse (is_straight dir) = sym c.is_straight.ensures ∙ c.if-is_straight.false in
    let costs : IsCostToHit passes hit problem.start limit =
    subst (λ (known : Option ℕ). IfSome known (IsCostToHit passes hit problem.start)) c.in-Some.is c.requires.limit in
    none_then c.diagonal_within.result ((stop : Cell) → IsDiagonalStopWithin passes hit dir most from stop → ⊥)
    ((stop : Cell) → IsStopOf passes hit dir from stop
    → HasNearer passes hit problem.start (cost + octile_between from stop))
    (λ none stop is. nearer_than_stop passes hit problem.start limit cost most dir from stop costs
    c.steps_within-most.ensures diagonal (none stop) is) c.diagonal_within.ensures.none
