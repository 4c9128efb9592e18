use Rattle.std.proofs.Common.{ℕ, Bool, Some, IsTrue, ◌≡◌, sym, ap, ◌∙◌, subst, arith}
use Rattle.nav_types.specs.declared.cells.Cell.{Cell}
use Rattle.nav_types.specs.declared.cells.Size.{Size}
use Rattle.nav_types.specs.declared.straights.Straight.{Straight}
use Rattle.nav_types.specs.Cells.{IsInside}
use Rattle.class_planes.specs.Planes.{PlaneCells, is_passable}
use Rattle.class_planes.specs.inner.Runs.{Far, RunsFar, TellsStop, cell_along}
use Rattle.class_planes.proofs.PlaneLemmas.{only_inside}
use Rattle.class_planes.proofs.plane_scans.forced_stop.Goals as goal

-- the end of a run that is known to end where a side opens
record IsEnd (plane : PlaneCells) (straight : Straight) (from : Cell) (steps : ℕ) : Type 0 where
  far : Far
  runs : RunsFar (is_passable plane) straight from far
  forced : IsTrue far.forced
  count : steps ≡ far.count

same_count : (a b : ℕ) → Some a ≡ Some b → a ≡ b
same_count a b same = cc

end_of : (plane : PlaneCells) (straight : Straight) (from : Cell) (stop : Bool) (steps : ℕ)
    → TellsStop (is_passable plane) straight from stop → IsTrue stop
    → ((far : Far) → RunsFar (is_passable plane) straight from far → IsTrue far.forced → Some steps ≡ Some far.count)
    → IsEnd plane straight from steps
end_of plane straight from stop steps known is found =
    let forced : IsTrue known.0.forced = sym known.1.1 ∙ is in
    record {
      far = known.0;
      runs = known.1.0;
      forced = forced;
      count = same_count steps known.0.count (found known.0 known.1.0 forced);
    }

end_inside : (plane : PlaneCells) (straight : Straight) (from : Cell) (steps : ℕ) → IsEnd plane straight from steps
    → IsInside plane.size (cell_along straight from steps)
end_inside plane straight from steps end =
    subst (λ n. IsInside plane.size (cell_along straight from n)) (sym end.count)
    (only_inside plane (cell_along straight from end.far.count) (end.runs.free end.far.count (omega arith)))

pub returns-then-not-has_jump_point-clause-none : goal.returns-then-not-has_jump_point-clause-none
returns-then-not-has_jump_point-clause-none c =
    let known = c.has_jump_point.ensures in (known.0, (known.1.0, sym known.1.1 ∙ c.if-not-has_jump_point.true))

pub cell_along-requires-clause-column : goal.cell_along-requires-clause-column
cell_along-requires-clause-column c =
    let size : Size = c.args.plane.now.size in
    let inside = end_inside c.args.plane.now c.args.straight c.args.from c.in-Some.steps
    (end_of c.args.plane.now c.args.straight c.args.from c.has_jump_point.result c.in-Some.steps c.has_jump_point.ensures
    c.if-not-has_jump_point.false c.in-Some.ensures) in
    let at = inside.column in
    let few = size.wide.few in
    omega (arith, at, few)

pub cell_along-requires-clause-row : goal.cell_along-requires-clause-row
cell_along-requires-clause-row c =
    let size : Size = c.args.plane.now.size in
    let inside = end_inside c.args.plane.now c.args.straight c.args.from c.in-Some.steps
    (end_of c.args.plane.now c.args.straight c.args.from c.has_jump_point.result c.in-Some.steps c.has_jump_point.ensures
    c.if-not-has_jump_point.false c.in-Some.ensures) in
    let at = inside.row in
    let few = size.high.few in
    omega (arith, at, few)

pub returns-clause-some : goal.returns-clause-some
returns-clause-some c =
    let end = end_of c.args.plane.now c.args.straight c.args.from c.has_jump_point.result c.in-Some.steps c.has_jump_point.ensures
    c.if-not-has_jump_point.false c.in-Some.ensures in
    (end.far, (end.runs, (end.forced, c.cell_along.ensures ∙ ap (cell_along c.args.straight c.args.from) end.count)))

pub returns-in_default-clause-none : goal.returns-in_default-clause-none
returns-in_default-clause-none c =
    let known = c.has_jump_point.ensures in
    let forced : IsTrue known.0.forced = sym known.1.1 ∙ c.if-not-has_jump_point.false in
    let none = c.in_default.ensures known.0 known.1.0 forced in cc
