use Rattle.std.proofs.Common.{ℕ, Option, Some, None, IfSome, IfNone, Bool, IsTrue, IsFalse, ◌≡◌, sym, subst, arith}
use Rattle.nav_types.specs.declared.cells.Cell.{Cell}
use Rattle.nav_types.specs.declared.cells.Size.{Size}
use Rattle.nav_types.specs.Cells.{IsInside}
use Rattle.jump_scan.specs.Stops.{IsStraightStop}
use Rattle.nav_types.specs.Straights.{straight_dir}
use Rattle.class_planes.specs.Planes.{is_passable}
use Rattle.class_planes.specs.inner.Runs.{Far, RunsFar, cell_along}
use Rattle.class_planes.proofs.PlaneLemmas.{only_inside}
use Rattle.class_planes.proofs.StopLemmas.{stop_hit, stop_end, stop_none}
use Rattle.class_planes.proofs.plane_scans.scanned_steps.Goals as goal

end_some : (answer : Option ℕ) (Is : ℕ → Type 0) (forced : Bool) (count : ℕ)
    → IfSome answer (λ steps. IsTrue forced × (steps ≡ count)) → (IsTrue forced → Is count) → IfSome answer Is
end_some None Is forced count found is = found
end_some (Some steps) Is forced count found is = subst Is (sym found.1) (is found.0)

end_none : (answer : Option ℕ) (Not : Type 0) (forced : Bool) → IfNone answer (IsFalse forced) → (IsFalse forced → Not) → IfNone answer Not
end_none None Not forced found is = is found
end_none (Some steps) Not forced found is = found

pub returns-in-Some-clause-some : goal.returns-in-Some-clause-some
returns-in-Some-clause-some g c =
    let passes = is_passable c.args.plane.now in
    let hit = λ (size : Size). g.A.Aim.hit c.args.aim.now size in
    let far : Far = record { count = c.count.inside.count; forced = c.count.inside.forced } in
    let runs : RunsFar (is_passable c.args.plane.now) c.args.straight c.args.from far =
    subst (λ (f : Far). RunsFar (is_passable c.args.plane.now) c.args.straight c.args.from f) (sym c.count.view_is)
    c.reach.ensures in
    subst (λ (size : Size). IsStraightStop passes (hit size) (straight_dir c.args.straight) c.args.from
    (cell_along c.args.straight c.args.from c.in-Some.steps)) c.size.ensures
    (stop_hit passes (hit c.size.result) c.args.straight c.args.from far c.in-Some.steps runs c.in-Some.ensures.some)

pub returns-in-Some-clause-inside : goal.returns-in-Some-clause-inside
returns-in-Some-clause-inside g c =
    let far : Far = record { count = c.count.inside.count; forced = c.count.inside.forced } in
    let runs : RunsFar (is_passable c.args.plane.now) c.args.straight c.args.from far =
    subst (λ (f : Far). RunsFar (is_passable c.args.plane.now) c.args.straight c.args.from f) (sym c.count.view_is)
    c.reach.ensures in
    only_inside c.args.plane.now (cell_along c.args.straight c.args.from c.in-Some.steps)
    (runs.free c.in-Some.steps c.in-Some.ensures.some.most)

pub returns-in-None-clause-some : goal.returns-in-None-clause-some
returns-in-None-clause-some g c =
    let passes = is_passable c.args.plane.now in
    let hit = λ (size : Size). g.A.Aim.hit c.args.aim.now size in
    let far : Far = record { count = c.count.inside.count; forced = c.count.inside.forced } in
    let runs : RunsFar (is_passable c.args.plane.now) c.args.straight c.args.from far =
    subst (λ (f : Far). RunsFar (is_passable c.args.plane.now) c.args.straight c.args.from f) (sym c.count.view_is)
    c.reach.ensures in
    end_some c.end_of.result (λ steps. IsStraightStop passes (hit c.args.plane.now.size) (straight_dir c.args.straight) c.args.from
    (cell_along c.args.straight c.args.from steps)) far.forced far.count c.end_of.ensures.some
    (λ is. subst (λ (size : Size). IsStraightStop passes (hit size) (straight_dir c.args.straight) c.args.from
    (cell_along c.args.straight c.args.from far.count)) c.size.ensures
    (stop_end passes (hit c.size.result) c.args.straight c.args.from far runs c.in-None.ensures.none is))

pub returns-in-None-clause-inside : goal.returns-in-None-clause-inside
returns-in-None-clause-inside g c =
    let far : Far = record { count = c.count.inside.count; forced = c.count.inside.forced } in
    let runs : RunsFar (is_passable c.args.plane.now) c.args.straight c.args.from far =
    subst (λ (f : Far). RunsFar (is_passable c.args.plane.now) c.args.straight c.args.from f) (sym c.count.view_is)
    c.reach.ensures in
    end_some c.end_of.result (λ steps. IsInside c.args.plane.now.size (cell_along c.args.straight c.args.from steps)) far.forced
    far.count c.end_of.ensures.some
    (λ is. only_inside c.args.plane.now (cell_along c.args.straight c.args.from far.count)
    (runs.free far.count (omega arith)))

pub returns-in-None-clause-none : goal.returns-in-None-clause-none
returns-in-None-clause-none g c =
    let passes = is_passable c.args.plane.now in
    let hit = λ (size : Size). g.A.Aim.hit c.args.aim.now size in
    let far : Far = record { count = c.count.inside.count; forced = c.count.inside.forced } in
    let runs : RunsFar passes c.args.straight c.args.from far = subst (λ (f : Far). RunsFar passes c.args.straight c.args.from f)
    (sym c.count.view_is) c.reach.ensures in
    end_none c.end_of.result
    ((stop : Cell) → IsStraightStop passes (hit c.args.plane.now.size) (straight_dir c.args.straight) c.args.from stop → ⊥) far.forced
    c.end_of.ensures.none
    (λ is. subst (λ (size : Size). (stop : Cell) → IsStraightStop passes (hit size) (straight_dir c.args.straight) c.args.from stop → ⊥)
    c.size.ensures
    (stop_none passes (hit c.size.result) c.args.straight c.args.from far runs c.in-None.ensures.none is))
