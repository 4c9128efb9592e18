use Rattle.std.proofs.Common.{ℕ, ◌≡◌, ◌+◌, ◌∙◌, ◌∷◌, [], Option, List, map, option_map, ap, sym, subst, arith}
use Rattle.std.specs.Arc.{arc_value}
use Rattle.std.proofs.lemmas.List.{map-append}
use Rattle.class_planes.specs.Planes.{PlaneCells, ArePlanes}
use Rattle.class_planes.proofs.PlaneLemmas.{are_of, planes_more}
use Rattle.class_planes.proofs.plane_sets.Planes.build.Goals as goal

pub loop-number-preserved : goal.loop-number-preserved
loop-number-preserved g c =
    let view = c.args.view.now in
    let extent = g.V.View.extent view in
    let passes = g.V.View.passes view in
    let before = c.loop-number.planes.items in
    let plane = c.in_ok-plane.plane in
    subst (λ (planes : List (Option PlaneCells)). ArePlanes extent passes c.args.classes (c.loop-number.number + 1) planes)
    (sym (ap (map (option_map arc_value)) c.in_ok-push.ensures.items
    ∙ map-append (option_map arc_value) before (plane ∷ [])))
    (planes_more extent passes c.args.classes c.loop-number.number (map (option_map arc_value) before)
    (option_map arc_value plane) c.loop-number.invariant c.in_ok-plane.ensures)

pub returns-clause-wanted : goal.returns-clause-wanted
returns-clause-wanted g c =
    let view = c.args.view.now in
    let planes : List (Option PlaneCells) = map (option_map arc_value) c.loop-number.planes.items in
    let done : c.loop-number.number ≡ g.V.View.class_count view = omega (arith, c.classes-count.ensures.count) in
    subst (λ (count : ℕ). ArePlanes (g.V.View.extent view) (g.V.View.passes view) c.args.classes count planes) done
    c.loop-number.invariant

pub returns-clause-of_map : goal.returns-clause-of_map
returns-clause-of_map g c =
    let view = c.args.view.now in
    are_of (g.V.View.extent view) (g.V.View.passes view) c.args.classes c.loop-number.number
    (map (option_map arc_value) c.loop-number.planes.items) c.loop-number.invariant
