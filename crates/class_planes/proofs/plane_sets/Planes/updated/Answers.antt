use Rattle.std.proofs.Common.{ℕ, Bool, ◌≡◌, ◌<◌, ◌∙◌, ◌∷◌, [], Option, None, List, length, get_or, map, option_map, ap, sym, subst, arith}
use Rattle.std.specs.Prelude.{All, is_some}
use Rattle.std.specs.Arc.{arc_value}
use Rattle.std.proofs.lemmas.List.{length-map, map-append, get_or-map}
use Rattle.nav_types.specs.declared.cells.Rect.{Rect}
use Rattle.nav_types.specs.Cells.{IsRectInside}
use Rattle.class_planes.specs.Planes.{PlaneCells, IsPlaneIn, IsOutside}
use Rattle.class_planes.specs.inner.Reading.{ReadCells, AreRead, IsUnread}
use Rattle.class_planes.proofs.PlaneLemmas.{each_more, plane_before, is_some_mapped}
use Rattle.class_planes.proofs.UpdateLemmas.{rects_inside, kept_outside}
use Rattle.class_planes.proofs.plane_sets.Planes.updated.Goals as goal

pub next_plane-requires-clause-before : goal.next_plane-requires-clause-before
next_plane-requires-clause-before g c =
    let view = c.args.view.now in
    let items = c.self.inside.planes.items in
    let number : ℕ = c.loop-number.number in
    let below : number < length items = omega (arith, c.min-count.ensures, c.len.ensures) in
    plane_before (g.V.View.extent view) (g.V.View.class_count view) (g.V.View.passes view) c.args.parts.now c.args.self.now
    c.requires.before arc_value c.new-class.result c.index.result.now
    (ap (option_map arc_value) c.index.ensures
    ∙ sym (get_or-map (option_map arc_value) items number c.index.result.now None below)
    ∙ ap (λ (ps : List (Option PlaneCells)). get_or ps number None) c.self.view_is
    ∙ ap (λ (k : ℕ). get_or c.args.self.now k None) (sym c.new-class.ensures))

pub read_rects-requires : goal.read_rects-requires
read_rects-requires g c =
    let extent = g.V.View.extent c.args.view.now in
    record {
      inside = subst (λ (rs : List Rect). All (IsRectInside extent) rs) (sym c.deref.ensures.value)
          (rects_inside extent c.args.parts.now c.in_ok-rects.rects.items c.in_ok-rects.ensures c.requires.inside);
    }

pub next_plane-requires-clause-read : goal.next_plane-requires-clause-read
next_plane-requires-clause-read g c =
    let view = c.args.view.now in
    subst (λ (reads : List ReadCells). All (AreRead (g.V.View.extent view) (g.V.View.class_count view)
    (g.V.View.passes view)) reads) (sym c.deref-in-loop-number.ensures.value) c.in_ok-reads.ensures.read

pub next_plane-requires-clause-unread : goal.next_plane-requires-clause-unread
next_plane-requires-clause-unread g c cell out =
    kept_outside c.args.parts.now c.in_ok-rects.rects.items c.new-class.result cell c.in_ok-rects.ensures
    (subst (λ (rs : List Rect). IsOutside rs cell) c.deref.ensures.value
    (c.in_ok-reads.ensures.covered cell
    (subst (λ (reads : List ReadCells). IsUnread reads cell) c.deref-in-loop-number.ensures.value out)))

pub loop-number-preserved : goal.loop-number-preserved
loop-number-preserved g c =
    let view = c.args.view.now in
    let extent = g.V.View.extent view in
    let passes = g.V.View.passes view in
    let items = c.self.inside.planes.items in
    let before = c.loop-number.planes.items in
    let number : ℕ = c.loop-number.number in
    let plane = c.in_ok-plane.plane in
    let below : number < length items = omega (arith, c.min-count.ensures, c.len.ensures) in
    let others : List (Option PlaneCells) = map (option_map arc_value) items in
    let some : is_some c.index.result.now ≡ is_some (get_or others number None) =
    is_some_mapped arc_value c.index.result.now
    ∙ ap (λ (o : Option PlaneCells). is_some o) (ap (option_map arc_value) c.index.ensures
    ∙ sym (get_or-map (option_map arc_value) items number c.index.result.now None below)) in
    let is : IsPlaneIn extent (passes number) (is_some (get_or others number None)) (option_map arc_value plane) =
    subst (λ (w : Bool). IsPlaneIn extent (passes number) w (option_map arc_value plane)) some
    (subst (λ (k : ℕ). IsPlaneIn extent (passes k) (is_some c.index.result.now) (option_map arc_value plane))
    c.new-class.ensures c.in_ok-plane.ensures) in
    record {
      many = omega (arith, c.in_ok-push.ensures.len, c.loop-number.invariant.many);
      each = λ class early. subst (λ (ps : List (Option PlaneCells)). IsPlaneIn extent (passes class)
          (is_some (get_or others class None)) (get_or ps class None))
          (sym (ap (map (option_map arc_value)) c.in_ok-push.ensures.items
          ∙ map-append (option_map arc_value) before (plane ∷ [])))
          (each_more (λ k one. IsPlaneIn extent (passes k) (is_some (get_or others k None)) one)
          (map (option_map arc_value) before) (option_map arc_value plane) None number
          (length-map before (option_map arc_value) ∙ c.loop-number.invariant.many) c.loop-number.invariant.each is class
          early);
    }

pub returns : goal.returns
returns g c =
    let view = c.args.view.now in
    let extent = g.V.View.extent view in
    let passes = g.V.View.passes view in
    let items = c.self.inside.planes.items in
    let planes = c.loop-number.planes.items in
    let many : length items ≡ length c.args.self.now =
    sym (length-map items (option_map arc_value)) ∙ ap length c.self.view_is in
    let done : c.loop-number.number ≡ length c.args.self.now =
    omega (arith, many, c.requires.before.few, c.classes.ensures.count, c.min-count.ensures, c.len.ensures, c.from.ensures) in
    record {
      many = length-map planes (option_map arc_value) ∙ c.loop-number.invariant.many ∙ done;
      each = λ class below. subst (λ (ps : List (Option PlaneCells)). IsPlaneIn extent (passes class)
          (is_some (get_or ps class None)) (get_or (map (option_map arc_value) planes) class None)) c.self.view_is
          (c.loop-number.invariant.each class (omega (arith, done)));
    }
