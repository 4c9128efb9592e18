use Rattle.std.proofs.Common.{ℕ, rules, ◌≡◌, ◌∙◌, ap, sym}
use Rattle.nav_types.specs.Lines.{IsFirstBlocked, place_on}
use Rattle.class_planes.specs.Planes.{is_passable}
use Rattle.grid_versions.specs.Versions.{MapState, passes_of}
use Rattle.grid_versions.proofs.PlaneLines.{on_same_line}
use Rattle.grid_versions.proofs.class_views.ClassViewFreeCells.next_blocked.Goals as goal

pub returns-then-eq : goal.returns-then-eq
returns-then-eq c =
    let class : ℕ = c.self.inside.class in
    let plane = c.self.inside.plane.now in
    let result : ℕ = c.next_blocked.result in
    let same : c.args.class ≡ class = search rules in
    on_same_line (λ free end. IsFirstBlocked free (place_on c.args.axis c.args.cell) end result) c.args.axis c.args.cell
    (is_passable plane) (passes_of c.args.self.now c.args.class) plane.size c.args.self.now.map.size
    (c.self.invariant.1 ∙ ap (λ (v : MapState). passes_of v class) c.self.view_is ∙ ap (λ (k : ℕ). passes_of c.args.self.now k) (sym same))
    (c.self.invariant.0 ∙ ap (λ (v : MapState). v.map.size) c.self.view_is) c.next_blocked.ensures
