use Rattle.std.proofs.Common.{ℕ, Bool, rules, ◌≡◌, ◌∙◌, ap, sym}
use Rattle.nav_types.specs.declared.cells.Cell.{Cell}
use Rattle.grid_versions.specs.Versions.{MapState, passes_of}
use Rattle.grid_versions.proofs.class_views.ClassViewView.passable.Goals as goal

pub returns-then-eq : goal.returns-then-eq
returns-then-eq c =
    let class : ℕ = c.self.inside.class in
    let same : c.args.class ≡ class = search rules in
    c.passable.ensures
    ∙ ap (λ (free : Cell → Bool). free c.args.cell) c.self.invariant.1
    ∙ ap (λ (v : MapState). passes_of v class c.args.cell) c.self.view_is
    ∙ ap (λ (k : ℕ). passes_of c.args.self.now k c.args.cell) (sym same)
