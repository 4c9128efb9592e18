use Rattle.std.proofs.Common.{ℕ, List, set, ap, ap₂, ◌∙◌}
use Rattle.std.specs.Arc.{arc_value}
use Rattle.std.proofs.lemmas.List.{map-set, set-set}
use Rattle.class_planes.specs.inner.Lines.{LineTable}
use Rattle.class_planes.proofs.line_sets.LineSet.take.Goals as goal

pub returns-clause-others : goal.returns-clause-others
returns-clause-others c band =
    let empty : List ℕ = c.replace.new.dest.items in
    ap (λ (xs : List (List ℕ)). set xs c.args.b band) (map-set arc_value c.self.inside.bands.items c.from.result _
    ∙ ap₂ (λ (xs : List (List ℕ)) (n : ℕ). set xs n empty) (ap (λ (t : LineTable). t.bands) c.self.view_is)
    c.from.ensures)
    ∙ set-set c.args.self.now.bands c.args.b empty band
