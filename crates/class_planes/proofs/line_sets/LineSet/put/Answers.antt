use Rattle.std.proofs.Common.{ℕ, List, map, set, ap, ap₂, ◌∙◌}
use Rattle.std.specs.Arc.{arc_value}
use Rattle.std.proofs.lemmas.List.{map-set, set-set}
use Rattle.class_planes.specs.inner.Lines.{LineTable}
use Rattle.class_planes.proofs.line_sets.LineSet.put.Goals as goal

pub returns-in-Some-clause-bands : goal.returns-in-Some-clause-bands
returns-in-Some-clause-bands c =
    map-set arc_value c.self.inside.bands.items c.from.result _
    ∙ ap₂ (λ (xs : List (List ℕ)) (n : ℕ). set xs n c.args.words.items)
    (ap (λ (t : LineTable). t.bands) c.self.view_is) c.from.ensures

pub returns-clause-bands : goal.returns-clause-bands
returns-clause-bands c =
    let items = c.self.inside.bands.items in
    let x = c.index_mut.result.now in
    let y = c.in_ok-self-inside.field-0 in
    map-set arc_value (set items c.from.result x) c.from-2.result y
    ∙ ap (λ (xs : List (List ℕ)). set xs c.from-2.result (arc_value y)) (map-set arc_value items c.from.result x)
    ∙ ap₂ (λ (n m : ℕ). set (set (map arc_value items) n (arc_value x)) m (arc_value y)) c.from.ensures c.from-2.ensures
    ∙ set-set (map arc_value items) c.args.b (arc_value x) (arc_value y)
    ∙ ap₂ (λ (xs : List (List ℕ)) (band : List ℕ). set xs c.args.b band)
    (ap (λ (t : LineTable). t.bands) c.self.view_is) c.in_ok-self-inside.ensures.ok
