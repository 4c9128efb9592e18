use Rattle.std.proofs.Common.{ℕ, ◌++◌, ◌-◌, ◌∙◌, List, map, take, drop, ap}
use Rattle.std.specs.Arc.{arc_value}
use Rattle.class_planes.specs.inner.Lines.{LineTable}
use Rattle.class_planes.proofs.LineLemmas.{clones_behind}
use Rattle.class_planes.proofs.line_sets.LineSet.share_span.Goals as goal

pub returns-clause-bands : goal.returns-clause-bands
returns-clause-bands c =
    let bands : List (List ℕ) = map arc_value c.from.inside.bands.items in
    let part : ℕ → ℕ → List (List ℕ) → List (List ℕ) = λ start end xs. take (end - start) (drop start xs) in
    clones_behind arc_value c.self.inside.bands.items c.extend_with_clones.new.self.items c.deref.result.now
    c.from-2.result c.from-3.result c.in_ok-extend_with_clones.ensures.items
    ∙ ap (λ xs. map arc_value c.self.inside.bands.items ++ part c.from-2.result c.from-3.result (map arc_value xs))
    c.deref.ensures.value
    ∙ ap (λ (n : ℕ). map arc_value c.self.inside.bands.items ++ part n c.from-3.result bands) c.from-2.ensures
    ∙ ap (λ (n : ℕ). map arc_value c.self.inside.bands.items ++ part c.args.start n bands) c.from-3.ensures
    ∙ ap (λ (t : LineTable). map arc_value c.self.inside.bands.items ++ part c.args.start c.args.end t.bands) c.from.view_is
    ∙ ap (λ (t : LineTable). t.bands ++ part c.args.start c.args.end c.args.from.now.bands) c.self.view_is
