use Rattle.std.proofs.Common.{ℕ, ◌≡◌, ◌+◌, ◌≤◌, ◌∙◌, sym, ap, arith}
use Rattle.fixed_point.specs.Plane.{square}
use Rattle.jump_search.proofs.Rims.{none_to_rim}
use Rattle.jump_search.proofs.ways_out.cost_to_rim.Goals as goal

same_bound : (m a b n c d : ℕ) → m ≤ a + b → m ≡ n → a ≡ c → b ≡ d → n ≤ c + d
same_bound m a b n c d less one two three = omega (arith, less, one, two, three)

pub returns-then-corner-squared-clause-value : goal.returns-then-corner-squared-clause-value
returns-then-corner-squared-clause-value c =
    sym (none_to_rim c.args.disc.now c.args.cell
    (same_bound c.squared-3.result c.squared.result c.squared-2.result _ _ _ c.if-corner-squared.true
    (c.squared-3.ensures.value ∙ ap square c.magnitude-radius.ensures.value)
    (c.squared.ensures.value ∙ ap square c.farther_edge.ensures.value)
    (c.squared-2.ensures.value ∙ ap square c.farther_edge-2.ensures.value)))
