use Rattle.region_edges.specs.Edges.{IsPairBefore}
use Rattle.nav_types.proofs.Items.{same_ordered}
use Rattle.region_edges.proofs.PairLemmas.{IsPairBefore-asym}
use Rattle.region_edges.proofs.laws.one_edge_list.Goals as goal

pub returns : goal.returns
returns c = λ passes here there xs ys one two. same_ordered IsPairBefore IsPairBefore-asym xs ys one.rising two.rising
    (λ pair inside. two.all pair.0 pair.1 (one.each pair.0 pair.1 inside))
    (λ pair inside. one.all pair.0 pair.1 (two.each pair.0 pair.1 inside))
