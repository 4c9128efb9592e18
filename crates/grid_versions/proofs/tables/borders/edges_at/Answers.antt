use Rattle.std.proofs.lemmas.Result.{IfOk-weaker}
use Rattle.grid_versions.proofs.BuildLemmas.{are_neighbours, edges_between}
use Rattle.grid_versions.proofs.tables.borders.edges_at.Goals as goal

pub between-requires : goal.between-requires
between-requires c = record {
  neighbours = are_neighbours c.args.border.side c.args.size c.args.labels.now c.args.border.place c.place_of-to.result c.numbered-here.result c.in-Some.there
      c.at.result.now c.at-in-Some.result.now c.requires.labels c.numbered-here.ensures.value c.in-Some.ensures.some c.in-Some.ensures.inside
      c.place_of-to.ensures.value c.at.ensures c.at-in-Some.ensures;
}

pub returns-in-Some : goal.returns-in-Some
returns-in-Some c =
    IfOk-weaker c.between.result _ _
    (λ edges made. edges_between c.args.border.side c.args.size c.args.labels.now c.args.border.place c.place_of-to.result c.numbered-here.result c.in-Some.there
    c.at.result.now c.at-in-Some.result.now c.requires.labels c.numbered-here.ensures.value c.in-Some.ensures.some c.in-Some.ensures.inside
    c.place_of-to.ensures.value c.at.ensures c.at-in-Some.ensures edges made)
    c.between.ensures.edges
