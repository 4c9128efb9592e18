use Rattle.grid_versions.proofs.tables.borders.keeps_edges.Goals as goal

pub returns : goal.returns
returns c = λ there old now changes kept. (
  c.stays_here.ensures c.if-not-stays_here.false old now changes kept,
  c.stays_there.ensures there old now changes kept,
)
