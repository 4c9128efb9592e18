use Rattle.std.proofs.Common.{◌+◌, arith}
use Rattle.std.proofs.lemmas.Nat.{mul-le}
use Rattle.flow_field.specs.inner.Marks.{cell_at_spot}
use Rattle.flow_field.proofs.Spots.{spot_of-high}
use Rattle.flow_field.proofs.tables.Table.beside.Goals as goal

pub returns-clause-within : goal.returns-clause-within
returns-clause-within c =
    let table = c.args.self.now in
    let place = c.requires in
    let w = table.size.w + 2 in
    omega (arith, mul-le c.north.result w 1 w c.north.ensures.most (omega arith), c.east.ensures.most, spot_of-high table.size (cell_at_spot table.size c.args.at) place.inside, place.same, table.sound.long)
