use Rattle.std.proofs.Common.{arith}
use Rattle.class_planes.proofs.plane_scans.cell_beside.Goals as goal

pub returns-in_default-clause-none : goal.returns-in_default-clause-none
returns-in_default-clause-none c = λ next leads.
    let here = c.args.cell in
    let columns = leads.columns in
    c.in_default.ensures.none next.i (omega (arith, c.east.ensures.value, c.west.ensures.value))

pub returns-in_default-shifted-clause-none : goal.returns-in_default-shifted-clause-none
returns-in_default-shifted-clause-none c = λ next leads.
    let here = c.args.cell in
    let rows = leads.rows in
    c.in_default-shifted.ensures.none next.j (omega (arith, c.north.ensures.value, c.south.ensures.value))
