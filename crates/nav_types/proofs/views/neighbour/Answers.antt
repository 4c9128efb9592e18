use Rattle.std.proofs.Common.{◌≤◌, arith}
use Rattle.nav_types.proofs.views.neighbour.Goals as goal

pub returns-in_default-clause-none : goal.returns-in_default-clause-none
returns-in_default-clause-none c = λ next leads inside.
    let here = c.args.cell in
    let columns = leads.columns in
    let beyond : c.args.size.w ≤ next.i = c.in_default.ensures.none next.i (omega (arith, c.east.ensures.value, c.west.ensures.value)) in
    let column = inside.column in
    omega arith

pub returns-in_default-shifted-clause-none : goal.returns-in_default-shifted-clause-none
returns-in_default-shifted-clause-none c = λ next leads inside.
    let here = c.args.cell in
    let rows = leads.rows in
    let beyond : c.args.size.h ≤ next.j = c.in_default-shifted.ensures.none next.j (omega (arith, c.north.ensures.value, c.south.ensures.value)) in
    let row = inside.row in
    omega arith
