use Rattle.std.proofs.Common.{◌≡◌, ◌%◌, ◌+◌, subst, arith}
use Rattle.std.proofs.lemmas.Bool.{eqb-false}
use Rattle.region_edges.specs.declared.neighbours.ChunkSide.{ChunkSide}
use Rattle.grid_versions.specs.inner.Keeping.{IsLastOn}
use Rattle.grid_versions.proofs.tables.borders.meets_last.Goals as goal

pub returns-in-East : goal.returns-in-East
returns-in-East c = λ apart size chunk within cell last inside.
    let here : cell.i % 96 + 1 ≡ 96 = subst (λ (side : ChunkSide). IsLastOn side cell) c.in-East.is last in
    let other = eqb-false (c.args.part.i1 % 96 + 1) 96 apart in
    let low = within.first.west in
    let high = within.last.east in
    let from = inside.west in
    let to = inside.east in
    other (omega arith)

pub returns-in-North : goal.returns-in-North
returns-in-North c = λ apart size chunk within cell last inside.
    let here : cell.j % 96 + 1 ≡ 96 = subst (λ (side : ChunkSide). IsLastOn side cell) c.in-North.is last in
    let other = eqb-false (c.args.part.j1 % 96 + 1) 96 apart in
    let low = within.first.south in
    let high = within.last.north in
    let from = inside.south in
    let to = inside.north in
    other (omega arith)
