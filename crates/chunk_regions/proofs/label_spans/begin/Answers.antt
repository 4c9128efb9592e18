use Rattle.std.proofs.Common.{◌≡◌, ◌+◌, ◌*◌, ◌++◌, ◌∷◌, [], ◌∙◌, ℕ, ap, arith}
use Rattle.nav_types.specs.declared.cells.Cell.{Cell}
use Rattle.nav_types.specs.Cells.{cell_at}
use Rattle.chunk_regions.proofs.label_spans.begin.Goals as goal

pub returns-clause-firsts : goal.returns-clause-firsts
returns-clause-firsts c =
    let chunk = c.args.chunk in
    let column : chunk.ci * 96 + c.from.result ≡ 96 * chunk.ci + c.args.span.first = omega (arith, c.from.ensures) in
    let row : chunk.cj * 96 + c.args.place.row ≡ 96 * chunk.cj + c.args.place.row = omega arith in
    c.in_ok-push.ensures.items
    ∙ ap (λ (cell : Cell). c.args.all.now.firsts.items ++ cell ∷ [])
    (c.new.ensures ∙ ap (λ (i : ℕ). cell_at i (chunk.cj * 96 + c.args.place.row)) column
    ∙ ap (λ (j : ℕ). cell_at (96 * chunk.ci + c.args.span.first) j) row)
