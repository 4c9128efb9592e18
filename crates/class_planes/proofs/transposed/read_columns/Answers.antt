use Rattle.std.proofs.Common.{ℕ, ◌≡◌, ◌<◌, ◌≤◌, ◌+◌, ◌-◌, ◌*◌, get_or, sym, ap, ◌∙◌, ⊎_elim, arith}
use Rattle.std.specs.Int.{bit_at}
use Rattle.std.proofs.lemmas.Bool.{cases_lt}
use Rattle.nav_types.specs.Cells.{cell_at}
use Rattle.lane_rows.specs.Rows.{one_if}
use Rattle.class_planes.specs.inner.Lines.{RowTable, free_cell}
use Rattle.class_planes.specs.inner.StopLines.{map_lines}
use Rattle.class_planes.proofs.transposed.read_columns.Goals as goal

pub read_band-requires-clause-blank : goal.read_band-requires-clause-blank
read_band-requires-clause-blank c j below = c.requires.blank (0 + j)

pub read_band-requires-2-clause-blank : goal.read_band-requires-2-clause-blank
read_band-requires-2-clause-blank c j below =
    c.read_band.ensures.others (32 + j) (λ low high. omega (arith, high)) ∙ c.requires.blank (32 + j)

pub returns-clause-bits : goal.returns-clause-bits
returns-clause-bits c j k below small =
    let table : RowTable = record { size = c.args.map.now.size; rows = map_lines c.args.map.now.rows.now } in
    let w : ℕ = c.args.w in
    let one = c.read_band.new.numbers in
    let two = c.read_band-2.new.numbers in
    let bit : ℕ → ℕ = λ row. one_if (free_cell table (cell_at (16 * c.args.group + k) row)) in
    ⊎_elim
    (λ (first : j < 32).
    let here : 0 + j ≡ j = omega arith in
    let row : 32 * (2 * w) + j ≡ 64 * w + j = omega arith in
    ap (λ n. bit_at n k) (c.read_band-2.ensures.others j (λ low high. omega (arith, low, first)))
    ∙ ap (λ p. bit_at (get_or one p 0) k) (sym here)
    ∙ c.read_band.ensures.bits j k first small
    ∙ ap bit row)
    (λ (second : 32 ≤ j).
    let there : 32 + (j - 32) ≡ j = omega (arith, second) in
    let row : 32 * (2 * w + 1) + (j - 32) ≡ 64 * w + j = omega (arith, second) in
    ap (λ p. bit_at (get_or two p 0) k) (sym there)
    ∙ c.read_band-2.ensures.bits (j - 32) k (omega (arith, below, second)) small
    ∙ ap bit row)
    (cases_lt j 32)
