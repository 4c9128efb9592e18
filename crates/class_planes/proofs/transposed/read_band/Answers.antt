use Rattle.std.proofs.Common.{ℕ, List, [], length, ◌≡◌, ◌<◌, ◌+◌, ◌*◌, ◌/◌, get_or, set, sym, subst, ap, ap₂, refl, ◌∙◌, arith}
use Rattle.std.specs.Int.{bit_at}
use Rattle.nav_types.specs.Cells.{cell_at}
use Rattle.lane_rows.specs.Rows.{one_if}
use Rattle.class_planes.specs.inner.Lines.{LineTable, RowTable, free_cell, line_in}
use Rattle.class_planes.specs.inner.Runs.{bit_in}
use Rattle.class_planes.specs.inner.StopLines.{map_lines}
use Rattle.class_planes.proofs.SetLemmas.{bits_long, front_line, part_at, raw_below}
use Rattle.class_planes.proofs.TurnLemmas.{numbers_more, numbers_else}
use Rattle.class_planes.proofs.transposed.read_band.Goals as goal

-- a line of a band of the map
map_line : (table : LineTable) (b k : ℕ) → k < 32 → b < length table.bands
    → line_in table.words (get_or table.bands b []) k ≡ line_in table.words (get_or (map_lines table).bands b []) k
map_line table b k low below =
    sym (ap (λ (band : List ℕ). line_in table.words band k) (part_at table 0 b below)
    ∙ front_line table.words k (get_or table.bands b []) low)

pub band-lines-requires : goal.band-lines-requires
band-lines-requires c =
    raw_below c.args.map.now.rows.now 0 c.args.band
    (omega (arith, c.if-band-map.false, c.requires.rows.many))

pub sixteen_in-requires-clause-long : goal.sixteen_in-requires-clause-long
sixteen_in-requires-clause-long c =
    let rows : LineTable = c.args.map.now.rows.now in
    let b : ℕ = c.args.band in
    let many = c.requires.rows.many in
    let below : b < c.args.map.now.size.h / 32 + 1 = omega (arith, c.if-band-map.false) in
    let long = bits_long rows b (omega (arith, below, many))
    ((c.requires.rows.each b below).long ∙ ap (λ (w : ℕ). 32 * w) (sym c.requires.rows.wide)) in
    omega (arith, long, ap length c.band-lines.ensures, c.words-words.ensures)

pub loop-k-init : goal.loop-k-init
loop-k-init c = record {
  bits = λ j b below small. absurd (omega (arith, below));
  others = λ j out. refl;
}

pub loop-k-preserved : goal.loop-k-preserved
loop-k-preserved c =
    let table : RowTable = record { size = c.args.map.now.size; rows = map_lines c.args.map.now.rows.now } in
    let k : ℕ = c.loop-k.k in
    let b : ℕ = c.args.band in
    let from : ℕ = c.args.from in
    let numbers : List ℕ = c.loop-k.numbers in
    let sixteen : ℕ = c.sixteen_in.result in
    let below : b < table.size.h / 32 + 1 = omega (arith, c.if-band-map.false) in
    let here = c.requires.rows.each b below in
    let rows : LineTable = c.args.map.now.rows.now in
    let there : b < length rows.bands = raw_below rows 0 b (omega (arith, below, c.requires.rows.many)) in
    let low : k < 32 = omega (arith, c.loop-k-test.true, c.from-k-end.ensures) in
    let start : c.from-start.result ≡ from = c.from-start.ensures in
    let cell : ℕ → ℕ → ℕ = λ j n. one_if (free_cell table (cell_at (16 * c.args.group + n) (32 * b + j))) in
    record {
      bits = subst
          (λ (first : ℕ). (j n : ℕ) → j < k + 1 → n < 16 → bit_at (get_or (set numbers (first + k) sixteen) (from + j) 0) n ≡ cell j n)
          (sym start)
          (numbers_more cell numbers from k sixteen (omega (arith, low, c.requires.room, c.loop-k.auto.numbers)) c.loop-k.invariant.bits
          (λ n small. c.sixteen_in.ensures n small
          ∙ ap₂ (λ (w : ℕ) (xs : List ℕ). bit_in (line_in w xs k) (16 * c.args.group + n)) c.words-words.ensures
          c.band-lines.ensures
          ∙ ap (λ (xs : List ℕ). bit_in xs (16 * c.args.group + n)) (map_line rows b k low there)
          ∙ ap (λ (w : ℕ). bit_in (line_in w (get_or (map_lines rows).bands b []) k) (16 * c.args.group + n))
          c.requires.rows.wide
          ∙ here.each k low (16 * c.args.group + n)));
      others = λ j out. ap (λ (first : ℕ). get_or (set numbers (first + k) sixteen) j 0) start
          ∙ numbers_else numbers c.args.numbers.now from 32 k sixteen j low c.loop-k.invariant.others out;
    }

pub returns-clause-bits : goal.returns-clause-bits
returns-clause-bits c j k below small = c.loop-k.invariant.bits j k (omega (arith, c.loop-k-test.false, c.from-k-end.ensures, below)) small
