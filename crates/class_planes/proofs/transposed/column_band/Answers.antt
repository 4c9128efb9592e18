use Rattle.std.proofs.Common.{ℕ, List, [], length, ◌≡◌, ◌+◌, ◌*◌, ◌/◌, ◌++◌, get_or, sym, ap, ap₂, ◌∙◌, subst, arith}
use Rattle.std.proofs.lemmas.List.{with_items_is}
use Rattle.nav_types.specs.Cells.{cell_at}
use Rattle.lane_rows.specs.Rows.{one_if}
use Rattle.class_planes.specs.inner.Lines.{IsBand, LineTable, RowTable, free_cell}
use Rattle.class_planes.specs.inner.Reading.{band_bit}
use Rattle.class_planes.specs.inner.StopLines.{HasStopsOf, map_lines, part_in}
use Rattle.class_planes.proofs.ColumnLemmas.{columns_right}
use Rattle.class_planes.proofs.ReadLemmas.{bit_of_band}
use Rattle.class_planes.proofs.SetLemmas.{bits_long, part_front, same_long, split_bits, stops_kept}
use Rattle.class_planes.proofs.transposed.column_band.Goals as goal

pub split_at_mut-bits-requires : goal.split_at_mut-bits-requires
split_at_mut-bits-requires c =
    let before : LineTable = c.args.before.now in
    let lines = c.requires.before.lines in
    let b : ℕ = c.args.band in
    let long = bits_long before b (omega (arith, c.requires.band, lines.many))
    ((lines.each b c.requires.band).long ∙ ap (λ (w : ℕ). 32 * w) (sym lines.wide)) in
    let whole = c.deref_mut.ensures.value ∙ c.in_ok-words.ensures ∙ c.band.ensures in
    omega (arith, long, ap length whole, ap₂ (λ (n w : ℕ). n * w) c.from.ensures c.words.ensures)

pub write_rects-requires-clause-words : goal.write_rects-requires-clause-words
write_rects-requires-clause-words c =
    c.split_at_mut-bits.ensures.front_len ∙ ap₂ (λ (n w : ℕ). n * w) c.from.ensures c.words.ensures
    ∙ ap (λ (w : ℕ). 32 * w) c.requires.before.lines.wide

pub write_rects-requires-clause-before : goal.write_rects-requires-clause-before
write_rects-requires-clause-before c m i small within out =
    let words : ℕ = c.args.map.now.size.h / 64 + 1 in
    let before = c.requires.before in
    let table : LineTable = c.args.before.now in
    let b : ℕ = c.args.band in
    let bits : List ℕ = c.split_at_mut-bits.result.0.now in
    let rest : List ℕ = c.split_at_mut-bits.result.1.now in
    let whole : bits ++ rest ≡ get_or table.bands b [] = sym c.split_at_mut-bits.ensures.value
    ∙ c.deref_mut.ensures.value ∙ c.in_ok-words.ensures ∙ c.band.ensures in
    let long : length bits ≡ 32 * table.words =
    c.split_at_mut-bits.ensures.front_len ∙ ap₂ (λ (n w : ℕ). n * w) c.from.ensures c.words.ensures in
    let same = split_bits table b bits rest (omega (arith, c.requires.band, before.lines.many)) long whole in
    ap (λ (xs : List ℕ). band_bit words xs m i) same
    ∙ bit_of_band before.earlier (32 * b) words m i (get_or (map_lines table).bands b [])
    (before.lines.each b c.requires.band) small within
    ∙ ap one_if (before.same (cell_at (32 * b + m) i) out)

pub returns-clause-lines : goal.returns-clause-lines
returns-clause-lines c =
    let rows : RowTable = record { size = c.args.map.now.size; rows = map_lines c.args.map.now.rows.now } in
    let words : ℕ = c.args.map.now.size.h / 64 + 1 in
    let before = c.requires.before in
    let table : LineTable = c.args.before.now in
    let bits : List ℕ = c.split_at_mut-bits.result.0.now in
    let rest : List ℕ = c.split_at_mut-bits.result.1.now in
    let new : List ℕ = c.write_rects.new.words in
    let stays : length new ≡ length bits = c.write_rects.ensures.stays in
    let long : length bits ≡ 32 * table.words =
    c.split_at_mut-bits.ensures.front_len ∙ ap₂ (λ (n w : ℕ). n * w) c.from.ensures c.words.ensures in
    let kept = with_items_is c.in_ok-words.words (new ++ rest)
    (same_long bits new rest stays ∙ ap length (sym c.split_at_mut-bits.ensures.value) ∙ c.deref_mut.ensures.len) in
    let part = ap (λ (xs : List ℕ). part_in table.words xs 0) kept
    ∙ part_front (32 * table.words) new rest (stays ∙ long) in
    let wide : length new ≡ 32 * words = stays ∙ long ∙ ap (λ (w : ℕ). 32 * w) before.lines.wide in
    subst (IsBand (λ i j. free_cell rows (cell_at i j)) (32 * c.args.band) words 32) (sym part)
    (columns_right rows c.args.band new wide c.write_rects.ensures.bits)

pub returns-clause-stops : goal.returns-clause-stops
returns-clause-stops c =
    let table : LineTable = c.args.before.now in
    let b : ℕ = c.args.band in
    let bits : List ℕ = c.split_at_mut-bits.result.0.now in
    let rest : List ℕ = c.split_at_mut-bits.result.1.now in
    let new : List ℕ = c.write_rects.new.words in
    let stays : length new ≡ length bits = c.write_rects.ensures.stays in
    let whole : bits ++ rest ≡ get_or table.bands b [] = sym c.split_at_mut-bits.ensures.value
    ∙ c.deref_mut.ensures.value ∙ c.in_ok-words.ensures ∙ c.band.ensures in
    let long : length bits ≡ 32 * table.words =
    c.split_at_mut-bits.ensures.front_len ∙ ap₂ (λ (n w : ℕ). n * w) c.from.ensures c.words.ensures in
    let kept = with_items_is c.in_ok-words.words (new ++ rest)
    (same_long bits new rest stays ∙ ap length (sym c.split_at_mut-bits.ensures.value) ∙ c.deref_mut.ensures.len) in
    subst (HasStopsOf table b) (sym kept) (stops_kept table b bits new rest long (stays ∙ long) whole)
