use Rattle.std.proofs.Common.{ℕ, Bool, ◌≡◌, ◌+◌, ◌/◌, ◌∙◌, length, subst, sym, ap, arith}
use Rattle.nav_types.specs.Cells.{cell_at}
use Rattle.class_planes.specs.inner.Lines.{AreLines, RowTable, free_cell}
use Rattle.class_planes.specs.inner.StopLines.{AreSameStops, map_lines}
use Rattle.class_planes.proofs.SetLemmas.{no_bits, parts_many}
use Rattle.class_planes.proofs.SpanLemmas.{columns_same}
use Rattle.class_planes.proofs.transposed.updated_columns.Goals as goal

pub share_bands-requires-clause-within : goal.share_bands-requires-clause-within
share_bands-requires-clause-within c =
    let few = c.bands_about-met.ensures in
    omega (arith, few.ordered, few.within, c.requires.before.lines.many, parts_many c.args.before.now 0)

pub share_bands-requires-2-clause-within : goal.share_bands-requires-2-clause-within
share_bands-requires-2-clause-within c =
    omega (arith, c.requires.before.lines.many, parts_many c.args.before.now 0)

pub share_bands-requires-2-clause-words : goal.share_bands-requires-2-clause-words
share_bands-requires-2-clause-words c = c.loop-band.invariant.lines.wide ∙ sym c.requires.before.lines.wide

pub loop-band-init : goal.loop-band-init
loop-band-init c =
    let table : RowTable = record { size = c.args.size; rows = map_lines c.args.rows.now } in
    let free : ℕ → ℕ → Bool = λ i j. free_cell table (cell_at i j) in
    let words : ℕ = c.args.size.h / 64 + 1 in
    let met = c.bands_about-met.result in
    let few = c.bands_about-met.ensures in
    record {
      lines = c.in_ok-share_bands.ensures.lines free words
          (no_bits free words c.in_ok-lines.lines
          (c.in_ok-lines.ensures.words ∙ c.words.ensures ∙ c.requires.before.lines.wide) c.in_ok-lines.ensures.none)
          (λ b low high. columns_same table c.args.rects.now met.from met.to (map_lines c.args.before.now)
          c.requires.before few.about b (omega (arith, high, few.ordered, few.within))
          (λ from to. omega (arith, from, high)));
      stops = c.in_ok-share_bands.ensures.stops (ap length c.in_ok-lines.ensures.none)
          (λ b below. absurd (omega (arith, below)));
    }

pub returns-clause-lines : goal.returns-clause-lines
returns-clause-lines c =
    let table : RowTable = record { size = c.args.size; rows = map_lines c.args.rows.now } in
    let free : ℕ → ℕ → Bool = λ i j. free_cell table (cell_at i j) in
    let words : ℕ = c.args.size.h / 64 + 1 in
    let met = c.bands_about-met.result in
    let few = c.bands_about-met.ensures in
    let end : c.loop-band.band ≡ met.to = omega (arith, c.loop-band-test.false, c.loop-band.auto.band-end few.ordered) in
    c.in_ok-share_bands-2.ensures.lines free words
    (subst (λ (b : ℕ). AreLines free b words (map_lines c.loop-band.lines)) end c.loop-band.invariant.lines)
    (λ b low high. columns_same table c.args.rects.now met.from met.to (map_lines c.args.before.now) c.requires.before
    few.about b high (λ from to. omega (arith, low, to)))

pub returns-clause-stops : goal.returns-clause-stops
returns-clause-stops c =
    let few = c.bands_about-met.ensures in
    let end : c.loop-band.band ≡ c.bands_about-met.result.to =
    omega (arith, c.loop-band-test.false, c.loop-band.auto.band-end few.ordered) in
    c.in_ok-share_bands-2.ensures.stops
    (omega (arith, end, c.loop-band.invariant.lines.many, parts_many c.loop-band.lines 0))
    (subst (λ (b : ℕ). AreSameStops b c.args.before.now c.loop-band.lines) end c.loop-band.invariant.stops)
