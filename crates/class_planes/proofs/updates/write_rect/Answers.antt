use Rattle.std.proofs.Common.{ℕ, ◌≡◌, ◌≤◌, ◌+◌, ◌-◌, ◌*◌, ◌/◌, List, length, refl, ap, ap₂, ◌∙◌, max, min, arith}
use Rattle.nav_types.specs.declared.cells.Rect.{Rect}
use Rattle.class_planes.specs.inner.Reading.{ReadCells, numbers_in, width_of}
use Rattle.class_planes.proofs.ReadLemmas.{IsMet, row_met, row_set, row_kept, numbers_long, words_whole, words_within}
use Rattle.class_planes.proofs.updates.write_rect.Goals as goal

pub loop-n-init : goal.loop-n-init
loop-n-init c =
    let rect : Rect = c.args.read.now.rect in
    let first : ℕ = c.args.first in
    let from : c.max-from.result ≡ max rect.j0 first =
    c.max-from.ensures ∙ ap (λ (r : Rect). max r.j0 first) c.rect-rect.ensures in
    record {
      set = λ m i small inside below.
          let south : rect.j0 ≤ first + m = inside.south in
          absurd (omega (arith, south, from, below));
      kept = λ m i small within out. refl;
    }

pub row-requires-clause-low : goal.row-requires-clause-low
row-requires-clause-low c =
    let met : IsMet c.args.read.now.rect c.args.first c.loop-n.n = row_met c.args.read.now.rect c.rect-rect.result
    c.args.first c.max-from.result c.min-to.result c.loop-n.n c.rect-rect.ensures c.max-from.ensures c.min-to.ensures
    c.loop-n.auto.n c.loop-n-test.true in met.south

pub row-requires-clause-high : goal.row-requires-clause-high
row-requires-clause-high c =
    let met : IsMet c.args.read.now.rect c.args.first c.loop-n.n = row_met c.args.read.now.rect c.rect-rect.result
    c.args.first c.max-from.result c.min-to.result c.loop-n.n c.rect-rect.ensures c.max-from.ensures c.min-to.ensures
    c.loop-n.auto.n c.loop-n-test.true in met.north

pub write_words-requires-clause-whole : goal.write_words-requires-clause-whole
write_words-requires-clause-whole c =
    let read : ReadCells = c.args.read.now in
    let n : ℕ = c.loop-n.n in
    let met : IsMet read.rect c.args.first n = row_met read.rect c.rect-rect.result c.args.first c.max-from.result
    c.min-to.result n c.rect-rect.ensures c.max-from.ensures c.min-to.ensures c.loop-n.auto.n c.loop-n-test.true in
    words_whole read.rect c.args.words (length c.row.result.now) c.requires.rect
    (ap length c.row.ensures ∙ numbers_long read n c.requires.whole met.south met.north)

pub write_words-requires-clause-within : goal.write_words-requires-clause-within
write_words-requires-clause-within c =
    let read : ReadCells = c.args.read.now in
    let rect : Rect = read.rect in
    let n : ℕ = c.loop-n.n in
    let first : ℕ = c.args.first in
    let words : ℕ = c.args.words in
    let met : IsMet rect first n = row_met rect c.rect-rect.result first c.max-from.result c.min-to.result n
    c.rect-rect.ensures c.max-from.ensures c.min-to.ensures c.loop-n.auto.n c.loop-n-test.true in
    let row : List ℕ = c.row.result.now in
    let start : ℕ = c.from.result * words + c.from-in-loop-n.result / 64 in
    let at : start ≡ (n - first) * words + rect.i0 / 64 = ap₂ (λ (k i : ℕ). k * words + i / 64) c.from.ensures
    (c.from-in-loop-n.ensures ∙ ap (λ (r : Rect). r.i0) c.rect-rect.ensures) in
    let fits : start + length row / 64 ≤ 32 * words = words_within rect words (n - first) (length row) start c.requires.rect
    (ap length c.row.ensures ∙ numbers_long read n c.requires.whole met.south met.north) met.small at in
    omega (arith, fits, c.loop-n.auto.band, c.requires.band)

pub loop-n-preserved : goal.loop-n-preserved
loop-n-preserved c =
    let read : ReadCells = c.args.read.now in
    let rect : Rect = read.rect in
    let n : ℕ = c.loop-n.n in
    let first : ℕ = c.args.first in
    let words : ℕ = c.args.words in
    let met : IsMet rect first n = row_met rect c.rect-rect.result first c.max-from.result c.min-to.result n
    c.rect-rect.ensures c.max-from.ensures c.min-to.ensures c.loop-n.auto.n c.loop-n-test.true in
    let row : List ℕ = c.row.result.now in
    let is : row ≡ numbers_in read n = c.row.ensures in
    let long : length row ≡ width_of rect = ap length is ∙ numbers_long read n c.requires.whole met.south met.north in
    let start : ℕ = c.from.result * words + c.from-in-loop-n.result / 64 in
    let at : start ≡ (n - first) * words + rect.i0 / 64 = ap₂ (λ (k i : ℕ). k * words + i / 64) c.from.ensures
    (c.from-in-loop-n.ensures ∙ ap (λ (r : Rect). r.i0) c.rect-rect.ensures) in
    record {
      set = row_set read c.loop-n.band c.write_words.new.band row words start c.args.class first n c.requires.rect met is
          long at c.write_words.ensures.set c.write_words.ensures.others c.loop-n.invariant.set;
      kept = row_kept read c.args.band.now c.loop-n.band c.write_words.new.band row words start first n c.requires.rect met
          long at c.write_words.ensures.others c.loop-n.invariant.kept;
    }

pub returns-clause-set : goal.returns-clause-set
returns-clause-set c m i small inside =
    let rect : Rect = c.args.read.now.rect in
    let first : ℕ = c.args.first in
    let to : c.min-to.result ≡ min rect.j1 (first + 31) =
    c.min-to.ensures ∙ ap (λ (r : Rect). min r.j1 (first + 31)) c.rect-rect.ensures in
    let north : first + m ≤ rect.j1 = inside.north in
    c.loop-n.invariant.set m i small inside (omega (arith, small, north, to, c.loop-n-test.false))

pub returns-clause-others : goal.returns-clause-others
returns-clause-others c m i small within out =
    c.loop-n.invariant.kept m i small within (λ inside below. out inside)
