use Rattle.std.proofs.Common.{ℕ, Bool, ◌≡◌, ◌+◌, ◌/◌, ◌∙◌, length, subst, sym, ap, arith}
use Rattle.nav_types.specs.declared.cells.Size.{Size}
use Rattle.nav_types.specs.declared.straights.Axis.TheVariants.{Row}
use Rattle.nav_types.specs.Cells.{cell_at}
use Rattle.class_planes.specs.inner.Lines.{AreLines, LineTable}
use Rattle.class_planes.specs.inner.StopLines.{AreSameStops, map_lines}
use Rattle.class_planes.proofs.SetLemmas.{no_bits, parts_many}
use Rattle.class_planes.proofs.SpanLemmas.{AreAbout, rows_same}
use Rattle.class_planes.proofs.updates.updated_lines.Goals as goal

pub share_bands-requires-clause-within : goal.share_bands-requires-clause-within
share_bands-requires-clause-within g c =
    let tall : c.size.result.h / 32 + 1 ≡ (g.V.View.extent c.args.view.now).h / 32 + 1 =
    ap (λ (s : Size). s.h / 32 + 1) c.size.ensures in
    let few = c.bands_about-met.ensures in
    omega (arith, few.ordered, few.within, tall, c.requires.before.lines.many, parts_many c.args.before.now 0)

pub share_bands-requires-2-clause-within : goal.share_bands-requires-2-clause-within
share_bands-requires-2-clause-within g c =
    let tall : c.size.result.h / 32 + 1 ≡ (g.V.View.extent c.args.view.now).h / 32 + 1 =
    ap (λ (s : Size). s.h / 32 + 1) c.size.ensures in
    omega (arith, tall, c.requires.before.lines.many, parts_many c.args.before.now 0)

pub share_bands-requires-2-clause-words : goal.share_bands-requires-2-clause-words
share_bands-requires-2-clause-words g c = c.loop-band.invariant.lines.wide ∙ sym c.requires.before.lines.wide

pub loop-band-init : goal.loop-band-init
loop-band-init g c =
    let view = c.args.view.now in
    let free : ℕ → ℕ → Bool = λ j i. g.V.View.passes view c.args.class (cell_at i j) in
    let words : ℕ = (g.V.View.extent view).w / 64 + 1 in
    let count : ℕ = (g.V.View.extent view).h / 32 + 1 in
    let before : LineTable = map_lines c.args.before.now in
    let met = c.bands_about-met.result in
    let few = c.bands_about-met.ensures in
    let tall : c.size.result.h / 32 + 1 ≡ count = ap (λ (s : Size). s.h / 32 + 1) c.size.ensures in
    let about : AreAbout Row c.args.rects.now count met.from met.to =
    λ n below out. few.about n (omega (arith, below, tall)) out in
    record {
      lines = c.in_ok-share_bands.ensures.lines free words
          (no_bits free words c.in_ok-lines.lines
          (c.in_ok-lines.ensures.words ∙ c.words.ensures ∙ c.requires.before.lines.wide) c.in_ok-lines.ensures.none)
          (λ b low high. rows_same free c.args.rects.now count words met.from met.to before c.requires.before about b
          (omega (arith, high, few.ordered, few.within, tall)) (λ from to. omega (arith, from, high)));
      stops = c.in_ok-share_bands.ensures.stops (ap length c.in_ok-lines.ensures.none)
          (λ b below. absurd (omega (arith, below)));
    }

pub returns-clause-lines : goal.returns-clause-lines
returns-clause-lines g c =
    let view = c.args.view.now in
    let free : ℕ → ℕ → Bool = λ j i. g.V.View.passes view c.args.class (cell_at i j) in
    let words : ℕ = (g.V.View.extent view).w / 64 + 1 in
    let count : ℕ = (g.V.View.extent view).h / 32 + 1 in
    let before : LineTable = map_lines c.args.before.now in
    let met = c.bands_about-met.result in
    let few = c.bands_about-met.ensures in
    let tall : c.size.result.h / 32 + 1 ≡ count = ap (λ (s : Size). s.h / 32 + 1) c.size.ensures in
    let about : AreAbout Row c.args.rects.now count met.from met.to =
    λ n below out. few.about n (omega (arith, below, tall)) out in
    let end : c.loop-band.band ≡ met.to = omega (arith, c.loop-band-test.false, c.loop-band.auto.band-end few.ordered) in
    subst (λ (n : ℕ). AreLines free n words (map_lines c.share_bands-2.new.lines)) tall
    (c.in_ok-share_bands-2.ensures.lines free words
    (subst (λ (b : ℕ). AreLines free b words (map_lines c.loop-band.lines)) end c.loop-band.invariant.lines)
    (λ b low high. rows_same free c.args.rects.now count words met.from met.to before c.requires.before about b
    (omega (arith, high, tall)) (λ from to. omega (arith, low, to))))

pub returns-clause-stops : goal.returns-clause-stops
returns-clause-stops g c =
    let count : ℕ = (g.V.View.extent c.args.view.now).h / 32 + 1 in
    let few = c.bands_about-met.ensures in
    let tall : c.size.result.h / 32 + 1 ≡ count = ap (λ (s : Size). s.h / 32 + 1) c.size.ensures in
    let end : c.loop-band.band ≡ c.bands_about-met.result.to =
    omega (arith, c.loop-band-test.false, c.loop-band.auto.band-end few.ordered) in
    subst (λ (n : ℕ). AreSameStops n c.args.before.now c.share_bands-2.new.lines) tall
    (c.in_ok-share_bands-2.ensures.stops
    (omega (arith, end, c.loop-band.invariant.lines.many, parts_many c.loop-band.lines 0))
    (subst (λ (b : ℕ). AreSameStops b c.args.before.now c.loop-band.lines) end c.loop-band.invariant.stops))
