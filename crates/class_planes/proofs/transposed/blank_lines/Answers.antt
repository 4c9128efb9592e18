use Rattle.std.proofs.Common.{Bool, false, ℕ, ◌*◌, sym, ap, subst}
use Rattle.class_planes.specs.inner.Lines.{IsBand}
use Rattle.class_planes.proofs.LineLemmas.{lines_more}
use Rattle.class_planes.proofs.TurnLemmas.{blank_band}
use Rattle.class_planes.proofs.transposed.blank_lines.Goals as goal

pub loop-band-preserved : goal.loop-band-preserved
loop-band-preserved c =
    let none : ℕ → ℕ → Bool = λ n i. false in
    let band : ℕ = c.loop-band.band in
    let words : ℕ = c.args.words in
    lines_more none band words c.loop-band.lines c.push.new.self c.in_ok-zeros.zeros.items c.loop-band.invariant
    c.in_ok-push.ensures.words c.in_ok-push.ensures.bands
    (subst (IsBand none (32 * band) words 32) (sym (c.in_ok-zeros.ensures.items_if_clones_equal (λ y same. same)))
    (blank_band (32 * band) words (c.from-in-loop-band.result * words)
    (ap (λ (b : ℕ). b * words) c.from-in-loop-band.ensures)))
