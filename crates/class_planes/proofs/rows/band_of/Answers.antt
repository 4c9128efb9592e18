use Rattle.std.proofs.Common.{ℕ, Bool, List, length, ◌≡◌, ◌+◌, ◌++◌, length, sym, ap, ◌∙◌, subst}
use Rattle.nav_types.specs.Cells.{cell_at}
use Rattle.class_planes.specs.inner.Lines.{IsBand}
use Rattle.class_planes.proofs.LineLemmas.{band_more}
use Rattle.class_planes.proofs.rows.band_of.Goals as goal

pub loop-k-preserved : goal.loop-k-preserved
loop-k-preserved g c =
    let view = c.args.view.now in
    let words : ℕ = length c.args.scratch.now in
    let free : ℕ → ℕ → Bool = λ j i. g.V.View.passes view c.args.class (cell_at i j) in
    let before : List ℕ = c.loop-k.band.items in
    let after : List ℕ = c.extend_from_slice.new.self.items in
    let stays : length c.read.new.self ≡ words = c.read.ensures.stays ∙ c.loop-k.invariant.wide in
    let appended : after ≡ before ++ c.line.result.now = c.in_ok-extend_from_slice.ensures.items in
    let line : before ++ c.line.result.now ≡ before ++ c.read.new.self = ap (λ (xs : List ℕ). before ++ xs)
    c.line.ensures in
    let whole : after ≡ before ++ c.read.new.self = appended ∙ line in
    record {
      wide = stays;
      band = subst (IsBand free c.args.first words (c.loop-k.k + 1)) (sym whole)
          (band_more free c.args.first words c.loop-k.k before c.read.new.self c.loop-k.invariant.band stays
          c.read.ensures.bits);
    }
