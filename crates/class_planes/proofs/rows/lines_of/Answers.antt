use Rattle.std.proofs.Common.{◌+◌, ◌*◌, ◌/◌, Bool, ℕ, ◌∙◌, subst}
use Rattle.nav_types.specs.Cells.{cell_at}
use Rattle.class_planes.specs.inner.Lines.{IsBand}
use Rattle.class_planes.proofs.LineLemmas.{lines_more}
use Rattle.class_planes.proofs.rows.lines_of.Goals as goal

pub loop-band-preserved : goal.loop-band-preserved
loop-band-preserved g c =
    let view = c.args.view.now in
    let free : ℕ → ℕ → Bool = λ j i. g.V.View.passes view c.args.class (cell_at i j) in
    let words : ℕ = (g.V.View.extent view).w / 64 + 1 in
    record {
      room = c.band_of.ensures.stays ∙ c.loop-band.invariant.room;
      lines = lines_more free c.loop-band.band words c.loop-band.lines c.push.new.self
          c.in_ok-words.words.items c.loop-band.invariant.lines c.in_ok-push.ensures.words c.in_ok-push.ensures.bands
          (subst (λ n. IsBand free (32 * c.loop-band.band) n 32 c.in_ok-words.words.items) c.loop-band.invariant.room
          c.in_ok-words.ensures.band);
    }
