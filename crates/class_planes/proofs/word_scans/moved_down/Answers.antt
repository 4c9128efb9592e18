use Rattle.std.proofs.Common.{◌+◌, ◌*◌, ap, ◌∙◌, arith}
use Rattle.std.specs.Int.{bit_at}
use Rattle.class_planes.proofs.WordLemmas.{down_bit, of_word}
use Rattle.class_planes.proofs.word_scans.moved_down.Goals as goal

pub returns : goal.returns
returns c k below =
    let line = c.args.line.now in
    let fits = c.type_inv.line c.args.w in
    down_bit line c.args.w c.word_at.result k below (omega (arith, fits))
    (ap (λ n. bit_at n 0) c.word_at.ensures ∙ of_word line (c.args.w + 1) 0 (64 * c.args.w + 64) (omega arith)
    (omega arith))
