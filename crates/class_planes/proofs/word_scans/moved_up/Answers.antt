use Rattle.std.proofs.Common.{◌∙◌, ap, get_or}
use Rattle.std.specs.Int.{bit_at}
use Rattle.std.proofs.lemmas.Nat.Bits.{bit_at-zero}
use Rattle.class_planes.proofs.WordLemmas.{up_bit, moved_low}
use Rattle.class_planes.proofs.word_scans.moved_up.Goals as goal

pub returns-clause-bits : goal.returns-clause-bits
returns-clause-bits c k below some =
    up_bit c.args.line.now c.args.w c.top_before.result k below some c.top_before.ensures.small c.top_before.ensures.bit

pub returns-clause-first : goal.returns-clause-first
returns-clause-first c first =
    moved_low (get_or c.args.line.now c.args.w 0) c.top_before.result
    ∙ ap (λ n. bit_at n 0) (c.top_before.ensures.none first) ∙ bit_at-zero 0
