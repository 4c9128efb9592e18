use Rattle.std.proofs.Common.{◌≡◌, ◌*◌, ◌-◌, ◌%◌, ◌^◌, ◌<◌, bit_and, ap, ◌∙◌, arith}
use Rattle.std.specs.Int.{bit_at}
use Rattle.std.proofs.Math.Pow.{pow-lt}
use Rattle.class_planes.proofs.WordLemmas.{mask_below, mask_above}
use Rattle.class_planes.proofs.word_scans.bits_before.Goals as goal

pub returns-clause-kept : goal.returns-clause-kept
returns-clause-kept c m below =
    let fits : 2 ^ c.args.k < 2 ^ 64 = pow-lt c.requires in
    let same : 1 * 2 ^ c.args.k % 18446744073709551616 ≡ 2 ^ c.args.k = omega (arith, fits) in
    ap (λ n. bit_at (bit_and c.args.word (n - 1)) m) same ∙ mask_below c.args.word c.args.k m below

pub returns-clause-none : goal.returns-clause-none
returns-clause-none c m above =
    let fits : 2 ^ c.args.k < 2 ^ 64 = pow-lt c.requires in
    let same : 1 * 2 ^ c.args.k % 18446744073709551616 ≡ 2 ^ c.args.k = omega (arith, fits) in
    ap (λ n. bit_at (bit_and c.args.word (n - 1)) m) same ∙ mask_above c.args.word c.args.k m above
