use Rattle.std.proofs.Common.{◌*◌, ◌^◌, ◌+◌, ◌%◌, bit_and, max, min, ap, ◌∙◌, arith}
use Rattle.std.specs.Int.{bit_at}
use Rattle.std.proofs.lemmas.Nat.Bits.{bit_at_or, bit_at_and}
use Rattle.class_planes.proofs.FillLemmas.{raised_low, raised_high}
use Rattle.class_planes.proofs.fills.spread_up.Goals as goal

pub returns-clause-low : goal.returns-clause-low
returns-clause-low c k below =
    let fill = c.args.fill in
    let raised = fill.bits * 2 ^ c.args.far % 18446744073709551616 in
    let none = raised_low fill.bits c.args.far k below c.requires in
    let both = bit_at_and fill.free raised k in
    let either = bit_at_or fill.bits (bit_and fill.free raised) k in
    omega (arith, none, both, either)

pub returns-clause-bits : goal.returns-clause-bits
returns-clause-bits c k below =
    let fill = c.args.fill in
    let raised = fill.bits * 2 ^ c.args.far % 18446744073709551616 in
    bit_at_or fill.bits (bit_and fill.free raised) (c.args.far + k)
    ∙ ap (max (bit_at fill.bits (c.args.far + k))) (bit_at_and fill.free raised (c.args.far + k)
    ∙ ap (min (bit_at fill.free (c.args.far + k))) (raised_high fill.bits c.args.far k below))

pub returns-clause-free : goal.returns-clause-free
returns-clause-free c k below =
    let fill = c.args.fill in
    let raised = fill.free * 2 ^ c.args.far % 18446744073709551616 in
    bit_at_and fill.free raised (c.args.far + k)
    ∙ ap (min (bit_at fill.free (c.args.far + k))) (raised_high fill.free c.args.far k below)
