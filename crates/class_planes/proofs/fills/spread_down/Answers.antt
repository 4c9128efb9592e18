use Rattle.std.proofs.Common.{◌^◌, ◌/◌, bit_and, max, min, ap, ◌∙◌}
use Rattle.std.specs.Int.{bit_at}
use Rattle.std.proofs.lemmas.Nat.Bits.{bit_at_or, bit_at_and}
use Rattle.nav_types.proofs.Bits.{bit_at-shr}
use Rattle.class_planes.proofs.fills.spread_down.Goals as goal

pub returns-clause-bits : goal.returns-clause-bits
returns-clause-bits c k =
    let fill = c.args.fill in
    bit_at_or fill.bits (bit_and fill.free (fill.bits / 2 ^ c.args.far)) k
    ∙ ap (max (bit_at fill.bits k)) (bit_at_and fill.free (fill.bits / 2 ^ c.args.far) k
    ∙ ap (min (bit_at fill.free k)) (bit_at-shr fill.bits c.args.far k))

pub returns-clause-free : goal.returns-clause-free
returns-clause-free c k =
    let fill = c.args.fill in
    bit_at_and fill.free (fill.free / 2 ^ c.args.far) k
    ∙ ap (min (bit_at fill.free k)) (bit_at-shr fill.free c.args.far k)
