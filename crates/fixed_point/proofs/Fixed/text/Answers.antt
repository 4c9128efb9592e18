use Rattle.std.proofs.Common.{length, decimal, ◌/◌, ◌%◌, arith, ap, length-append}
use Rattle.fixed_point.specs.Text.{fraction_text}
use Rattle.fixed_point.proofs.Canonical.{length_sign, length_whole, length_fraction_text}
use Rattle.fixed_point.proofs.Fixed.text.Goals as goal

pub push_whole-requires : goal.push_whole-requires
push_whole-requires c =
    omega (arith, length_sign _ _ c.of_sign-text.ensures, length_whole c.unsigned_abs-magnitude.result c.unsigned_abs-magnitude.ensures.bound)

pub push_fraction-requires-clause-room : goal.push_fraction-requires-clause-room
push_fraction-requires-clause-room c =
    omega (
      arith,
      length_sign _ _ c.of_sign-text.ensures,
      length_whole c.unsigned_abs-magnitude.result c.unsigned_abs-magnitude.ensures.bound,
      ap length c.push_whole.ensures,
      length-append c.of_sign-text.result (decimal (c.unsigned_abs-magnitude.result / 65536)),
    )

pub returns-clause-short : goal.returns-clause-short
returns-clause-short c =
    omega (
      arith,
      length_sign _ _ c.of_sign-text.ensures,
      length_whole c.unsigned_abs-magnitude.result c.unsigned_abs-magnitude.ensures.bound,
      ap length c.push_whole.ensures,
      length-append c.of_sign-text.result (decimal (c.unsigned_abs-magnitude.result / 65536)),
      ap length c.push_fraction.ensures,
      length-append c.push_whole.new.self (fraction_text (c.unsigned_abs-magnitude.result % 65536)),
      length_fraction_text (c.unsigned_abs-magnitude.result % 65536),
    )
