use Rattle.fixed_point.proofs.Magnitudes.{magnitude_is}
use Rattle.fixed_point.proofs.reading.magnitude.Goals as goal

pub returns-clause-value : goal.returns-clause-value
returns-clause-value c =
    magnitude_is _ _ _ _ _ _ c.leading_digits.ensures.count c.split_at.ensures.front c.split_at.ensures.back
    c.in-Some.ensures.value c.in-Some-fraction_part.ensures.value
