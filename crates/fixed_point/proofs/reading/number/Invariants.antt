use Rattle.fixed_point.proofs.Digits.{Reads}
use Rattle.fixed_point.proofs.reading.number.Given as goal

abbrev pub invariant-loop-digit : goal.invariant-loop-digit
invariant-loop-digit l = Reads l.text l.digit-index l.number
