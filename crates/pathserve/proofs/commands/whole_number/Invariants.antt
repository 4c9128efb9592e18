use Rattle.fixed_point.proofs.Digits.{Reads}
use Rattle.pathserve.proofs.commands.whole_number.Given as goal

abbrev pub invariant-loop-digit : goal.invariant-loop-digit
invariant-loop-digit l = Reads l.word l.digit-index l.number
