use Rattle.jump_search.proofs.OneNumber.{one_number}
use Rattle.jump_search.proofs.laws.one_opened_number.Goals as goal

pub returns : goal.returns
returns c = one_number
