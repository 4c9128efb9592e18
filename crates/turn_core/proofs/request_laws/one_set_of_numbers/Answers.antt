use Rattle.turn_core.proofs.Threads.{one_tally, one_relabelling}
use Rattle.turn_core.proofs.request_laws.one_set_of_numbers.Goals as goal

pub returns-clause-tallies : goal.returns-clause-tallies
returns-clause-tallies c = one_tally

pub returns-clause-relabelled : goal.returns-clause-relabelled
returns-clause-relabelled c = one_relabelling
