use Rattle.path_service.proofs.machine.Arriving.{arrives, arrives_alone}
use Rattle.turn_model.proofs.laws.each_journal_is_reached.Goals as goal

pub returns-clause-reached : goal.returns-clause-reached
returns-clause-reached c = arrives

pub returns-clause-each : goal.returns-clause-each
returns-clause-each c = arrives_alone
