use Rattle.std.proofs.Common.{sym, subst}
use Rattle.path_service.specs.machine.Facts.{Facts}
use Rattle.path_service.proofs.machine.Keeping.{facts_at_opening}
use Rattle.turn_model.proofs.cores.Core.new.Goals as goal

pub invariant_of-result : goal.invariant_of-result
invariant_of-result c = subst Facts (sym c.in_ok-machine.ensures) (facts_at_opening c.args.map.now)
