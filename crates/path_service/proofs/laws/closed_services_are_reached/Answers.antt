use Rattle.path_service.proofs.ReachedServices.{reached}
use Rattle.path_service.proofs.laws.closed_services_are_reached.Goals as goal

pub returns : goal.returns
returns c = reached
