use Rattle.fixed_point.proofs.PlaneTests.{Decides-is_up_to}
use Rattle.turn_core.proofs.FoundGoals.{on_map_decides, well_formed_decides}
use Rattle.turn_core.proofs.request_laws.tests_hold_where_they_should.Goals as goal

pub returns-clause-on_map : goal.returns-clause-on_map
returns-clause-on_map c = on_map_decides

pub returns-clause-up_to : goal.returns-clause-up_to
returns-clause-up_to c = Decides-is_up_to

pub returns-clause-well_formed : goal.returns-clause-well_formed
returns-clause-well_formed c = well_formed_decides
