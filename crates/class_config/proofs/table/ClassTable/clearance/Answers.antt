use Rattle.class_config.proofs.ClassLists.{is_clearance-is_class}
use Rattle.class_config.proofs.table.ClassTable.clearance.Goals as goal

pub returns-clause-within : goal.returns-clause-within
returns-clause-within c = is_clearance-is_class c.at.result.now c.at.ensures.kept
