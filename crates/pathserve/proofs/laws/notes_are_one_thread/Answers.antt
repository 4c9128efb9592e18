use Rattle.pathserve.proofs.OneThread as law
use Rattle.pathserve.proofs.laws.notes_are_one_thread.Goals as goal

pub returns-clause-told : goal.returns-clause-told
returns-clause-told c = law.notes_told

pub returns-clause-text : goal.returns-clause-text
returns-clause-text c = law.notes_give
