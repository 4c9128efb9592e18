use Rattle.pathserve.proofs.Stops as law
use Rattle.pathserve.proofs.laws.stop_is_not_taken.Goals as goal

pub returns-clause-no_stop : goal.returns-clause-no_stop
returns-clause-no_stop c = law.no_stop

pub returns-clause-later : goal.returns-clause-later
returns-clause-later c = law.bad_line_later

pub returns-clause-later_long : goal.returns-clause-later_long
returns-clause-later_long c = law.too_long_later
