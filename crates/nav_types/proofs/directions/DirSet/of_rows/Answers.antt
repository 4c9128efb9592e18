use Rattle.nav_types.proofs.DirSetLemmas.{rows_tell}
use Rattle.nav_types.proofs.directions.DirSet.of_rows.Goals as goal

pub returns : goal.returns
returns c = rows_tell c.args.north c.args.middle c.args.south
