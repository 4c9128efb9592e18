use Rattle.match_laws.proofs.GoingOn.{goes_on}
use Rattle.match_laws.proofs.matches.further_turns.Goals as goal

pub returns : goal.returns
returns c = goes_on
