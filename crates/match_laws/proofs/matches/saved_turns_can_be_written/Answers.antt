use Rattle.match_laws.proofs.SavedLines.{saved_written}
use Rattle.match_laws.proofs.matches.saved_turns_can_be_written.Goals as goal

pub returns : goal.returns
returns c = saved_written
