use Rattle.match_laws.proofs.SavedReplies.{saved_told}
use Rattle.match_laws.proofs.matches.saved_obstructions_are_added.Goals as goal

pub returns : goal.returns
returns c = saved_told
