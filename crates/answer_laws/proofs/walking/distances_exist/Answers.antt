use Rattle.answer_laws.proofs.Distances.{distance}
use Rattle.answer_laws.proofs.walking.distances_exist.Goals as goal

pub returns : goal.returns
returns c = distance
