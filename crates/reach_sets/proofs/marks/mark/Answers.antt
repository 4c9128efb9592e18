use Rattle.reach_sets.proofs.MarkLemmas.{marked_set}
use Rattle.reach_sets.proofs.marks.mark.Goals as goal

pub returns : goal.returns
returns c k = marked_set c.args.words.now c.args.place k c.requires
