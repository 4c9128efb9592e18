use Rattle.chunk_regions.proofs.BitLemmas.{lowest_taken}
use Rattle.chunk_regions.proofs.spans.take_lowest.Goals as goal

pub returns-clause-set : goal.returns-clause-set
returns-clause-set c = (lowest_taken c.args.bits.now c.requires.some c.requires.few).set

pub returns-clause-lowest : goal.returns-clause-lowest
returns-clause-lowest c = (lowest_taken c.args.bits.now c.requires.some c.requires.few).lowest

pub returns-clause-taken : goal.returns-clause-taken
returns-clause-taken c = (lowest_taken c.args.bits.now c.requires.some c.requires.few).taken

pub returns-clause-others : goal.returns-clause-others
returns-clause-others c = (lowest_taken c.args.bits.now c.requires.some c.requires.few).others
