use Rattle.match_laws.proofs.ServedJournals.{journal_told}
use Rattle.match_laws.proofs.served.journal_is_told.Goals as goal

pub returns : goal.returns
returns c bytes out served = journal_told bytes out served
