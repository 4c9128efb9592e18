use Rattle.reach_sets.proofs.UniqueLemmas as unique
use Rattle.reach_sets.proofs.tables.one_table.Goals as goal

pub returns : goal.returns
returns c = unique.one_table
