use Rattle.std.proofs.Common.{rules}
use Rattle.obstruction_store.proofs.Paging.{set_same}
use Rattle.obstruction_store.proofs.owned_pages.add_on.Goals as goal

pub returns-in-Some-Err-clause-kept : goal.returns-in-Some-Err-clause-kept
returns-in-Some-Err-clause-kept c = search (rules, set_same)
