use Rattle.std.proofs.Common.{◌≡◌, take}
use Rattle.std.specs.FinMap as map
use Rattle.obstruction_store.specs.inner.Paged.{entries_in}
use Rattle.obstruction_store.proofs.stores.Store.listed.Given as goal

-- the entries of the pages before `at` are listed
abbrev pub invariant-loop-at : goal.invariant-loop-at
invariant-loop-at l = l.all ≡ map.from_entries (entries_in (take l.at l.self-inside.pages))
