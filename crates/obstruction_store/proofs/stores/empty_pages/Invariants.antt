use Rattle.std.proofs.Common.{◌≡◌, replicate}
use Rattle.std.specs.FinMap as map
use Rattle.obstruction_store.proofs.stores.empty_pages.Given as goal

-- so many empty pages are there
abbrev pub invariant-loop : goal.invariant-loop
invariant-loop l = l.pages ≡ replicate l.counter map.empty
