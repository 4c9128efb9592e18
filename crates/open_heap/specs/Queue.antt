-- The open list of a search: a finite map from keys to estimates.
use Rattle.std.specs.Prelude.{ℕ, ◌≡◌, ◌≤◌, Some}
use Rattle.std.specs.Ordering.{nat_cmp}
use Rattle.std.specs.FinMap as map
use Rattle.open_heap.specs.declared.entries.Entry.{Entry}

-- the keys of the list, each with its estimate
abbrev pub Queue : Type 0
Queue = map.FinMap nat_cmp ℕ

-- the list has the entry, and none of its entries has a lesser estimate
pub record IsLeast (queue : Queue) (entry : Entry) : Type 0 where
  pub present : map.get queue entry.key ≡ Some entry.estimate
  pub first : (key estimate : ℕ) → map.get queue key ≡ Some estimate → entry.estimate ≤ estimate
