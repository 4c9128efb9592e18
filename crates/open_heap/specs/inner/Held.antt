-- What buckets have.
use Rattle.std.specs.Prelude.{ℕ, ◌+◌, ◌<◌, ◌^◌, length, vec_len, vec_capacity}
use Rattle.open_heap.specs.declared.buckets.Buckets.{Buckets}
use Rattle.open_heap.specs.declared.entries.Entry.{Entry}
use Rattle.open_heap.specs.inner.Buckets.{IsHeld}

-- the buckets have the entry
abbrev pub Holds : Buckets → Entry → Type 0
Holds buckets entry = IsHeld buckets.start buckets.reached buckets.later.items buckets.here.items entry

-- there is room for one more entry that waits in the bucket
pub record HasRoom (buckets : Buckets) (bucket : ℕ) : Type 0 where
  pub known : bucket < length buckets.heads.items
  pub few : length buckets.later.items + 1 < 2 ^ 32
  pub later : vec_len buckets.later < vec_capacity buckets.later
  pub here : vec_len buckets.later < vec_capacity buckets.here
