-- Entries by buckets of estimates.
use Rattle.std.specs.Prelude.{ℕ, ◌≡◌, ◌≢◌, ◌+◌, ◌-◌, ◌/◌, ◌<◌, ◌≤◌, ◌⊎◌, List, [], ◌∷◌, length, Option, None, Some, Contains}
use Rattle.std.specs.Prelude.{slice_get, slice_index, slice_index_or}
use Rattle.std.specs.FinMap as map
use Rattle.open_heap.specs.declared.buckets.Waiting.{Waiting}
use Rattle.open_heap.specs.declared.entries.Entry.{Entry}
use Rattle.open_heap.specs.Queue.{Queue}

-- the keys from the number on that have an estimate, each with it
abbrev pub entries_from : ℕ → List (Option ℕ) → List (ℕ × ℕ)
entries_from key [] = []
entries_from key (None ∷ rest) = entries_from (key + 1) rest
entries_from key (Some estimate ∷ rest) = (key, estimate) ∷ entries_from (key + 1) rest

-- the keys that have an estimate in the table, each with it
unfoldable pub queue_of : List (Option ℕ) → Queue
queue_of table = map.from_entries (entries_from 0 table)

-- what stands at a place, where there is one
abbrev pub estimate_in : Option (Option ℕ) → Option ℕ
estimate_in None = None
estimate_in (Some estimate) = estimate

-- the estimate that the key has in the table
abbrev pub estimate_at : List (Option ℕ) → ℕ → Option ℕ
estimate_at table key = estimate_in (slice_get table key)

-- the entry is its key's: it has the key's estimate
abbrev pub IsLive : List (Option ℕ) → Entry → Type 0
IsLive table entry = estimate_at table entry.key ≡ Some entry.estimate

-- the bucket of an estimate, where buckets are counted from the start
abbrev pub bucket_of : ℕ → ℕ → ℕ
bucket_of start estimate = (estimate - start) / 16384

-- what waits, as an entry
abbrev pub entry_of : Waiting → Entry
entry_of waiting = record { estimate = waiting.estimate; key = waiting.key }

-- each entry's estimate is at most those before it
abbrev pub AreFalling : List Entry → Type 0
AreFalling entries = (i j : ℕ) (d : Entry) → i ≤ j → j < length entries
    → (slice_index_or entries j d).estimate ≤ (slice_index_or entries i d).estimate

-- `end` is one more than the number of the last of the bucket before the number `bound`; 0 for none
pub record IsLastOf (start : ℕ) (later : List Waiting) (bucket bound end : ℕ) : Type 0 where
  pub within : end ≤ bound
  pub here : (number : ℕ) (waiting : Waiting) → number + 1 ≡ end → slice_get later number ≡ Some waiting
      → bucket_of start waiting.estimate ≡ bucket
  pub past : (number : ℕ) (waiting : Waiting) → end ≤ number → number < bound → slice_get later number ≡ Some waiting
      → bucket_of start waiting.estimate ≢ bucket

-- each that waits is linked to the last one before it of its bucket
abbrev pub AreLinked : ℕ → List Waiting → Type 0
AreLinked start later = (number : ℕ) (waiting : Waiting) → slice_get later number ≡ Some waiting
    → IsLastOf start later (bucket_of start waiting.estimate) number waiting.next

-- The entries of buckets that have been reached fall, and there is room there for all of a later bucket. Each bucket
-- leads to the last of its own, and that to the one before it, and so on.
pub record AreBuckets (start reached : ℕ) (heads : List ℕ) (later : List Waiting) (here : List Entry) (most : ℕ) : Type 0
  where
    pub room : length later ≤ most
    pub falling : AreFalling here
    pub low : (entry : Entry) → Contains here entry → bucket_of start entry.estimate < reached
    pub lasts : (bucket : ℕ) → IsLastOf start later bucket (length later) (slice_index heads bucket)
    pub links : AreLinked start later

-- the entry waits in a bucket that has not been reached
pub record IsWaiting (start reached : ℕ) (later : List Waiting) (entry : Entry) : Type 0 where
  pub number : ℕ
  pub waiting : Waiting
  pub known : slice_get later number ≡ Some waiting
  pub same : entry_of waiting ≡ entry
  pub ahead : reached ≤ bucket_of start entry.estimate

-- the buckets have the entry
abbrev pub IsHeld : ℕ → ℕ → List Waiting → List Entry → Entry → Type 0
IsHeld start reached later here entry = Contains here entry ⊎ IsWaiting start reached later entry

-- a bucket's last, with all links
pub record IsChain (start : ℕ) (later : List Waiting) (bucket end : ℕ) : Type 0 where
  pub last : IsLastOf start later bucket (length later) end
  pub links : AreLinked start later

-- entries with all of a bucket
pub record AreGathered (start : ℕ) (later : List Waiting) (bucket : ℕ) (old new : List Entry) : Type 0 where
  pub all : (number : ℕ) (waiting : Waiting) → slice_get later number ≡ Some waiting
      → bucket_of start waiting.estimate ≡ bucket → Contains new (entry_of waiting)
  pub only : (entry : Entry) → Contains new entry → Contains old entry ⊎ (bucket_of start entry.estimate ≡ bucket)

-- an open list with so many keys has an entry for each key of the table
pub record HasEach (count start reached : ℕ) (later : List Waiting) (here : List Entry) (table : List (Option ℕ)) : Type 0
  where
    pub counted : count ≡ map.len (queue_of table)
    pub held : (entry : Entry) → IsLive table entry → IsHeld start reached later here entry
