-- Whether a call meets a fault, and counts that stay at their last value.
use Rattle.std.specs.Prelude.{ℕ, ◌+◌, ◌==◌, min, Bool, true, false, nat_lt, ◌&&◌, List, length, Result, Ok, Err}
use Rattle.io_edges.specs.declared.edges.WriteRefusal.{WriteRefusal}
use Rattle.io_edges.specs.declared.edges.WriteRefusal.TheVariants.{Failed, NoMemory}

-- the last value of a count, 2^64 - 1
abbrev pub last_count : ℕ
last_count = 18446744073709551615

-- the count after one more, which stays at its last value
abbrev pub raised : ℕ → ℕ
raised count = min (count + 1) last_count

-- the count of faults after a call that met a fault, or met none
abbrev pub faults_after : Bool → ℕ → ℕ
faults_after true faults = raised faults
faults_after false faults = faults

-- a read meets a fault where it fails
abbrev pub read_meets_fault : {E : Type 0} → Result ℕ E → Bool
read_meets_fault (Ok n) = false
read_meets_fault (Err e) = true

-- a write meets a fault where it fails, and where it takes nothing of a piece that is not empty
abbrev pub write_meets_fault : List ℕ → Result ℕ WriteRefusal → Bool
write_meets_fault piece (Ok n) = n == 0 && nat_lt 0 (length piece)
write_meets_fault piece (Err Failed) = true
write_meets_fault piece (Err NoMemory) = false
