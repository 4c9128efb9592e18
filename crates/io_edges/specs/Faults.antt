-- The causes of faults, shown by counts.
use Rattle.std.specs.Prelude.{ℕ, ◌≡◌, ◌<◌, ◌≤◌, ◌⊎◌, List, length, Result, Ok, IsErr, IsErrOf}
use Rattle.io_edges.specs.declared.edges.WriteRefusal.{WriteRefusal}
use Rattle.io_edges.specs.declared.edges.WriteRefusal.TheVariants.{Failed}
use Rattle.io_edges.specs.Counts.{last_count}

-- the count of faults is higher, or stands at its last value
abbrev pub Rose : ℕ → ℕ → Type 0
Rose before now = (before < now) ⊎ (now ≡ last_count)

-- the count never falls, and a read fails only where it rose
pub record ReadHasCause {E : Type 0} (before now : ℕ) (result : Result ℕ E) : Type 0 where
  pub later : before ≤ now
  pub failed : IsErr result → Rose before now

-- the count never falls, and a write fails, or takes nothing of a piece that is not empty, only where it rose
pub record WriteHasCause (before now : ℕ) (piece : List ℕ) (result : Result ℕ WriteRefusal) : Type 0 where
  pub later : before ≤ now
  pub failed : IsErrOf result Failed → Rose before now
  pub nothing : result ≡ Ok 0 → 0 < length piece → Rose before now
