-- Which places of a list of bits are passed over.
use Rattle.std.specs.Prelude.{ℕ, ◌≡◌, ◌<◌, ◌≤◌, List, length, slice_index}

-- for each place from one on the list has one from it on, before which no number has bits
pub record AreNextFrom (from : ℕ) (bits next : List ℕ) : Type 0 where
  pub each : length next ≡ length bits
  pub after : (place : ℕ) → from ≤ place → place < length bits → place ≤ slice_index next place
  pub none : (place k : ℕ) → from ≤ place → place ≤ k → k < slice_index next place → k < length bits
      → slice_index bits k ≡ 0

-- the same, for each place
abbrev pub AreNext : List ℕ → List ℕ → Type 0
AreNext bits next = AreNextFrom 0 bits next
