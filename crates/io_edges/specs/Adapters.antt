-- What is told of a source over a reader of std, and of a sink over a writer of std.
use Rattle.std.specs.Prelude.{ℕ, ◌-◌, List, length, take, Option, option_map}

-- the bytes left in a source or kept by a sink, where std tells them, and the count of faults
pub record Known : Type 0 where
  pub bytes : Option (List ℕ)
  pub faults : ℕ

-- known bytes without the last ones, so many, which are in doubt
abbrev pub undoubted : Option (List ℕ) → ℕ → Option (List ℕ)
undoubted known doubtful = option_map (λ bytes. take (length bytes - doubtful) bytes) known
