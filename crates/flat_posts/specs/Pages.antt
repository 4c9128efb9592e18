-- Pages: a part of a list in a buffer.
use Rattle.std.specs.Prelude.{ℕ, ◌-◌, ◌≡◌, ◌++◌, List, length, min, take, drop}

-- so many items stand at the head of the buffer: those of a list from the place `first` on, as many as there are and as
-- the buffer holds; and behind them is what was there
pub record IsPage {A : Type 0} (first : ℕ) (all old new : List A) (count : ℕ) : Type 0 where
  pub many : count ≡ min (length old) (length all - first)
  pub items : new ≡ take count (drop first all) ++ drop count old
