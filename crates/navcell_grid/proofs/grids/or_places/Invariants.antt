use Rattle.std.proofs.Common.{◌≡◌, ℕ, ◌+◌, ◌<◌, ◌≤◌, ◌⊎◌, get_or, length}
use Rattle.std.specs.Prelude.{bit_or}
use Rattle.navcell_grid.proofs.grids.or_places.Given as goal

-- the first places have the other bits, too, and all others are as before
abbrev pub invariant-loop-k : goal.invariant-loop-k
invariant-loop-k l = record {
  long : length l.cells ≡ length l.fn.cells;
  done : (k : ℕ) → k < l.k → get_or l.cells (l.to + k) 0 ≡ bit_or (get_or l.fn.cells (l.to + k) 0) (get_or l.fn.cells (l.from + k) 0);
  others : (p : ℕ) → (p < l.to) ⊎ (l.to + l.k ≤ p) → get_or l.cells p 0 ≡ get_or l.fn.cells p 0;
}
