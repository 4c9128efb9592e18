use Rattle.std.proofs.Common.{◌≡◌, ◌++◌, length}
use Rattle.navcell_grid.proofs.grids.copied.Given as goal

-- what is copied so far, and what is left
abbrev pub invariant-loop-rest : goal.invariant-loop-rest
invariant-loop-rest l = l.copy.items ++ l.rest ≡ l.fn.numbers

abbrev pub decreases-loop-rest : goal.decreases-loop-rest
decreases-loop-rest l = length l.rest
