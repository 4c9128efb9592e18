use Rattle.std.proofs.Common.{ℕ, ◌≡◌, ◌↔◌}
use Rattle.std.specs.Int.{bit_at}
use Rattle.navcell_grid.proofs.PatchCells.{DiffersBelow}
use Rattle.navcell_grid.proofs.patches.Patch.differs_in.Given as goal

-- the rows below row j are compared
abbrev pub invariant-loop-j : goal.invariant-loop-j
invariant-loop-j l = (k : ℕ) → (bit_at l.bits k ≡ 1) ↔ DiffersBelow k l.rect l.j l.self l.other
