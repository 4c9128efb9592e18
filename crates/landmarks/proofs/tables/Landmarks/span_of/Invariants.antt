use Rattle.std.proofs.Common.{ℕ, ◌≡◌, ◌<◌, get_or, length}
use Rattle.landmarks.proofs.tables.Landmarks.span_of.Given as goal

abbrev pub invariant-loop-table : goal.invariant-loop-table
invariant-loop-table l = (length l.least ≡ 8) × ((k : ℕ) → k < l.table → get_or l.least k 0 ≡ get_or l.numbers k 0)
