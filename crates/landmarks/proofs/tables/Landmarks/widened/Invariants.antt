use Rattle.std.proofs.Common.{ℕ, ◌≡◌, ◌<◌, get_or, length}
use Rattle.std.specs.Prelude.{min, max}
use Rattle.landmarks.proofs.tables.Landmarks.widened.Given as goal

abbrev pub invariant-loop-table : goal.invariant-loop-table
invariant-loop-table l = (length l.least ≡ 8) × ((length l.greatest ≡ 8)
    × (((k : ℕ) → k < l.table → get_or l.least k 0 ≡ min (get_or l.span.least k 0) (get_or l.numbers k 0))
    × ((k : ℕ) → k < l.table → get_or l.greatest k 0 ≡ max (get_or l.span.greatest k 0) (get_or l.numbers k 0))))
