-- What contracts see of a board and of its seats.
use Rattle.std.specs.Prelude.{ℕ, Bool, List}
use Rattle.atomic_table.specs.Seated.{TableId}

-- Which board it is, and how many jobs it hands out. The jobs are the numbers below that.
pub record Board : Type 0 where
  pub word : TableId
  pub jobs : ℕ

-- A seat of a board: its share of the board, the jobs that it drew, in order, and whether it has ended, which
-- is that it drew a number which is no job.
pub record SeatState : Type 0 where
  pub board : Board
  pub share : ℕ
  pub drawn : List ℕ
  pub ended : Bool
