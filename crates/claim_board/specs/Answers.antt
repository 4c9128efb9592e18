-- The two answers to a claim.
use Rattle.std.specs.Prelude.{ℕ}
use Rattle.claim_board.specs.Boards.{SeatState}
use Rattle.claim_board.specs.declared.claims.Drawn.{Drawn}
use Rattle.claim_board.specs.declared.claims.Drawn.TheVariants.{Job, Ended}

-- where the answer is a job, this holds of the job and of the seat after it
abbrev pub IfJob : Drawn → (ℕ → SeatState → Type 0) → Type 0
IfJob (Job job seat) Fact = Fact job seat
IfJob (Ended seat) Fact = Unit {0}

-- where the answer is that the seat has ended, this holds of the seat after it
abbrev pub IfEnded : Drawn → (SeatState → Type 0) → Type 0
IfEnded (Job job seat) Fact = Unit {0}
IfEnded (Ended seat) Fact = Fact seat
