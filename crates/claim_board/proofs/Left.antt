-- A seat that draws one job after another comes to an end: each job is above those before.
use Rattle.std.proofs.Common.{◌≡◌, ℕ, suc, ◌+◌, ◌-◌, ◌<◌, ◌≤◌, List, [], ◌∷◌, ◌++◌, refl, sym, ap, subst, arith}
use Rattle.std.specs.Prelude.{All}
use Rattle.claim_board.specs.Boards.{Board, SeatState}

-- one more than the last number, and 0 where there is none
abbrev pub next_of : List ℕ → ℕ
next_of [] = 0
next_of (n ∷ []) = n + 1
next_of (n ∷ m ∷ ms) = next_of (m ∷ ms)

-- how many jobs are above the last that the seat drew
abbrev pub left_of : SeatState → ℕ
left_of seat = seat.board.jobs - next_of seat.drawn

next_of-push : (drawn : List ℕ) (job : ℕ) → next_of (drawn ++ job ∷ []) ≡ job + 1
next_of-push [] job = refl
next_of-push (n ∷ []) job = refl
next_of-push (n ∷ m ∷ ms) job = next_of-push (m ∷ ms) job

next_of-le : (drawn : List ℕ) (job : ℕ) → All (λ earlier. earlier < job) drawn → next_of drawn ≤ job
next_of-le [] job below = omega arith
next_of-le (n ∷ []) job below = omega (arith, below 0 0 (omega arith))
next_of-le (n ∷ m ∷ ms) job below = next_of-le (m ∷ ms) job (λ k d inside. below (suc k) d (omega arith))

-- after a job fewer are left
pub left_of-falls : (board : Board) (seat next : SeatState) (job : ℕ) → seat.board ≡ board → job < board.jobs → All (λ earlier. earlier < job) seat.drawn → next ≡ record seat { drawn = seat.drawn ++ job ∷ [] } → left_of next < left_of seat
left_of-falls board seat next job own below above is =
    let jobs : seat.board.jobs ≡ board.jobs = ap (λ (b : Board). b.jobs) own in
    subst (λ (s : SeatState). left_of s < left_of seat) (sym is) (omega (arith, next_of-push seat.drawn job, next_of-le seat.drawn job above))
