-- The rule of the claim word. The word is the next number to be drawn, and a view is what one seat knows.
-- A drawn number below the number of jobs is a job. Any other is a miss, and ends the seat that drew it.
use Rattle.std.specs.Prelude.{◌≡◌, ℕ, ◌+◌, ◌-◌, ◌/◌, ◌^◌, ◌<◌, ◌≤◌, true, false, ◌||◌, List, [], ◌∷◌, ◌++◌, length, slice_index, All, filter, count_by, sum_by, ◌==◌, nat_lt, nat_le, if◌then◌else◌}
use mathlib.Core.Option.{some}
use lib.ListN.{get_elem?}
use Rattle.atomic_table.specs.Table.{State, Me}
use Rattle.atomic_table.specs.Seated.{TableId}
use Rattle.claim_board.specs.Boards.{SeatState}
use Rattle.claim_board.specs.declared.claims.TheConstants.{WHOLE_SHARE}
use Rattle.claim_board.specs.declared.rule.SeatView.{SeatView}

-- how often a number stands in the list
abbrev pub times : ℕ → List ℕ → ℕ
times n numbers = count_by (λ m. m == n) numbers

-- 1 for a number below the bound, and 0 for any other
abbrev pub once_below : ℕ → ℕ → ℕ
once_below n bound = if nat_lt n bound then 1 else 0

-- the jobs among the drawn numbers
abbrev pub jobs_among : ℕ → List ℕ → List ℕ
jobs_among jobs drawn = filter (λ n. nat_lt n jobs) drawn

-- how many of the drawn numbers are no job
abbrev pub misses : ℕ → List ℕ → ℕ
misses jobs drawn = count_by (λ n. nat_le jobs n) drawn

-- the share of a view that may still draw
abbrev pub open_credit : SeatView → ℕ
open_credit v = if v.ended then 0 else v.share

-- an amount of each view, added up over all views
abbrev pub total : (SeatView → ℕ) → List SeatView → ℕ
total amount views = sum_by amount views

-- What contracts see of a seat: its list is what it drew without the misses.
abbrev pub seat_state : TableId → SeatView → SeatState
seat_state word v = record {
  board = record { word = word; jobs = v.jobs };
  share = v.share;
  drawn = jobs_among v.jobs v.drawn;
  ended = v.ended;
}

-- The start: the whole share, and nothing drawn.
abbrev pub first_view : ℕ → SeatView
first_view jobs = record { share = WHOLE_SHARE; jobs = jobs; drawn = []; ended = false }

-- The split: the share is halved, the greater half stays with the first, and so do the drawn numbers.
abbrev pub first_half : SeatView → SeatView
first_half v = record v { share = v.share - v.share / 2 }

abbrev pub second_half : SeatView → SeatView
second_half v = record v { share = v.share / 2; drawn = [] }

-- The fetch-add: the number found joins the drawn ones, and ends the view where it is no job.
abbrev pub after_draw : SeatView → ℕ → SeatView
after_draw v n = record v { drawn = v.drawn ++ n ∷ []; ended = nat_le v.jobs n }

-- What a fetch-add tells: the number that was found joins the seat's, and is above each job that the seat had drawn.
abbrev pub Draws : Me (Unit {0}) SeatView → ℕ → Me (Unit {0}) SeatView → Type 0
Draws before n after = (after ≡ (after_draw before.0 n, before.1))
    × All (λ job. job < n) (jobs_among before.0.jobs before.0.drawn)

-- The join: credits are added, drawn numbers put together, and the view has ended where either had. The other is spent.
abbrev pub joined : SeatView → SeatView → SeatView
joined v w = record {
  share = v.share + w.share;
  jobs = v.jobs;
  drawn = v.drawn ++ w.drawn;
  ended = v.ended || w.ended;
}

abbrev pub spent_view : SeatView
spent_view = record { share = 0; jobs = 0; drawn = []; ended = false }

-- What holds of each view. One with a share of 1 or more is live, and any other is spent.
-- A live view knows the number of jobs. A spent one has no numbers. Where a view has ended, the word is above the
-- number of jobs.
pub record FitsSeat (jobs word : ℕ) (v : SeatView) : Type 0 where
  pub told : 0 < v.share → v.jobs ≡ jobs
  pub spent : v.share ≡ 0 → v.drawn ≡ []
  pub ended : v.ended ≡ true → jobs < word

-- The rule. The credits add up to the whole. The numbers below the word were drawn, each once, and no others.
-- A miss ends a view, whose share is then of no more use: so the misses, and the share of the views that may still
-- draw, are at most the whole share. The word is at most the jobs and the misses together, and so never wraps.
pub record KeepsBoard (jobs : ℕ) (s : State (Unit {0}) SeatView) : Type 0 where
  pub one : length s.words ≡ 1
  pub few : jobs < 2 ^ 32
  pub share : total (λ v. v.share) s.views ≡ WHOLE_SHARE
  pub once : (n : ℕ) → total (λ v. times n v.drawn) s.views ≡ once_below n (slice_index s.words 0)
  pub room : total (λ v. misses jobs v.drawn + open_credit v) s.views ≤ WHOLE_SHARE
  pub reach : slice_index s.words 0 ≤ jobs + total (λ v. misses jobs v.drawn) s.views
  pub fits : (place : ℕ) (v : SeatView) → get_elem? s.views place ≡ some v → FitsSeat jobs (slice_index s.words 0) v
