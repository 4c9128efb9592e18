-- The step that a finished table gives.
use Rattle.std.specs.Prelude.{ℕ, ◌≡◌, ◌+◌, ◌-◌, ◌<◌, ◌≤◌, List, slice_index, count_by, sum_by, if◌then◌else◌}
use Rattle.nav_types.specs.declared.cells.Size.{Size}
use Rattle.nav_types.specs.declared.directions.Dir.{Dir}
use Rattle.nav_types.specs.Directions.{step_cost, row_part, column_part}
use Rattle.flow_field.specs.inner.Marks.{free, is_reached, IsBesideSpot}
use Rattle.posts.specs.declared.notes.FlowSummary.{FlowSummary}

-- the mark at the place is that of a reached cell
pub record IsReached (marks : List ℕ) (at : ℕ) : Type 0 where
  pub some : 0 < slice_index marks at
  pub known : slice_index marks at < free

-- a step in the direction leads from the place to a reached one
abbrev pub IsReachedBeside : Size → List ℕ → ℕ → Dir → Type 0
IsReachedBeside size marks at dir = (ahead : ℕ) × (IsBesideSpot (size.w + 2) dir at ahead × IsReached marks ahead)

-- a step in the direction leads from the place to a reached one whose mark is less by the cost of the step, and the places
-- beside the step are reached, too
pub record LeadsNearer (size : Size) (marks : List ℕ) (at : ℕ) (dir : Dir) : Type 0 where
  pub ahead : ℕ
  pub to : IsBesideSpot (size.w + 2) dir at ahead
  pub nearer : IsReached marks ahead
  pub less : slice_index marks ahead + step_cost dir ≡ slice_index marks at
  pub row : IsReachedBeside size marks at (row_part dir)
  pub column : IsReachedBeside size marks at (column_part dir)

-- the distance that a mark stands for, 0 for the mark of a cell that is not reached
abbrev pub distance_of : ℕ → ℕ
distance_of mark = if is_reached mark then mark - 1 else 0

-- the numbers are those of the reached cells that these marks have: how many, the greatest distance, the sum
pub record IsSummaryOf (marks : List ℕ) (summary : FlowSummary) : Type 0 where
  pub cells : summary.cells ≡ count_by is_reached marks
  pub sum : summary.sum ≡ sum_by distance_of marks
  pub most : (at : ℕ) → IsReached marks at → slice_index marks at - 1 ≤ summary.farthest
  pub reached : 0 < summary.cells → (at : ℕ) × (IsReached marks at × (slice_index marks at - 1 ≡ summary.farthest))
  pub none : summary.cells ≡ 0 → summary.farthest ≡ 0
