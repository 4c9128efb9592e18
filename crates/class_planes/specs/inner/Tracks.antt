-- The lines of a map along one axis, and where the runs along them stop.
use Rattle.std.specs.Prelude.{ℕ, Bool, ◌+◌, ◌/◌}
use Rattle.nav_types.specs.declared.cells.Size.{Size}
use Rattle.nav_types.specs.declared.straights.Axis.{Axis}
use Rattle.nav_types.specs.declared.straights.Axis.TheVariants.{Row, Column}
use Rattle.nav_types.specs.declared.straights.Way.{Way}
use Rattle.nav_types.specs.Lines.{cell_on, side_along}
use Rattle.class_planes.specs.inner.Lines.{AreLines, LineTable, RowTable, free_cell}
use Rattle.class_planes.specs.inner.StopLines.{AreStops, map_lines, stops_along}

-- how many lines a map of this size has along the axis
abbrev pub line_count : Axis → Size → ℕ
line_count Row size = size.h
line_count Column size = size.w

-- so many lines of so many places with these free places, and the stops of the runs each way along them
pub record IsTrackOf (free : ℕ → ℕ → Bool) (count long : ℕ) (line_set : LineTable) : Type 0 where
  pub lines : AreLines free (count / 32 + 1) (long / 64 + 1) (map_lines line_set)
  pub stops : (way : Way) → AreStops way count (map_lines line_set) (stops_along way line_set)

-- the lines along the axis of the map whose rows these are
abbrev pub IsTrackAlong : Axis → RowTable → LineTable → Type 0
IsTrackAlong axis table line_set = IsTrackOf (λ n k. free_cell table (cell_on axis n k)) (line_count axis table.size)
    (side_along axis table.size) line_set
