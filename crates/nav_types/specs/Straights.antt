-- Straight directions by their axis and their way, diagonal ones by both ways.
use Rattle.nav_types.specs.declared.directions.Dir.{Dir}
use Rattle.nav_types.specs.declared.directions.Dir.TheVariants.{N, E, S, W, NE, SE, SW, NW}
use Rattle.nav_types.specs.declared.straights.Axis.{Axis}
use Rattle.nav_types.specs.declared.straights.Axis.TheVariants.{Row, Column}
use Rattle.nav_types.specs.declared.straights.Way.{Way}
use Rattle.nav_types.specs.declared.straights.Way.TheVariants.{Up, Down}
use Rattle.nav_types.specs.declared.straights.Straight.{Straight}
use Rattle.nav_types.specs.declared.straights.Diagonal.{Diagonal}
use Rattle.nav_types.specs.declared.straights.Heading.{Heading}

-- the straight direction along an axis: up a row is east, up a column is north
abbrev pub along : Axis → Way → Dir
along Row Up = E
along Row Down = W
along Column Up = N
along Column Down = S

-- the diagonal direction that goes one way along the row and one way along the column
abbrev pub between : Way → Way → Dir
between Up Up = NE
between Up Down = SE
between Down Up = NW
between Down Down = SW

-- the direction of a straight one, of a diagonal one, and of either
abbrev pub straight_dir : Straight → Dir
straight_dir straight = along straight.axis straight.way

abbrev pub diagonal_dir : Diagonal → Dir
diagonal_dir diagonal = between diagonal.columns diagonal.rows

abbrev pub heading_dir : Heading → Dir
heading_dir (Heading.Straight straight) = straight_dir straight
heading_dir (Heading.Diagonal diagonal) = diagonal_dir diagonal
