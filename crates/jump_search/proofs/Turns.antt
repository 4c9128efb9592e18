-- How one direction lies to another, and which steps lead where two others do.
use Rattle.std.proofs.Common.{◌≡◌, ◌+◌, ◌≤◌, ◌⊎◌, true, false, inl, inr, cond, arith}
use Rattle.nav_types.specs.declared.cells.Cell.{Cell}
use Rattle.nav_types.specs.declared.directions.Dir.{Dir}
use Rattle.nav_types.specs.Directions.{east, west, north, south, is_straight, opposite, row_part, column_part}
use Rattle.nav_types.specs.Directions.{step_cost, Leads}
use Rattle.jump_scan.specs.declared.turns.Side.{Side}
use Rattle.jump_scan.specs.declared.turns.Side.TheVariants.{Left, Right}
use Rattle.jump_scan.specs.Turns.{ahead_to, aside_to, IsTurn}
use Rattle.jump_scan.proofs.Turning.{behind_to}

-- an eighth, a quarter or three eighths of a turn to the side
abbrev IsToSide : Side → Dir → Dir → Type 0
IsToSide side first second = IsTurn side first second ⊎ (second ≡ behind_to side first)

-- a direction goes on as another, back, or to a side of it
abbrev pub LiesTo : Dir → Dir → Type 0
LiesTo first second = (second ≡ first) ⊎ ((second ≡ opposite first) ⊎ ((side : Side) × IsToSide side first second))

-- the same, with each side by its name
abbrev LiesAround : Dir → Dir → Type 0
LiesAround first second =
    (second ≡ first) ⊎ ((second ≡ opposite first) ⊎ (IsToSide Left first second ⊎ IsToSide Right first second))

to_some_side : (first second : Dir) → LiesAround first second → LiesTo first second
to_some_side first second (inl on) = inl on
to_some_side first second (inr (inl back)) = inr (inl back)
to_some_side first second (inr (inr (inl left))) = inr (inr (Left, left))
to_some_side first second (inr (inr (inr right))) = inr (inr (Right, right))

pub lies_to : (first second : Dir) → LiesTo first second
lies_to first second = to_some_side first second (grind arith)

-- a step in one direction and a step in the next go as far as a step in the third
abbrev pub AddsTo : Dir → Dir → Dir → Type 0
AddsTo one two sum = ((east one + east two) + west sum ≡ (west one + west two) + east sum)
    × ((north one + north two) + south sum ≡ (south one + south two) + north sum)

pub leads_both : (one two sum : Dir) → AddsTo one two sum → (a b c : Cell) → Leads one a b → Leads two b c
    → Leads sum a c
leads_both one two sum adds a b c here there = grind arith

-- after a step in the second, a step in the first ends where one in the third does
pub leads_rest : (one two sum : Dir) → AddsTo one two sum → (a b c : Cell) → Leads two a b → Leads sum a c
    → Leads one b c
leads_rest one two sum adds a b c here all = grind arith

-- a turn of three eighths ends where one straight step leads: aside of a straight direction, ahead of a diagonal one
pub adds_behind : (side : Side) (dir : Dir)
    → (sum : Dir) × ((is_straight sum ≡ true) × AddsTo dir (behind_to side dir) sum)
adds_behind side dir = (cond (is_straight dir) (aside_to side dir) (ahead_to side dir), grind arith)

-- Beside a straight direction the one ahead to a side is diagonal: it goes as far as the direction and the one aside,
-- which are its parts.
pub record TurnsStraight (side : Side) (dir : Dir) : Type 0 where
  pub adds : AddsTo dir (aside_to side dir) (ahead_to side dir)
  pub diagonal : is_straight (ahead_to side dir) ≡ false
  pub parts : ((row_part (ahead_to side dir) ≡ dir) × (column_part (ahead_to side dir) ≡ aside_to side dir))
      ⊎ ((row_part (ahead_to side dir) ≡ aside_to side dir) × (column_part (ahead_to side dir) ≡ dir))

pub turns_straight : (side : Side) (dir : Dir) → is_straight dir ≡ true → TurnsStraight side dir
turns_straight side dir straight = grind arith

-- Beside a diagonal direction the one ahead to a side is one of its parts, and two steps of that go as far as the
-- direction and then the one aside.
pub record TurnsDiagonal (side : Side) (dir : Dir) : Type 0 where
  pub straight : is_straight (ahead_to side dir) ≡ true
  pub part : (ahead_to side dir ≡ row_part dir) ⊎ (ahead_to side dir ≡ column_part dir)
  pub rest : Dir
  pub sums : AddsTo rest (ahead_to side dir) dir × AddsTo rest (aside_to side dir) (ahead_to side dir)

pub turns_diagonal : (side : Side) (dir : Dir) → is_straight dir ≡ false → TurnsDiagonal side dir
turns_diagonal side dir diagonal = record {
  straight = grind arith;
  part = grind arith;
  rest = opposite (behind_to side dir);
  sums = grind arith;
}

-- what steps cost
pub straight_cost : (dir : Dir) → is_straight dir ≡ true → step_cost dir ≡ 65536
straight_cost dir straight = grind arith

pub diagonal_cost : (dir : Dir) → is_straight dir ≡ false → step_cost dir ≡ 92682
diagonal_cost dir diagonal = grind arith

pub least_step_cost : (dir : Dir) → 65536 ≤ step_cost dir
least_step_cost dir = grind arith
