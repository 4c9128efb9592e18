-- What a search rests on: the bound falls by at most what a step costs.
use Rattle.std.proofs.Common.{ℕ, zero, suc, ◌≡◌, ◌+◌, ◌*◌, ◌^◌, ◌<◌, ◌≤◌, Bool, List, [], ◌∷◌, IsTrue, max, refl, subst, ap, add-one, arith}
use Rattle.std.specs.Int.{abs_diff}
use Rattle.std.proofs.lemmas.List.Sums.{sum_by-cons}
use Rattle.nav_types.specs.declared.cells.Cell.{Cell}
use Rattle.nav_types.specs.declared.directions.Dir.{Dir}
use Rattle.nav_types.specs.declared.directions.Dir.TheVariants.{N, E, S, W, NE, SE, SW, NW}
use Rattle.nav_types.specs.Directions.{step_cost}
use Rattle.nav_types.specs.Walks.{Step, IsWalk, walk_cost}
use Rattle.landmarks.specs.declared.units.TheConstants.{UNIT_COST}
use Rattle.landmarks.specs.Landmarks.{Tables, AreGentle, number_of, most_apart, greatest_apart, landmark_bound}

-- ---- differences of numbers

further : (a b z d : ℕ) → abs_diff a b ≤ d → abs_diff a z ≤ abs_diff b z + d
further a b z d near = omega arith

greater : (g h x y d : ℕ) → g ≤ h + d → x ≤ y + d → max g x ≤ max h y + d
greater g h x y d first second = omega arith

apart_falls : (tables : Tables) (from next to : Cell) (d n : ℕ) → n ≤ 8
    → ((table : ℕ) → table < 8 → abs_diff (number_of tables from table) (number_of tables next table) ≤ d)
    → greatest_apart tables from to n ≤ greatest_apart tables next to n + d
apart_falls tables from next to d zero few near = omega arith
apart_falls tables from next to d (suc table) few near = greater
    (greatest_apart tables from to table) (greatest_apart tables next to table)
    (abs_diff (number_of tables from table) (number_of tables to table)) (abs_diff (number_of tables next table) (number_of tables to table)) d
    (apart_falls tables from next to d table (omega arith) near)
    (further (number_of tables from table) (number_of tables next table) (number_of tables to table) d (near table (omega arith)))

none_apart : (g x : ℕ) → g ≡ 0 → max g (abs_diff x x) ≡ 0
none_apart g x e = omega arith

apart_same : (tables : Tables) (cell : Cell) (n : ℕ) → greatest_apart tables cell cell n ≡ 0
apart_same tables cell zero = refl
apart_same tables cell (suc table) = none_apart (greatest_apart tables cell cell table) (number_of tables cell table) (apart_same tables cell table)

few_apart : (g x y : ℕ) → g < 65536 → x < 65536 → y < 65536 → max g (abs_diff x y) < 65536
few_apart g x y a b c = omega arith

apart_few : (tables : Tables) (from to : Cell) (n : ℕ) → n ≤ 8
    → ((cell : Cell) (table : ℕ) → table < 8 → number_of tables cell table < 65536) → greatest_apart tables from to n < 65536
apart_few tables from to zero below few = omega arith
apart_few tables from to (suc table) below few = few_apart (greatest_apart tables from to table) (number_of tables from table) (number_of tables to table)
    (apart_few tables from to table (omega arith) few) (few from table (omega arith)) (few to table (omega arith))

-- one table more
pub apart_more : (tables : Tables) (from to : Cell) (n : ℕ)
    → greatest_apart tables from to (n + 1) ≡ max (greatest_apart tables from to n) (abs_diff (number_of tables from n) (number_of tables to n))
apart_more tables from to n = ap (λ (k : ℕ). greatest_apart tables from to k) (add-one n)

small : (g : ℕ) → g < 65536 → UNIT_COST * g < 2 ^ 40
small g few = omega arith

-- ---- the laws

-- the units of a step cost no more than the step
pub units_cost : (dir : Dir) → UNIT_COST * most_apart dir ≤ step_cost dir
units_cost N = omega arith
units_cost E = omega arith
units_cost S = omega arith
units_cost W = omega arith
units_cost NE = omega arith
units_cost SE = omega arith
units_cost SW = omega arith
units_cost NW = omega arith

-- a step that is legal where fewer cells are passable
pub legal_before : (passes later : Cell → Bool) (dir : Dir) (a b : Cell) → ((cell : Cell) → IsTrue (later cell) → IsTrue (passes cell))
    → Step later dir a b → Step passes dir a b
legal_before passes later dir a b fewer step = record {
  leads = step.leads;
  start = fewer _ step.start;
  next = fewer _ step.next;
  side = fewer _ step.side;
  ahead = fewer _ step.ahead;
}

pub gentle_where_fewer_pass : (tables : Tables) (passes later : Cell → Bool) → AreGentle passes tables
    → ((cell : Cell) → IsTrue (later cell) → IsTrue (passes cell)) → AreGentle later tables
gentle_where_fewer_pass tables passes later gentle fewer = record {
  steps = λ dir from to table below step. gentle.steps dir from to table below (legal_before passes later dir from to fewer step);
  few = gentle.few;
}

pub costs_falls : (g h m cost : ℕ) → g ≤ h + m → UNIT_COST * m ≤ cost → UNIT_COST * g ≤ cost + UNIT_COST * h
costs_falls g h m cost less units = omega arith

pub bound_of_one_cell : (tables : Tables) (cell : Cell) → landmark_bound tables cell cell ≡ 0
unfolding landmark_bound
bound_of_one_cell tables cell = ap (λ (g : ℕ). UNIT_COST * g) (apart_same tables cell 8)

pub bound_falls : (tables : Tables) (passes later : Cell → Bool) (dir : Dir) (from next to : Cell) → AreGentle passes tables
    → ((cell : Cell) → IsTrue (later cell) → IsTrue (passes cell)) → Step later dir from next
    → landmark_bound tables from to ≤ step_cost dir + landmark_bound tables next to
unfolding landmark_bound
bound_falls tables passes later dir from next to gentle fewer step =
    let legal = legal_before passes later dir from next fewer step in
    costs_falls (greatest_apart tables from to 8) (greatest_apart tables next to 8) (most_apart dir) (step_cost dir)
    (apart_falls tables from next to (most_apart dir) 8 (omega arith) (λ table below. gentle.steps dir from next table below legal))
    (units_cost dir)

pub bound_of_walk : (tables : Tables) (passes later : Cell → Bool) (dirs : List Dir) (from to : Cell) → AreGentle passes tables
    → ((cell : Cell) → IsTrue (later cell) → IsTrue (passes cell)) → IsWalk later from dirs to
    → landmark_bound tables from to ≤ walk_cost dirs
bound_of_walk tables passes later [] from to gentle fewer walk =
    let same = subst (λ (cell : Cell). landmark_bound tables from cell ≡ 0) walk (bound_of_one_cell tables from) in
    omega (arith, same)
bound_of_walk tables passes later (dir ∷ dirs) from to gentle fewer walk =
    let first = bound_falls tables passes later dir from walk.0 to gentle fewer walk.1.0 in
    let rest = bound_of_walk tables passes later dirs walk.0 to gentle fewer walk.1.1 in
    omega (arith, first, rest, sum_by-cons step_cost dir dirs)

pub bound_is_small : (tables : Tables) (passes : Cell → Bool) (from to : Cell) → AreGentle passes tables
    → landmark_bound tables from to < 2 ^ 40
unfolding landmark_bound
bound_is_small tables passes from to gentle = small (greatest_apart tables from to 8) (apart_few tables from to 8 (omega arith) gentle.few)
