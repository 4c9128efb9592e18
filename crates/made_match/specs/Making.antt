-- The match that a number makes: a map and a journal, drawn one thing after another. Lengths and coordinates are raw:
-- 65536 are one navcell.
use Rattle.std.specs.Prelude.{ℕ, zero, suc, ◌+◌, ◌-◌, ◌*◌, ◌/◌, ◌%◌, ◌^◌, ◌==◌, ◌&&◌, List, [], ◌∷◌, ◌++◌, map, min, pos, if◌then◌else◌, codes, decimal, slice_index_or}
use Rattle.std.proofs.Common.{leb-true, refl}
use Rattle.nav_types.specs.declared.limits.TheConstants.{MAX_SIDE}
use Rattle.nav_types.specs.Side.{IsSide}
use Rattle.nav_types.specs.declared.cells.Rect.{Rect}
use Rattle.nav_types.specs.declared.cells.Size.{Size}
use Rattle.fixed_point.specs.declared.plane.Rectangle.{Rectangle}
use Rattle.class_config.specs.declared.table.PassabilityClass.{PassabilityClass}
use Rattle.obstruction_shapes.specs.declared.shapes.Shape.{Shape}
use Rattle.obstruction_shapes.specs.declared.shapes.Shape.TheVariants as shape
use Rattle.goal_shapes.specs.declared.goals.Goal.{Goal}
use Rattle.goal_shapes.specs.declared.goals.Goal.TheVariants as goal
use Rattle.goal_shapes.specs.declared.goals.GoalSpec.TheVariants.{Plain}
use Rattle.posts.specs.declared.edits.Edit.TheVariants.{Add, Remove}
use Rattle.posts.specs.declared.posts.Post.{Post}
use Rattle.posts.specs.declared.posts.Post.TheVariants.{Edit as Editing, Ask as Asking}
use Rattle.posts.specs.declared.posts.PathRequest.{PathRequest}
use Rattle.posts.specs.declared.posts.Request.TheVariants.{Path as AsksPath}
use Rattle.posts.specs.Maps.{Map}

-- ---- draws

-- what was drawn, and the generator's state behind it
pub record Draw (A : Type 0) : Type 0 where
  pub value : A
  pub state : ℕ

abbrev pub drawn : {A : Type 0} → A → ℕ → Draw A
drawn value state = record { value = value; state = state }

-- the generator's next state
abbrev pub next_state : ℕ → ℕ
next_state state = (state * 6364136223846793005 + 1442695040888963407) % 2 ^ 64

-- a number below `count`: the generator goes to its next state, and the upper 31 bits of that are taken modulo `count`
unfoldable pub draw : ℕ → ℕ → Draw ℕ
draw count state = drawn (next_state state / 2 ^ 33 % count) (next_state state)

-- the things of the numbers below `count`, drawn one after another
unfoldable pub draw_each : {A : Type 0} → (ℕ → ℕ → Draw A) → ℕ → ℕ → Draw (List A)
draw_each thing zero state = drawn [] state
draw_each thing (suc count) state =
    let before = draw_each thing count state in
    let last = thing count before.state in
    drawn (before.value ++ last.value ∷ []) last.state

-- with one chance in four the thing, which is drawn after the chance, and else nothing
unfoldable pub one_in_four : {A : Type 0} → (ℕ → Draw A) → ℕ → Draw (List A)
one_in_four thing state =
    let chance = draw 4 state in
    let one = thing chance.state in
    if chance.value == 0 then drawn (one.value ∷ []) one.state else drawn [] chance.state

-- ---- places and shapes

-- a point of the map, which has 512 navcells a side: its x, then its z
unfoldable pub draw_point : ℕ → Draw (ℕ × ℕ)
draw_point state =
    let x = draw (512 * 65536) state in
    let z = draw (512 * 65536) x.state in
    drawn (x.value, z.value) z.state

-- a coordinate of the map that is up to 64 navcells less, or less than 64 more, than another: what lies outside the map
-- is moved to its nearest coordinate
unfoldable pub draw_near : ℕ → ℕ → Draw ℕ
draw_near coordinate state =
    let offset = draw (128 * 65536) state in
    drawn (min (coordinate + offset.value - 64 * 65536) (512 * 65536 - 1)) offset.state

-- a point of the map near another: its x, then its z
unfoldable pub draw_point_near : ℕ × ℕ → ℕ → Draw (ℕ × ℕ)
draw_point_near point state =
    let x = draw_near point.0 state in
    let z = draw_near point.1 x.state in
    drawn (x.value, z.value) z.state

-- the unit vectors along which rectangles lie
abbrev pub unit_vectors : List (ℕ × ℕ)
unit_vectors = (65536, 0) ∷ (46341, 46341) ∷ (56756, 32768) ∷ (32768, 56756) ∷ []

-- a rectangle about a point, whose half sides are from `least` on and less than 10 navcells longer: its unit vector, then
-- its half side along it, then that across it
unfoldable pub draw_rectangle : ℕ × ℕ → ℕ → ℕ → Draw Rectangle
draw_rectangle middle least state =
    let direction = draw 4 state in
    let along = draw (10 * 65536) direction.state in
    let across = draw (10 * 65536) along.state in
    let vector = slice_index_or unit_vectors direction.value (0, 0) in
    drawn (record {
      x = pos middle.0;
      z = pos middle.1;
      ux = pos vector.0;
      uz = pos vector.1;
      hw = pos (least + along.value);
      hh = pos (least + across.value);
    }) across.state

-- ---- posts

-- a square along the axes of the map: its middle, then its half side, from half a navcell on and less than 2 longer
unfoldable pub draw_unit : ℕ → Draw Shape
draw_unit state =
    let middle = draw_point state in
    let half = draw (2 * 65536) middle.state in
    drawn (shape.Unit (pos middle.value.0) (pos middle.value.1) (pos (32768 + half.value))) half.state

-- a turned rectangle: its middle, then its vector and half sides, from one navcell on
unfoldable pub draw_square : ℕ → Draw Shape
draw_square state =
    let middle = draw_point state in
    let rectangle = draw_rectangle middle.value 65536 middle.state in
    drawn (shape.Square rectangle.value) rectangle.state

-- the add of a shape, which blocks every class
abbrev pub add_of : ℕ → Shape → Post
add_of id standing = Editing (Add id (record { shape = standing; mask = 65535 }))

-- what a caller posts in the first turn under its n-th number: the add of a unit where n is even, else of a square
unfoldable pub draw_first_post : ℕ → ℕ → ℕ → Draw Post
draw_first_post caller n state =
    let one = if n % 2 == 0 then draw_unit state else draw_square state in
    drawn (add_of (25 * caller + n) one.value) one.state

-- the removal of one of the caller's 25 numbers
unfoldable pub draw_removal : ℕ → ℕ → Draw Post
draw_removal caller state =
    let number = draw 25 state in
    drawn (Editing (Remove (25 * caller + number.value))) number.state

-- the add of a unit under one of the caller's 25 numbers: first the number, then the unit
unfoldable pub draw_addition : ℕ → ℕ → Draw Post
draw_addition caller state =
    let number = draw 25 state in
    let unit = draw_unit number.state in
    drawn (add_of (25 * caller + number.value) unit.value) unit.state

-- a goal of a kind about a point: a point, a circle, a circle inside out, a rectangle, a rectangle inside out
unfoldable pub draw_goal : ℕ → ℕ × ℕ → ℕ → Draw Goal
draw_goal kind middle state =
    let x = pos middle.0 in
    let z = pos middle.1 in
    let radius = draw (10 * 65536) state in
    let rectangle = draw_rectangle middle 0 state in
    if kind == 0 then drawn (goal.Point x z) state
    else if kind == 1 then drawn (goal.Circle x z (pos radius.value)) radius.state
    else if kind == 2 then drawn (goal.NotCircle x z (pos radius.value)) radius.state
    else if kind == 3 then drawn (goal.Square rectangle.value) rectangle.state
    else drawn (goal.NotSquare rectangle.value) rectangle.state

-- the point about which a path's goal lies: near its start, but in every tenth turn anywhere for the first caller
unfoldable pub draw_aim : ℕ → ℕ → ℕ × ℕ → ℕ → Draw (ℕ × ℕ)
draw_aim turn caller start state =
    if (caller == 0) && (turn % 10 == 0) then draw_point state else draw_point_near start state

-- the name of the class of a number: `c` and the number
abbrev pub class_name : ℕ → List ℕ
class_name class = codes "c" ++ decimal class

-- a path: its class, its start, the kind of its goal, where that lies, and the goal
unfoldable pub draw_path : ℕ → ℕ → ℕ → Draw Post
draw_path turn caller state =
    let class = draw 8 state in
    let start = draw_point class.state in
    let kind = draw 5 start.state in
    let aim = draw_aim turn caller start.value kind.state in
    let goal = draw_goal kind.value aim.value aim.state in
    let request : PathRequest = record { class = class_name class.value; x = pos start.value.0; z = pos start.value.1; goal = Plain goal.value } in
    drawn (Asking (AsksPath request)) goal.state

-- ---- turns

-- the posts of a caller in the first turn: adds under each of its 25 numbers
unfoldable pub draw_first_posts : ℕ → ℕ → Draw (List Post)
draw_first_posts caller state = draw_each (draw_first_post caller) 25 state

-- the posts of a caller in a later turn: now and then a removal, now and then an addition, and a path
unfoldable pub draw_later_posts : ℕ → ℕ → ℕ → Draw (List Post)
draw_later_posts turn caller state =
    let removal = one_in_four (draw_removal caller) state in
    let addition = one_in_four (draw_addition caller) removal.state in
    let path = draw_path turn caller addition.state in
    drawn (removal.value ++ addition.value ++ path.value ∷ []) path.state

unfoldable pub draw_posts : ℕ → ℕ → ℕ → Draw (List Post)
draw_posts turn caller state = if turn == 1 then draw_first_posts caller state else draw_later_posts turn caller state

-- the posts of the 16 callers in a turn, one caller after another; `before` turns come before it
unfoldable pub draw_turn : ℕ → ℕ → Draw (List (List Post))
draw_turn before state = draw_each (draw_posts (before + 1)) 16 state

-- ---- the map

-- a base rectangle: its first column and row, how many columns and rows it has, 1 to 24, and its mask; the part outside
-- the map is left out
unfoldable pub draw_base_rect : ℕ → Draw (Rect × ℕ)
draw_base_rect state =
    let column = draw 512 state in
    let row = draw 512 column.state in
    let width = draw 24 row.state in
    let height = draw 24 width.state in
    let mask = draw 255 height.state in
    drawn (
      record {
        i0 = column.value;
        j0 = row.value;
        i1 = min (column.value + width.value) 511;
        j1 = min (row.value + height.value) 511;
      },
      1 + mask.value,
    ) mask.state

-- the class of a number: each keeps half a navcell more clear than the one before it
abbrev pub made_class : ℕ → PassabilityClass
made_class class = record { name = class_name class; clearance = pos (32768 * class) }

-- the 8 classes, from `c0` without clearance on
abbrev pub classes : List PassabilityClass
classes = map made_class (0 ∷ 1 ∷ 2 ∷ 3 ∷ 4 ∷ 5 ∷ 6 ∷ 7 ∷ [])

-- the base rectangles are drawn first
unfoldable pub base_drawn : ℕ → Draw (List (Rect × ℕ))
base_drawn number = draw_each (λ n. draw_base_rect) 24 number

-- 512 navcells are a side of a map
abbrev pub made_side : IsSide 512
made_side = record { some = leb-true 1 512 refl; few = leb-true 512 MAX_SIDE refl }

abbrev pub map_size : Size
map_size = record { w = 512; h = 512; wide = made_side; high = made_side }

-- the map that a number makes: 512 by 512 navcells, 16 callers, 8 classes and 24 base rectangles
unfoldable pub made_map : ℕ → Map
made_map number = record {
  version = 1;
  size = map_size;
  callers = 16;
  classes = classes;
  base = (base_drawn number).value;
}

-- the journal that a number makes: its 50 turns are drawn one after another, behind the map
unfoldable pub made_journal : ℕ → List (List (List Post))
made_journal number = (draw_each draw_turn 50 (base_drawn number).state).value
