-- The cells of a goal that is turned inside out have a corner off its shape.
use Rattle.std.proofs.Common.{ℕ, ◌≡◌, ◌+◌, ◌-◌, ◌*◌, ◌≤◌, ◌⊎◌, ◌||◌, refl, inl, inr, arith, min, Bool, true, false, nat_le, leb-true, IsTrue, ℤ, ◌-ℤ◌}
use Rattle.std.specs.Prelude.{unsigned_abs}
use Rattle.std.proofs.lemmas.Int.{ints}
use Rattle.std.proofs.lemmas.Bool.{or_cases, false≢true}
use Rattle.std.proofs.Math.Nat.{mul-le-mul}
use Rattle.nav_types.specs.declared.cells.Cell.{Cell}
use Rattle.fixed_point.specs.declared.plane.Rectangle.{Rectangle}
use Rattle.fixed_point.specs.Plane.{square, from_centre, along, across}
use Rattle.goal_shapes.specs.declared.goals.Goal.TheVariants.{NotCircle, NotSquare}
use Rattle.goal_shapes.specs.Goals.{contains, framed, from_edge, squared_length, is_off_circle, is_off_square}
use Rattle.jump_search.specs.declared.rooms.Disc.{Disc}
use Rattle.jump_search.specs.Estimates.{depth_within, farther_edge}
use Rattle.jump_search.proofs.Rims.{IsOffDisc}
use Rattle.jump_search.proofs.Sides.{along_near, across_near}

-- ---- the box is the whole map

pub circle_framed : (x z r : ℤ) (cell : Cell) → IsTrue (framed (NotCircle x z r) cell)
unfolding framed
circle_framed x z r cell = refl

pub square_framed : (s : Rectangle) (cell : Cell) → IsTrue (framed (NotSquare s) cell)
unfolding framed
square_framed s cell = refl

-- ---- corners

-- one of four corners has what each of them would have to lack
any_corner : (p q u v : Bool) {Said : Type 0} → (p || (q || (u || (v || false)))) ≡ true → (IsTrue p → Said) → (IsTrue q → Said)
    → (IsTrue u → Said) → (IsTrue v → Said) → Said
any_corner p q u v hit one two three four = elim (or_cases p (q || (u || (v || false))) hit) [
  | inl h ↦ one h
  | inr rest ↦ elim (or_cases q (u || (v || false)) rest) [
    | inl h ↦ two h
    | inr more ↦ elim (or_cases u (v || false) more) [
      | inl h ↦ three h
      | inr last ↦ elim (or_cases v false last) [
        | inl h ↦ four h
        | inr never ↦ absurd (false≢true never)
      ]
    ]
  ]
]

first_edge : (i : ℕ) (x : ℤ) → unsigned_abs (from_edge i x) ≤ farther_edge i x
first_edge i x = omega (arith, ints)

last_edge : (i : ℕ) (x : ℤ) → unsigned_abs (from_edge (i + 1) x) ≤ farther_edge i x
last_edge i x = omega (arith, ints)

-- ---- circles

no_nearer : (n a b c d : ℕ) → a ≤ c → b ≤ d → n ≤ square a + square b → n ≤ square c + square d
no_nearer n a b c d column row far =
    let columns : a * a ≤ c * c = mul-le-mul column column in
    let rows : b * b ≤ d * d = mul-le-mul row row in omega (arith, columns, rows, far)

corner_off : (disc : Disc) (cell : Cell) (i j : ℕ) → unsigned_abs (from_edge i disc.x) ≤ farther_edge cell.i disc.x
    → unsigned_abs (from_edge j disc.z) ≤ farther_edge cell.j disc.z → IsTrue (is_off_circle disc.x disc.z disc.r (i, j))
    → IsOffDisc disc cell
corner_off disc cell i j column row off =
    no_nearer (square (unsigned_abs disc.r)) (unsigned_abs (from_edge i disc.x)) (unsigned_abs (from_edge j disc.z))
    (farther_edge cell.i disc.x) (farther_edge cell.j disc.z) column row
    (leb-true (square (unsigned_abs disc.r)) (squared_length (from_edge i disc.x) (from_edge j disc.z)) off)

pub off_disc : (disc : Disc) (cell : Cell) → IsTrue (contains (NotCircle disc.x disc.z disc.r) cell) → IsOffDisc disc cell
unfolding contains
off_disc disc cell hit =
    let off : ℕ × ℕ → Bool = is_off_circle disc.x disc.z disc.r in let i = cell.i in let j = cell.j in
    let west = first_edge i disc.x in let east = last_edge i disc.x in
    let south = first_edge j disc.z in let north = last_edge j disc.z in
    any_corner (off (i, j)) (off (i + 1, j)) (off (i, j + 1)) (off (i + 1, j + 1)) hit
    (corner_off disc cell i j west south) (corner_off disc cell (i + 1) j east south)
    (corner_off disc cell i (j + 1) west north) (corner_off disc cell (i + 1) (j + 1) east north)

-- ---- squares

first_near : (i : ℕ) (x : ℤ) → unsigned_abs (from_edge i x -ℤ from_centre i x) ≤ 32768
first_near i x = omega (arith, ints)

last_near : (i : ℕ) (x : ℤ) → unsigned_abs (from_edge (i + 1) x -ℤ from_centre i x) ≤ 32768
last_near i x = omega (arith, ints)

no_depth : (h v a b c d m n : ℕ) → c ≤ a + (32768 * m + 32768 * n) → d ≤ b + (32768 * m + 32768 * n) → (h ≤ c) ⊎ (v ≤ d)
    → min (h - (a + 32768 * (m + n))) (v - (b + 32768 * (m + n))) ≡ 0
no_depth h v a b c d m n one other (inl past) = omega (arith, one, past)
no_depth h v a b c d m n one other (inr past) = omega (arith, other, past)

either_past : (h v c d : ℕ) → (nat_le h c || nat_le v d) ≡ true → (h ≤ c) ⊎ (v ≤ d)
either_past h v c d off = elim (or_cases (nat_le h c) (nat_le v d) off) [
  | inl is ↦ inl (leb-true h c is)
  | inr is ↦ inr (leb-true v d is)
]

corner_past : (s : Rectangle) (cell : Cell) (i j : ℕ)
    → unsigned_abs (from_edge i s.x -ℤ from_centre cell.i s.x) ≤ 32768
    → unsigned_abs (from_edge j s.z -ℤ from_centre cell.j s.z) ≤ 32768 → IsTrue (is_off_square s (i, j))
    → depth_within s cell ≡ 0
corner_past s cell i j column row off =
    let px = from_centre cell.i s.x in let pz = from_centre cell.j s.z in
    let qx = from_edge i s.x in let qz = from_edge j s.z in
    let h = 65536 * unsigned_abs s.hw in let v = 65536 * unsigned_abs s.hh in
    no_depth h v (unsigned_abs (along s px pz)) (unsigned_abs (across s px pz)) (unsigned_abs (along s qx qz))
    (unsigned_abs (across s qx qz)) (unsigned_abs s.ux) (unsigned_abs s.uz)
    (along_near s 32768 32768 px pz qx qz column row) (across_near s 32768 32768 px pz qx qz column row)
    (either_past h v (unsigned_abs (along s qx qz)) (unsigned_abs (across s qx qz)) off)

pub off_square : (s : Rectangle) (cell : Cell) → IsTrue (contains (NotSquare s) cell) → depth_within s cell ≡ 0
unfolding contains
off_square s cell hit =
    let off : ℕ × ℕ → Bool = is_off_square s in let i = cell.i in let j = cell.j in
    let west = first_near i s.x in let east = last_near i s.x in
    let south = first_near j s.z in let north = last_near j s.z in
    any_corner (off (i, j)) (off (i + 1, j)) (off (i, j + 1)) (off (i + 1, j + 1)) hit
    (corner_past s cell i j west south) (corner_past s cell (i + 1) j east south)
    (corner_past s cell i (j + 1) west north) (corner_past s cell (i + 1) (j + 1) east north)
