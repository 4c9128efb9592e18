-- A goal that is turned inside out, along a row: which cells it has, and how remote they are.
use Rattle.std.proofs.Common.{ℕ, ◌≡◌, ◌+◌, ◌-◌, ◌*◌, ◌^◌, ◌<◌, ◌≤◌, ◌⊎◌, ◌||◌, inl, inr, ap, subst, suc, arith, Bool, false, nat_le, leb-true, le-leb, IsTrue, ℤ, pos, negsuc, ◌+ℤ◌, ◌-ℤ◌, ◌*ℤ◌, ◌≤ℤ◌, ◌<ℤ◌}
use borrow.Author.Differences.{up, down}
use Rattle.std.specs.Prelude.{unsigned_abs}
use Rattle.std.specs.List.{list_any}
use Rattle.std.proofs.lemmas.Int.{ints}
use Rattle.std.proofs.lemmas.Bool.{cases_lt, or_cases, or_left, or_right, false≢true}
use Rattle.std.proofs.Math.Nat.{mul-le-mul, le-min, min-le_left, min-le_right}
use Rattle.nav_types.specs.Cells.{cell_at}
use Rattle.fixed_point.specs.declared.plane.Rectangle.{Rectangle}
use Rattle.fixed_point.specs.Plane.{square, from_centre, along, across, centre_along, centre_across}
use Rattle.goal_shapes.specs.declared.goals.Goal.{Goal}
use Rattle.goal_shapes.specs.declared.goals.Goal.TheVariants.{Point, Circle, NotCircle, Square, NotSquare}
use Rattle.goal_shapes.specs.Goals.{from_edge, squared_length, squared_distance, corners_of, is_off_circle, is_off_square, within, contains, remoteness}
use Rattle.goal_shapes.specs.Limits.{IsWellFormed}
use Rattle.goal_reach.specs.inner.Stretches.{is_inside_out}
use Rattle.goal_reach.proofs.Ends.{IsSteady, steady_sum, steady_difference, further_at_end, IsOutdone, within_outdone, min_outdone, disc_outdone}

-- ---- which cells

-- where a corner is off, so is one of any two in its row that it lies between
abbrev pub Spreads : (ℕ × ℕ → Bool) → Type 0
Spreads off = (lo c hi y : ℕ) → lo ≤ c → c < hi → IsTrue (off (c, y)) → IsTrue (off (lo, y)) ⊎ IsTrue (off (hi, y))

-- of three places along a line the middle one is no further from a point than one of the others is
pub disc_spreads : (least s : ℕ) (u v w : ℤ) → u ≤ℤ v → v <ℤ w → least ≤ square (unsigned_abs v) + s
    → (least ≤ square (unsigned_abs u) + s) ⊎ (least ≤ square (unsigned_abs w) + s)
disc_spreads least s u v w first last far =
    let p = unsigned_abs v in let a = unsigned_abs u in let b = unsigned_abs w in
    elim (cases_lt a p) [
      | inl more ↦
          let end : p ≤ b = omega (arith, ints) in
          let squares : p * p ≤ b * b = mul-le-mul end end in inr (omega arith)
      | inr less ↦ (let squares : p * p ≤ a * a = mul-le-mul less less in inl (omega arith))
    ]

circle_spreads : (x z r : ℤ) → Spreads (is_off_circle x z r)
circle_spreads x z r lo c hi y first last off =
    let least = square (unsigned_abs r) in let pz = from_edge y z in
    let far = leb-true least (squared_length (from_edge c x) pz) off in
    elim (disc_spreads least (square (unsigned_abs pz)) (from_edge lo x) (from_edge c x) (from_edge hi x)
    (omega (arith, ints)) (omega (arith, ints)) far) [
      | inl west ↦ inl (le-leb least (squared_length (from_edge lo x) pz) west)
      | inr east ↦ inr (le-leb least (squared_length (from_edge hi x) pz) east)
    ]

pub side_spreads : (h : ℕ) (u v w : ℤ) → IsSteady u v w → IsTrue (nat_le h (unsigned_abs v))
    → IsTrue (nat_le h (unsigned_abs u)) ⊎ IsTrue (nat_le h (unsigned_abs w))
side_spreads h u v w steady off =
    let far = leb-true h (unsigned_abs v) off in
    elim (cases_lt (unsigned_abs u) (unsigned_abs v)) [
      | inl more ↦ (let end = further_at_end u v w steady more in inr (le-leb h (unsigned_abs w) (omega arith)))
      | inr less ↦ inl (le-leb h (unsigned_abs u) (omega arith))
    ]

square_spreads : (s : Rectangle) → Spreads (is_off_square s)
square_spreads s lo c hi y first last off =
    let p = from_edge lo s.x in let q = from_edge c s.x in let r = from_edge hi s.x in let pz = from_edge y s.z in
    let width = 65536 * unsigned_abs s.hw in let height = 65536 * unsigned_abs s.hh in
    let side : ℤ → Bool = λ px. nat_le width (unsigned_abs (along s px pz)) in
    let front : ℤ → Bool = λ px. nat_le height (unsigned_abs (across s px pz)) in
    elim (or_cases (side q) (front q) off) [
      | inl far ↦ elim (side_spreads width (along s p pz) (along s q pz) (along s r pz) (steady_sum s.ux (pz *ℤ s.uz) p q r (omega (arith, ints)) (omega (arith, ints))) far) [
        | inl west ↦ inl (or_left (side p) (front p) west)
        | inr east ↦ inr (or_left (side r) (front r) east)
      ]
      | inr far ↦ elim (side_spreads height (across s p pz) (across s q pz) (across s r pz) (steady_difference s.uz (pz *ℤ s.ux) p q r (omega (arith, ints)) (omega (arith, ints))) far) [
        | inl west ↦ inl (or_right (side p) (front p) west)
        | inr east ↦ inr (or_right (side r) (front r) east)
      ]
    ]

-- the test of four, one after another
abbrev pub any_of : Bool → Bool → Bool → Bool → Bool
any_of p q r s = p || (q || (r || (s || false)))

pub any_first : (p q r s : Bool) → IsTrue p → IsTrue (any_of p q r s)
any_first p q r s h = or_left p (q || (r || (s || false))) h

pub any_second : (p q r s : Bool) → IsTrue q → IsTrue (any_of p q r s)
any_second p q r s h = or_right p (q || (r || (s || false))) (or_left q (r || (s || false)) h)

pub any_third : (p q r s : Bool) → IsTrue r → IsTrue (any_of p q r s)
any_third p q r s h = or_right p (q || (r || (s || false))) (or_right q (r || (s || false)) (or_left r (s || false) h))

pub any_fourth : (p q r s : Bool) → IsTrue s → IsTrue (any_of p q r s)
any_fourth p q r s h = or_right p (q || (r || (s || false))) (or_right q (r || (s || false)) (or_right r (s || false) (or_left s false h)))

-- some corner of the cell is off
abbrev pub HasOff : (ℕ × ℕ → Bool) → ℕ → ℕ → Type 0
HasOff off i j = IsTrue (list_any off (corners_of (cell_at i j)))

south_off : (off : ℕ × ℕ → Bool) → Spreads off → (j a c b : ℕ) → a ≤ c → c < b + 1 → IsTrue (off (c, j)) → HasOff off a j ⊎ HasOff off b j
south_off off spreads j a c b first last hit = elim (spreads a c (b + 1) j first last hit) [
  | inl west ↦ inl (any_first (off (a, j)) (off (a + 1, j)) (off (a, j + 1)) (off (a + 1, j + 1)) west)
  | inr east ↦ inr (any_second (off (b, j)) (off (b + 1, j)) (off (b, j + 1)) (off (b + 1, j + 1)) east)
]

north_off : (off : ℕ × ℕ → Bool) → Spreads off → (j a c b : ℕ) → a ≤ c → c < b + 1 → IsTrue (off (c, j + 1)) → HasOff off a j ⊎ HasOff off b j
north_off off spreads j a c b first last hit = elim (spreads a c (b + 1) (j + 1) first last hit) [
  | inl west ↦ inl (any_third (off (a, j)) (off (a + 1, j)) (off (a, j + 1)) (off (a + 1, j + 1)) west)
  | inr east ↦ inr (any_fourth (off (b, j)) (off (b + 1, j)) (off (b, j + 1)) (off (b + 1, j + 1)) east)
]

pub ends_off : (off : ℕ × ℕ → Bool) → Spreads off → (j a k b : ℕ) → a ≤ k → k < b → HasOff off k j → HasOff off a j ⊎ HasOff off b j
ends_off off spreads j a k b first last hit =
    let p = off (k, j) in let q = off (k + 1, j) in let r = off (k, j + 1) in let s = off (k + 1, j + 1) in
    elim (or_cases p (q || (r || (s || false))) hit) [
      | inl h ↦ south_off off spreads j a k b first (omega arith) h
      | inr rest ↦ elim (or_cases q (r || (s || false)) rest) [
        | inl h ↦ south_off off spreads j a (k + 1) b (omega arith) (omega arith) h
        | inr more ↦ elim (or_cases r (s || false) more) [
          | inl h ↦ north_off off spreads j a k b first (omega arith) h
          | inr one ↦ elim (or_cases s false one) [
            | inl h ↦ north_off off spreads j a (k + 1) b (omega arith) (omega arith) h
            | inr never ↦ absurd (false≢true never)
          ]
        ]
      ]
    ]

-- of a row's cells from one to another the goal has none where it has neither of these two
pub ends_decide : (goal : Goal) (j a k b : ℕ) → IsTrue (is_inside_out goal) → a ≤ k → k ≤ b → IsTrue (contains goal (cell_at k j))
    → IsTrue (contains goal (cell_at a j)) ⊎ IsTrue (contains goal (cell_at b j))
unfolding contains
ends_decide (Point x z) j a k b never first last hit = absurd (false≢true never)
ends_decide (Circle x z r) j a k b never first last hit = absurd (false≢true never)
ends_decide (NotCircle x z r) j a k b out first last hit = elim (cases_lt k b) [
  | inl less ↦ ends_off (is_off_circle x z r) (circle_spreads x z r) j a k b first less hit
  | inr more ↦ (let same : k ≡ b = omega arith in inr (subst (λ (i : ℕ). HasOff (is_off_circle x z r) i j) same hit))
]
ends_decide (Square s) j a k b never first last hit = absurd (false≢true never)
ends_decide (NotSquare s) j a k b out first last hit = elim (cases_lt k b) [
  | inl less ↦ ends_off (is_off_square s) (square_spreads s) j a k b first less hit
  | inr more ↦ (let same : k ≡ b = omega arith in inr (subst (λ (i : ℕ). HasOff (is_off_square s) i j) same hit))
]

-- ---- how remote they are

-- between two cells of a row, of which the later one has a rank above 0, a cell is as remote as the first or more so, or
-- more remote than the later one
pub remote_outdone : (goal : Goal) (j a k b : ℕ) → IsTrue (is_inside_out goal) → a ≤ k → k < b → 0 < remoteness goal (cell_at b j)
    → IsOutdone (remoteness goal (cell_at a j)) (remoteness goal (cell_at k j)) (remoteness goal (cell_at b j))
unfolding remoteness
remote_outdone (Point x z) j a k b never first last deep = absurd (false≢true never)
remote_outdone (Circle x z r) j a k b never first last deep = absurd (false≢true never)
remote_outdone (NotCircle x z r) j a k b out first last deep =
    disc_outdone (2 ^ 56) (square (unsigned_abs (from_centre j z))) (from_centre a x) (from_centre k x) (from_centre b x)
    (omega (arith, ints)) (omega (arith, ints)) deep
remote_outdone (Square s) j a k b never first last deep = absurd (false≢true never)
remote_outdone (NotSquare s) j a k b out first last deep =
    let p = from_centre a s.x in let q = from_centre k s.x in let r = from_centre b s.x in let pz = from_centre j s.z in
    let width = 65536 * unsigned_abs s.hw in let height = 65536 * unsigned_abs s.hh in
    let least = min-le_left (within (centre_along s b j) s.hw) (within (centre_across s b j) s.hh) in
    let least' = min-le_right (within (centre_along s b j) s.hw) (within (centre_across s b j) s.hh) in
    min_outdone (within (along s p pz) s.hw) (within (along s q pz) s.hw) (within (along s r pz) s.hw)
    (within (across s p pz) s.hh) (within (across s q pz) s.hh) (within (across s r pz) s.hh)
    (within_outdone width (along s p pz) (along s q pz) (along s r pz)
    (steady_sum s.ux (pz *ℤ s.uz) p q r (omega (arith, ints)) (omega (arith, ints))) (omega arith))
    (within_outdone height (across s p pz) (across s q pz) (across s r pz)
    (steady_difference s.uz (pz *ℤ s.ux) p q r (omega (arith, ints)) (omega (arith, ints))) (omega arith))

-- ---- ranks above 0

-- a corner that is not off a circle lies nearer than its radius
near_corner : (r : ℕ) (x z : ℤ) (i j : ℕ) → (IsTrue (nat_le (square r) (squared_length (from_edge i x) (from_edge j z))) → ⊥)
    → squared_length (from_edge i x) (from_edge j z) < square r
near_corner r x z i j none = elim (cases_lt (squared_length (from_edge i x) (from_edge j z)) (square r)) [
  | inl less ↦ less
  | inr more ↦ absurd (none (le-leb (square r) (squared_length (from_edge i x) (from_edge j z)) more))
]

-- the middle of a column lies no further than one of its edges
nearer_edge : (i : ℕ) (x : ℤ) → (unsigned_abs (from_centre i x) ≤ unsigned_abs (from_edge i x))
    ⊎ (unsigned_abs (from_centre i x) ≤ unsigned_abs (from_edge (i + 1) x))
nearer_edge i x = elim (cases_lt (unsigned_abs (from_edge i x)) (unsigned_abs (from_centre i x))) [
  | inl more ↦ inr (omega (arith, ints))
  | inr less ↦ inl less
]

nearer_sum : (a b c d n : ℕ) → a ≤ c → b ≤ d → square c + square d < n → square a + square b < n
nearer_sum a b c d n column row less = let first = mul-le-mul column column in let second = mul-le-mul row row in omega arith

circle_deep : (x z r : ℤ) (i j : ℕ) → unsigned_abs r ≤ 2 ^ 28 → (HasOff (is_off_circle x z r) i j → ⊥)
    → 0 < 2 ^ 56 - squared_distance x z (cell_at i j)
circle_deep x z r i j short none =
    let off : ℕ × ℕ → Bool = is_off_circle x z r in let m = unsigned_abs r in
    let p = off (i, j) in let q = off (i + 1, j) in let u = off (i, j + 1) in let v = off (i + 1, j + 1) in
    let sw = near_corner m x z i j (λ h. none (any_first p q u v h)) in
    let se = near_corner m x z (i + 1) j (λ h. none (any_second p q u v h)) in
    let nw = near_corner m x z i (j + 1) (λ h. none (any_third p q u v h)) in
    let ne = near_corner m x z (i + 1) (j + 1) (λ h. none (any_fourth p q u v h)) in
    let px = unsigned_abs (from_centre i x) in let pz = unsigned_abs (from_centre j z) in
    let near : square px + square pz < square m = elim (nearer_edge i x) [
      | inl west ↦ elim (nearer_edge j z) [
        | inl south ↦ nearer_sum px pz (unsigned_abs (from_edge i x)) (unsigned_abs (from_edge j z)) (square m) west south sw
        | inr north ↦ nearer_sum px pz (unsigned_abs (from_edge i x)) (unsigned_abs (from_edge (j + 1) z)) (square m) west north nw
      ]
      | inr east ↦ elim (nearer_edge j z) [
        | inl south ↦ nearer_sum px pz (unsigned_abs (from_edge (i + 1) x)) (unsigned_abs (from_edge j z)) (square m) east south se
        | inr north ↦ nearer_sum px pz (unsigned_abs (from_edge (i + 1) x)) (unsigned_abs (from_edge (j + 1) z)) (square m) east north ne
      ]
    ] in
    let most : m * m ≤ 2 ^ 28 * 2 ^ 28 = mul-le-mul short short in omega arith

-- a corner that is not off a square lies within its sides
within_sides : (s : Rectangle) (i j : ℕ) → (IsTrue (is_off_square s (i, j)) → ⊥)
    → (unsigned_abs (along s (from_edge i s.x) (from_edge j s.z)) < 65536 * unsigned_abs s.hw)
    × (unsigned_abs (across s (from_edge i s.x) (from_edge j s.z)) < 65536 * unsigned_abs s.hh)
within_sides s i j none =
    let width = 65536 * unsigned_abs s.hw in let height = 65536 * unsigned_abs s.hh in
    let d = unsigned_abs (along s (from_edge i s.x) (from_edge j s.z)) in let e = unsigned_abs (across s (from_edge i s.x) (from_edge j s.z)) in (
      elim (cases_lt d width) [ inl less ↦ less | inr more ↦ absurd (none (or_left (nat_le width d) (nat_le height e) (le-leb width d more))) ],
      elim (cases_lt e height) [ inl less ↦ less | inr more ↦ absurd (none (or_right (nat_le width d) (nat_le height e) (le-leb height e more))) ],
    )

-- the mean of two numbers is no further from 0 than both
mean_within : (h : ℕ) (a b c : ℤ) → c +ℤ c ≡ a +ℤ b → unsigned_abs a < h → unsigned_abs b < h → 0 < h - unsigned_abs c
mean_within h a b c mean first second = omega (arith, ints)

mean_product : (p a b u : ℤ) → p +ℤ p ≡ a +ℤ b → p *ℤ u +ℤ p *ℤ u ≡ a *ℤ u +ℤ b *ℤ u
mean_product p a b (pos n) mean =
    let it : n * (up p + up p + (down a + down b)) ≡ n * (up a + up b + (down p + down p)) = ap (λ (t : ℕ). n * t) (omega (arith, ints)) in omega (arith, ints)
mean_product p a b (negsuc n) mean =
    let it : suc n * (up p + up p + (down a + down b)) ≡ suc n * (up a + up b + (down p + down p)) = ap (λ (t : ℕ). suc n * t) (omega (arith, ints)) in omega (arith, ints)

mean_sum : (p a b q c d u v : ℤ) → p +ℤ p ≡ a +ℤ b → q +ℤ q ≡ c +ℤ d
    → (p *ℤ u +ℤ q *ℤ v) +ℤ (p *ℤ u +ℤ q *ℤ v) ≡ (a *ℤ u +ℤ c *ℤ v) +ℤ (b *ℤ u +ℤ d *ℤ v)
mean_sum p a b q c d u v first second = let h = mean_product p a b u first in let g = mean_product q c d v second in omega (arith, ints)

mean_difference : (p a b q c d u v : ℤ) → p +ℤ p ≡ a +ℤ b → q +ℤ q ≡ c +ℤ d
    → (p *ℤ u -ℤ q *ℤ v) +ℤ (p *ℤ u -ℤ q *ℤ v) ≡ (a *ℤ u -ℤ c *ℤ v) +ℤ (b *ℤ u -ℤ d *ℤ v)
mean_difference p a b q c d u v first second = let h = mean_product p a b u first in let g = mean_product q c d v second in omega (arith, ints)

square_deep : (s : Rectangle) (i j : ℕ) → (HasOff (is_off_square s) i j → ⊥)
    → (0 < within (centre_along s i j) s.hw) × (0 < within (centre_across s i j) s.hh)
square_deep s i j none =
    let off : ℕ × ℕ → Bool = is_off_square s in
    let p = off (i, j) in let q = off (i + 1, j) in let u = off (i, j + 1) in let v = off (i + 1, j + 1) in
    let sw = within_sides s i j (λ h. none (any_first p q u v h)) in
    let ne = within_sides s (i + 1) (j + 1) (λ h. none (any_fourth p q u v h)) in
    let a = from_edge i s.x in let b = from_edge j s.z in let c = from_edge (i + 1) s.x in let d = from_edge (j + 1) s.z in
    let px = from_centre i s.x in let pz = from_centre j s.z in
    let column : px +ℤ px ≡ a +ℤ c = omega (arith, ints) in let row : pz +ℤ pz ≡ b +ℤ d = omega (arith, ints) in (
      mean_within (65536 * unsigned_abs s.hw) (along s a b) (along s c d) (along s px pz) (mean_sum px a c pz b d s.ux s.uz column row) sw.0 ne.0,
      mean_within (65536 * unsigned_abs s.hh) (across s a b) (across s c d) (across s px pz) (mean_difference pz b d px a c s.ux s.uz row column) sw.1 ne.1,
    )

-- a cell that such a goal does not have has a rank above 0
pub deep : (goal : Goal) (i j : ℕ) → IsWellFormed goal → IsTrue (is_inside_out goal) → (IsTrue (contains goal (cell_at i j)) → ⊥)
    → 0 < remoteness goal (cell_at i j)
unfolding contains remoteness
deep (Point x z) i j well never none = absurd (false≢true never)
deep (Circle x z r) i j well never none = absurd (false≢true never)
deep (NotCircle x z r) i j well out none =
    let low = well.width.low in let high = well.width.high in
    let short : unsigned_abs r ≤ 2 ^ 28 = omega (arith, ints) in circle_deep x z r i j short none
deep (Square s) i j well never none = absurd (false≢true never)
deep (NotSquare s) i j well out none =
    let both = square_deep s i j none in
    let first = both.0 in let second = both.1 in
    le-min {a = within (centre_along s i j) s.hw} {b = within (centre_across s i j) s.hh} (omega arith) (omega arith)
