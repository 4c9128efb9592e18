-- A goal that is turned inside out, along a column: which cells it has.
use Rattle.std.proofs.Common.{ℕ, ◌≡◌, ◌+◌, ◌*◌, ◌<◌, ◌≤◌, ◌⊎◌, ◌||◌, inl, inr, subst, arith, Bool, false, nat_le, leb-true, le-leb, IsTrue, ℤ, pos, ◌+ℤ◌, ◌-ℤ◌, ◌*ℤ◌}
use Rattle.std.specs.Prelude.{unsigned_abs}
use Rattle.std.proofs.lemmas.Int.{ints}
use Rattle.std.proofs.lemmas.Bool.{cases_lt, or_cases, or_left, or_right, false≢true}
use Rattle.nav_types.specs.Cells.{cell_at}
use Rattle.fixed_point.specs.declared.plane.Rectangle.{Rectangle}
use Rattle.fixed_point.specs.Plane.{square, along, across}
use Rattle.goal_shapes.specs.declared.goals.Goal.{Goal}
use Rattle.goal_shapes.specs.declared.goals.Goal.TheVariants.{Point, Circle, NotCircle, Square, NotSquare}
use Rattle.goal_shapes.specs.Goals.{from_edge, squared_length, is_off_circle, is_off_square, contains}
use Rattle.goal_reach.specs.inner.Stretches.{is_inside_out}
use Rattle.goal_reach.proofs.Ends.{IsSteady, steady_sum}
use Rattle.goal_reach.proofs.InsideOut.{Spreads, disc_spreads, side_spreads, any_of, any_first, any_second, any_third, any_fourth, HasOff, ends_off}

-- a corner with its column and its row exchanged
abbrev turned : (ℕ × ℕ → Bool) → ℕ × ℕ → Bool
turned off corner = off (corner.1, corner.0)

circle_spreads_up : (x z r : ℤ) → Spreads (turned (is_off_circle x z r))
circle_spreads_up x z r lo c hi y first last off =
    let least = square (unsigned_abs r) in let px = from_edge y x in
    let far = leb-true least (squared_length px (from_edge c z)) off in
    elim (disc_spreads least (square (unsigned_abs px)) (from_edge lo z) (from_edge c z) (from_edge hi z)
    (omega (arith, ints)) (omega (arith, ints)) (omega arith)) [
      | inl south ↦ inl (le-leb least (squared_length px (from_edge lo z)) (omega arith))
      | inr north ↦ inr (le-leb least (squared_length px (from_edge hi z)) (omega arith))
    ]

steady_as : (a k b d l e : ℤ) → a ≡ d → k ≡ l → b ≡ e → IsSteady a k b → IsSteady d l e
steady_as a k b d l e one two three (inl (first, second)) = inl (omega (arith, ints), omega (arith, ints))
steady_as a k b d l e one two three (inr (inl (first, second))) = inr (inl (omega (arith, ints), omega (arith, ints)))
steady_as a k b d l e one two three (inr (inr (first, second))) = inr (inr (omega (arith, ints), omega (arith, ints)))

square_spreads_up : (s : Rectangle) → Spreads (turned (is_off_square s))
square_spreads_up s lo c hi y first last off =
    let p = from_edge lo s.z in let q = from_edge c s.z in let r = from_edge hi s.z in let px = from_edge y s.x in
    let width = 65536 * unsigned_abs s.hw in let height = 65536 * unsigned_abs s.hh in
    let side : ℤ → Bool = λ pz. nat_le width (unsigned_abs (along s px pz)) in
    let front : ℤ → Bool = λ pz. nat_le height (unsigned_abs (across s px pz)) in
    let t = px *ℤ s.ux in let t' = px *ℤ s.uz in
    let n = s.uz in let m = s.ux in
    let sum : IsSteady (along s px p) (along s px q) (along s px r) =
    steady_as (p *ℤ n +ℤ t) (q *ℤ n +ℤ t) (r *ℤ n +ℤ t) (along s px p) (along s px q) (along s px r)
    (omega (arith, ints)) (omega (arith, ints)) (omega (arith, ints))
    (steady_sum n t p q r (omega (arith, ints)) (omega (arith, ints))) in
    let less = pos 0 -ℤ t' in
    let difference : IsSteady (across s px p) (across s px q) (across s px r) =
    steady_as (p *ℤ m +ℤ less) (q *ℤ m +ℤ less) (r *ℤ m +ℤ less) (across s px p) (across s px q) (across s px r)
    (omega (arith, ints)) (omega (arith, ints)) (omega (arith, ints))
    (steady_sum m less p q r (omega (arith, ints)) (omega (arith, ints))) in
    elim (or_cases (side q) (front q) off) [
      | inl far ↦ elim (side_spreads width (along s px p) (along s px q) (along s px r) sum far) [
        | inl south ↦ inl (or_left (side p) (front p) south)
        | inr north ↦ inr (or_left (side r) (front r) north)
      ]
      | inr far ↦ elim (side_spreads height (across s px p) (across s px q) (across s px r) difference far) [
        | inl south ↦ inl (or_right (side p) (front p) south)
        | inr north ↦ inr (or_right (side r) (front r) north)
      ]
    ]

any_swapped : (p q r s : Bool) → IsTrue (any_of p q r s) → IsTrue (any_of p r q s)
any_swapped p q r s hit = elim (or_cases p (q || (r || (s || false))) hit) [
  | inl h ↦ any_first p r q s h
  | inr rest ↦ elim (or_cases q (r || (s || false)) rest) [
    | inl h ↦ any_third p r q s h
    | inr more ↦ elim (or_cases r (s || false) more) [
      | inl h ↦ any_second p r q s h
      | inr one ↦ elim (or_cases s false one) [
        | inl h ↦ any_fourth p r q s h
        | inr never ↦ absurd (false≢true never)
      ]
    ]
  ]
]

turned_off : (off : ℕ × ℕ → Bool) (i j : ℕ) → HasOff off i j → HasOff (turned off) j i
turned_off off i j hit = any_swapped (off (i, j)) (off (i + 1, j)) (off (i, j + 1)) (off (i + 1, j + 1)) hit

turned_back : (off : ℕ × ℕ → Bool) (i j : ℕ) → HasOff (turned off) j i → HasOff off i j
turned_back off i j hit = any_swapped (off (i, j)) (off (i, j + 1)) (off (i + 1, j)) (off (i + 1, j + 1)) hit

ends_off_up : (off : ℕ × ℕ → Bool) → Spreads (turned off) → (i a k b : ℕ) → a ≤ k → k < b → HasOff off i k
    → HasOff off i a ⊎ HasOff off i b
ends_off_up off spreads i a k b first last hit = elim (ends_off (turned off) spreads i a k b first last (turned_off off i k hit)) [
  | inl h ↦ inl (turned_back off i a h)
  | inr h ↦ inr (turned_back off i b h)
]

-- of a column's cells from one to another the goal has none where it has neither of these two
pub ends_decide_up : (goal : Goal) (i a k b : ℕ) → IsTrue (is_inside_out goal) → a ≤ k → k ≤ b → IsTrue (contains goal (cell_at i k))
    → IsTrue (contains goal (cell_at i a)) ⊎ IsTrue (contains goal (cell_at i b))
unfolding contains
ends_decide_up (Point x z) i a k b never first last hit = absurd (false≢true never)
ends_decide_up (Circle x z r) i a k b never first last hit = absurd (false≢true never)
ends_decide_up (NotCircle x z r) i a k b out first last hit = elim (cases_lt k b) [
  | inl less ↦ ends_off_up (is_off_circle x z r) (circle_spreads_up x z r) i a k b first less hit
  | inr more ↦ (let same : k ≡ b = omega arith in inr (subst (λ (j : ℕ). HasOff (is_off_circle x z r) i j) same hit))
]
ends_decide_up (Square s) i a k b never first last hit = absurd (false≢true never)
ends_decide_up (NotSquare s) i a k b out first last hit = elim (cases_lt k b) [
  | inl less ↦ ends_off_up (is_off_square s) (square_spreads_up s) i a k b first less hit
  | inr more ↦ (let same : k ≡ b = omega arith in inr (subst (λ (j : ℕ). HasOff (is_off_square s) i j) same hit))
]
