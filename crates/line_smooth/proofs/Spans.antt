-- The places of a line that a segment touches.
use Rattle.std.proofs.Common.{ℕ, zero, suc, ◌≡◌, ◌+◌, ◌-◌, ◌*◌, ◌/◌, ◌<◌, ◌≤◌, ◌↔◌, sym, ap, subst, arith}
use Rattle.std.proofs.Math.Nat.{div-lt_iff_lt-mul, div-mul-le_self, mul-le-mul_left}
use Rattle.nav_types.specs.declared.cells.Cell.{Cell}
use Rattle.nav_types.specs.declared.straights.Axis.{Axis}
use Rattle.nav_types.specs.declared.straights.Axis.TheVariants.{Row, Column}
use Rattle.nav_types.specs.Lines.{cell_on, line_on, place_on}
use Rattle.line_smooth.specs.Segments.{gap, Touches}
use Rattle.line_smooth.specs.inner.Lines.{IsBetween}

-- what makes a place so far along touched, where its line is so far across
abbrev pub IsNear : ℕ → ℕ → ℕ → ℕ → Type 0
IsNear long short across along = 2 * gap (long * across) (short * along) ≤ long + short

-- the place of a line that lies nearest to the segment is touched
nearest_near : (long short across q : ℕ) → q * (2 * short) ≤ 2 * (long * across) + short → 2 * (long * across) < q * (2 * short) + short → IsNear long short across q
nearest_near long short across q low high = omega arith

on_a_line : (long across : ℕ) → across ≤ 0 → IsNear long 0 across 0
on_a_line long across none =
    let is : across ≡ 0 = omega arith in
    let nought : long * across ≡ long * 0 = ap (λ (n : ℕ). long * n) is in
    omega arith

nearest : (long short across : ℕ) → 0 < short → across ≤ short → (along : ℕ) × ((along ≤ long) × IsNear long short across along)
nearest long short across some within =
    let q = (2 * (long * across) + short) / (2 * short) in
    let unit : 0 < 2 * short = omega arith in
    let low : q * (2 * short) ≤ 2 * (long * across) + short = div-mul-le_self (2 * (long * across) + short) (2 * short) in
    let next : 2 * (long * across) + short < (q + 1) * (2 * short) =
    (div-lt_iff_lt-mul {k = 2 * short} {x = 2 * (long * across) + short} {y = q + 1} unit).0 (omega arith) in
    let product = mul-le-mul_left long within in
    let below : q < long + 1 = (div-lt_iff_lt-mul {k = 2 * short} {x = 2 * (long * across) + short} {y = long + 1} unit).1 (omega (arith, product)) in
    (q, (omega arith, nearest_near long short across q low (omega arith)))

pub some_touched : (long short across : ℕ) → across ≤ short → (along : ℕ) × ((along ≤ long) × IsNear long short across along)
some_touched long zero across within = (0, (omega arith, on_a_line long across within))
some_touched long (suc short) across within = nearest long (suc short) across (omega arith) within

-- so a line has a first touched place and a last one
pub some_span : (long short across first last : ℕ) → across ≤ short → ((along : ℕ) → along ≤ long → IsNear long short across along ↔ ((first ≤ along) × (along ≤ last)))
    → first ≤ last
some_span long short across first last within exact =
    let near = some_touched long short across within in
    let both = (exact near.0 near.1.0).0 near.1.1 in
    let low : first ≤ near.0 = both.0 in let high : near.0 ≤ last = both.1 in
    omega arith

-- a cell of a line is touched by what is known of its place
turn : (p q s t : ℕ) → 2 * gap p q ≤ s + t → 2 * gap q p ≤ t + s
turn p q s t near = omega arith

touches_line : (axis : Axis) (a b : Cell) (line place : ℕ) → IsBetween (line_on axis a) (line_on axis b) line
    → Touches a b (cell_on axis line place) ↔ (IsBetween (place_on axis a) (place_on axis b) place
    × IsNear (gap (place_on axis a) (place_on axis b)) (gap (line_on axis a) (line_on axis b)) (gap (line_on axis a) line) (gap (place_on axis a) place))
touches_line Row a b line place between = (
  λ t. (t.columns, t.near),
  λ h. record { columns = h.0; rows = between; near = h.1 },
)
touches_line Column a b line place between = (
  λ t. (t.rows, turn (gap a.i b.i * gap a.j place) (gap a.j b.j * gap a.i line) (gap a.i b.i) (gap a.j b.j) t.near),
  λ h. record { columns = between; rows = h.0; near = turn (gap a.j b.j * gap a.i line) (gap a.i b.i * gap a.j place) (gap a.j b.j) (gap a.i b.i) h.1 },
)

-- the places of a line, and how far along they lie
pub record IsOn (axis : Axis) (a b : Cell) (line from to long short across : ℕ) : Type 0 where
  pub between : IsBetween (line_on axis a) (line_on axis b) line
  pub from_is : from ≡ place_on axis a
  pub to_is : to ≡ place_on axis b
  pub long_is : long ≡ gap (place_on axis a) (place_on axis b)
  pub short_is : short ≡ gap (line_on axis a) (line_on axis b)
  pub across_is : across ≡ gap (line_on axis a) line

near_is : (axis : Axis) (a b : Cell) (line from to long short across place : ℕ) → IsOn axis a b line from to long short across
    → Touches a b (cell_on axis line place) ↔ (IsBetween from to place × IsNear long short across (gap from place))
near_is axis a b line from to long short across place on =
    let P = λ (p : ℕ). Touches a b (cell_on axis line place) ↔ (IsBetween p (place_on axis b) place
    × IsNear (gap (place_on axis a) (place_on axis b)) (gap (line_on axis a) (line_on axis b)) (gap (line_on axis a) line) (gap p place)) in
    let Q = λ (q : ℕ). Touches a b (cell_on axis line place) ↔ (IsBetween from q place
    × IsNear (gap (place_on axis a) (place_on axis b)) (gap (line_on axis a) (line_on axis b)) (gap (line_on axis a) line) (gap from place)) in
    let R = λ (n : ℕ). Touches a b (cell_on axis line place) ↔ (IsBetween from to place
    × IsNear n (gap (line_on axis a) (line_on axis b)) (gap (line_on axis a) line) (gap from place)) in
    let S = λ (n : ℕ). Touches a b (cell_on axis line place) ↔ (IsBetween from to place
    × IsNear long n (gap (line_on axis a) line) (gap from place)) in
    let T = λ (n : ℕ). Touches a b (cell_on axis line place) ↔ (IsBetween from to place
    × IsNear long short n (gap from place)) in
    subst T (sym on.across_is) (subst S (sym on.short_is) (subst R (sym on.long_is) (subst Q (sym on.to_is) (subst P (sym on.from_is)
    (touches_line axis a b line place on.between)))))

-- the places of a line that are touched, up the line from the segment's first cell
pub span_up : (axis : Axis) (a b : Cell) (line from to long short across first last : ℕ) → IsOn axis a b line from to long short across
    → long ≡ gap from to → from ≤ to → last ≤ long → ((along : ℕ) → along ≤ long → IsNear long short across along ↔ ((first ≤ along) × (along ≤ last)))
    → (place : ℕ) → Touches a b (cell_on axis line place) ↔ ((from + first ≤ place) × (place ≤ from + last))
span_up axis a b line from to long short across first last on is up within exact place =
    let near = near_is axis a b line from to long short across place on in (
      λ t.
          (let h = near.0 t in
          let between : gap from place + gap place to ≡ gap from to = h.0 in
          let along = (exact (gap from place) (omega arith)).0 h.1 in
          let low : first ≤ gap from place = along.0 in let high : gap from place ≤ last = along.1 in
          (omega arith, omega arith)),
      λ h.
          (let low : from + first ≤ place = h.0 in let high : place ≤ from + last = h.1 in
          near.1 (omega arith, (exact (gap from place) (omega arith)).1 (omega arith, omega arith))),
    )

-- and down the line
pub span_down : (axis : Axis) (a b : Cell) (line from to long short across first last : ℕ) → IsOn axis a b line from to long short across
    → long ≡ gap from to → to < from → first ≤ last → last ≤ long → ((along : ℕ) → along ≤ long → IsNear long short across along ↔ ((first ≤ along) × (along ≤ last)))
    → (place : ℕ) → Touches a b (cell_on axis line place) ↔ ((from - last ≤ place) × (place ≤ from - first))
span_down axis a b line from to long short across first last on is down some within exact place =
    let near = near_is axis a b line from to long short across place on in (
      λ t.
          (let h = near.0 t in
          let between : gap from place + gap place to ≡ gap from to = h.0 in
          let along = (exact (gap from place) (omega arith)).0 h.1 in
          let low : first ≤ gap from place = along.0 in let high : gap from place ≤ last = along.1 in
          (omega arith, omega arith)),
      λ h.
          (let low : from - last ≤ place = h.0 in let high : place ≤ from - first = h.1 in
          near.1 (omega arith, (exact (gap from place) (omega arith)).1 (omega arith, omega arith))),
    )
