-- Directions, and where steps in one of them lead.
use Rattle.std.proofs.Common.{ℕ, zero, suc, ◌≡◌, ◌+◌, ◌*◌, ◌<◌, ◌≤◌, ◌⊎◌, inl, inr, Bool, true, ◌&&◌, cond, eqb, replicate, refl, ap, arith}
use Rattle.std.proofs.lemmas.Bool.{cases_order, and_parts, eqb-true}
use Rattle.nav_types.specs.declared.cells.Cell.{Cell}
use Rattle.nav_types.specs.declared.directions.Dir.{Dir}
use Rattle.nav_types.specs.declared.directions.Dir.TheVariants.{N, E, S, W, NE, SE, SW, NW}
use Rattle.nav_types.specs.Directions.{east, west, north, south}
use Rattle.nav_types.specs.Walks.{IsWalk}
use Rattle.walks.specs.Waypoints.{is_same_way}
use Rattle.line_smooth.specs.Segments.{gap}
use Rattle.flat_ways.specs.Steps.{dir_number}
use Rattle.flat_ways.specs.inner.Legs.{IsSign, PointsTo}

-- ---- a direction is known by how far it goes in the four straight ones, and by its number

dir_of : ℕ → ℕ → ℕ → ℕ → Dir
dir_of e w n s = cond (eqb e 1) (cond (eqb n 1) NE (cond (eqb s 1) SE E)) (cond (eqb w 1) (cond (eqb n 1) NW (cond (eqb s 1) SW W)) (cond (eqb n 1) N S))

dir_of-self : (dir : Dir) → dir_of (east dir) (west dir) (north dir) (south dir) ≡ dir
unfolding dir_of
dir_of-self N = refl
dir_of-self E = refl
dir_of-self S = refl
dir_of-self W = refl
dir_of-self NE = refl
dir_of-self SE = refl
dir_of-self SW = refl
dir_of-self NW = refl

same_parts : (a b : Dir) → east a ≡ east b → west a ≡ west b → north a ≡ north b → south a ≡ south b → a ≡ b
same_parts a b p q r s = let x = dir_of-self a in let y = dir_of-self b in cc

pub same_way : (a b : Dir) → is_same_way a b ≡ true → a ≡ b
same_way a b same =
    let n = and_parts ((eqb (east a) (east b) && eqb (west a) (west b)) && eqb (north a) (north b)) (eqb (south a) (south b)) same in
    let w = and_parts (eqb (east a) (east b) && eqb (west a) (west b)) (eqb (north a) (north b)) n.0 in
    let e = and_parts (eqb (east a) (east b)) (eqb (west a) (west b)) w.0 in
    same_parts a b (eqb-true (east a) (east b) e.0) (eqb-true (west a) (west b) e.1) (eqb-true (north a) (north b) w.1) (eqb-true (south a) (south b) n.1)

pub way_is_same : (dir : Dir) → is_same_way dir dir ≡ true
way_is_same N = refl
way_is_same E = refl
way_is_same S = refl
way_is_same W = refl
way_is_same NE = refl
way_is_same SE = refl
way_is_same SW = refl
way_is_same NW = refl

numbered : ℕ → Dir
numbered n = cond (eqb n 1) N (cond (eqb n 2) E (cond (eqb n 3) S (cond (eqb n 4) W (cond (eqb n 5) NE (cond (eqb n 6) SE (cond (eqb n 7) SW NW))))))

numbered-self : (dir : Dir) → numbered (dir_number dir) ≡ dir
unfolding numbered
numbered-self N = refl
numbered-self E = refl
numbered-self S = refl
numbered-self W = refl
numbered-self NE = refl
numbered-self SE = refl
numbered-self SW = refl
numbered-self NW = refl

pub same_number : (a b : Dir) → dir_number a ≡ dir_number b → a ≡ b
same_number a b same = let x = numbered-self a in let y = numbered-self b in let z = ap numbered same in cc

-- ---- so many steps in one direction

-- so many steps in the direction lead from one cell to the other
pub record IsAhead (dir : Dir) (steps : ℕ) (from to : Cell) : Type 0 where
  pub columns : to.i + west dir * steps ≡ from.i + east dir * steps
  pub rows : to.j + south dir * steps ≡ from.j + north dir * steps

pub ahead_by : (passes : Cell → Bool) (dir : Dir) (steps : ℕ) (from to : Cell) → IsWalk passes from (replicate steps dir) to → IsAhead dir steps from to
ahead_by passes dir zero from to walk =
    let column = ap (λ (c : Cell). c.i) walk in let row = ap (λ (c : Cell). c.j) walk in
    record { columns = omega arith; rows = omega arith }
ahead_by passes dir (suc more) from to walk =
    let on = ahead_by passes dir more walk.0 to walk.1.1 in
    let columns = on.columns in let rows = on.rows in
    let column = walk.1.0.leads.columns in let row = walk.1.0.leads.rows in
    record { columns = omega arith; rows = omega arith }

signed : (up down n a b : ℕ) → b + down * n ≡ a + up * n → 0 < n → ((up ≡ 1) × (down ≡ 0)) ⊎ (((up ≡ 0) × (down ≡ 1)) ⊎ ((up ≡ 0) × (down ≡ 0))) → IsSign up down a b
signed up down n a b is some (inl (one, none)) =
    let u = ap (λ (k : ℕ). k * n) one in let d = ap (λ (k : ℕ). k * n) none in
    record { above = λ less. (one, none); below = λ more. absurd (omega (arith, more)); level = λ same. absurd (omega (arith, same)) }
signed up down n a b is some (inr (inl (none, one))) =
    let u = ap (λ (k : ℕ). k * n) none in let d = ap (λ (k : ℕ). k * n) one in
    record { above = λ less. absurd (omega (arith, less)); below = λ more. (none, one); level = λ same. absurd (omega (arith, same)) }
signed up down n a b is some (inr (inr (none, also))) =
    let u = ap (λ (k : ℕ). k * n) none in let d = ap (λ (k : ℕ). k * n) also in
    record { above = λ less. absurd (omega (arith, less)); below = λ more. absurd (omega (arith, more)); level = λ same. (none, also) }

sideways : (dir : Dir) → ((east dir ≡ 1) × (west dir ≡ 0)) ⊎ (((east dir ≡ 0) × (west dir ≡ 1)) ⊎ ((east dir ≡ 0) × (west dir ≡ 0)))
sideways N = inr (inr (refl, refl))
sideways E = inl (refl, refl)
sideways S = inr (inr (refl, refl))
sideways W = inr (inl (refl, refl))
sideways NE = inl (refl, refl)
sideways SE = inl (refl, refl)
sideways SW = inr (inl (refl, refl))
sideways NW = inr (inl (refl, refl))

upward : (dir : Dir) → ((north dir ≡ 1) × (south dir ≡ 0)) ⊎ (((north dir ≡ 0) × (south dir ≡ 1)) ⊎ ((north dir ≡ 0) × (south dir ≡ 0)))
upward N = inl (refl, refl)
upward E = inr (inr (refl, refl))
upward S = inr (inl (refl, refl))
upward W = inr (inr (refl, refl))
upward NE = inl (refl, refl)
upward SE = inr (inl (refl, refl))
upward SW = inr (inl (refl, refl))
upward NW = inl (refl, refl)

pub ahead_points : (dir : Dir) (steps : ℕ) (from to : Cell) → 0 < steps → IsAhead dir steps from to → PointsTo dir from to
ahead_points dir steps from to some ahead = record {
  columns = signed (east dir) (west dir) steps from.i to.i ahead.columns some (sideways dir);
  rows = signed (north dir) (south dir) steps from.j to.j ahead.rows some (upward dir);
}

one_sign : (u d v e a b : ℕ) → IsSign u d a b → IsSign v e a b → (u ≡ v) × (d ≡ e)
one_sign u d v e a b one other = elim (cases_order a b) [
  | inl level ↦ let p = one.level level in let q = other.level level in (omega (arith, p.0, q.0), omega (arith, p.1, q.1))
  | inr order ↦ elim order [
    | inl less ↦ let p = one.above less in let q = other.above less in (omega (arith, p.0, q.0), omega (arith, p.1, q.1))
    | inr more ↦ let p = one.below more in let q = other.below more in (omega (arith, p.0, q.0), omega (arith, p.1, q.1))
  ]
]

pub one_heading : (a b : Dir) (from to : Cell) → PointsTo a from to → PointsTo b from to → a ≡ b
one_heading a b from to one other =
    let columns = one_sign (east a) (west a) (east b) (west b) from.i to.i one.columns other.columns in
    let rows = one_sign (north a) (south a) (north b) (south b) from.j to.j one.rows other.rows in
    same_parts a b columns.0 columns.1 rows.0 rows.1

-- where cells differ, some direction goes up or down
pub no_heading : (dir : Dir) (from : Cell) → PointsTo dir from from → ⊥
no_heading N from points = absurd (omega (arith, (points.rows.level refl).0))
no_heading E from points = absurd (omega (arith, (points.columns.level refl).0))
no_heading S from points = absurd (omega (arith, (points.rows.level refl).1))
no_heading W from points = absurd (omega (arith, (points.columns.level refl).1))
no_heading NE from points = absurd (omega (arith, (points.rows.level refl).0))
no_heading SE from points = absurd (omega (arith, (points.rows.level refl).1))
no_heading SW from points = absurd (omega (arith, (points.rows.level refl).1))
no_heading NW from points = absurd (omega (arith, (points.rows.level refl).0))

-- how many steps lead ahead
far_ahead : (steps n : ℕ) (columns rows : ℕ) → columns ≤ steps → rows ≤ steps → (steps ≡ columns) ⊎ (steps ≡ rows)
    → columns ≤ n → rows ≤ n → (columns ≡ n) ⊎ (rows ≡ n) → n ≡ steps
far_ahead steps n columns rows wide high (inl is) few low (inl same) = omega arith
far_ahead steps n columns rows wide high (inl is) few low (inr same) = omega arith
far_ahead steps n columns rows wide high (inr is) few low (inl same) = omega arith
far_ahead steps n columns rows wide high (inr is) few low (inr same) = omega arith

pub steps_ahead : (dir : Dir) (n steps : ℕ) (from to : Cell) → IsAhead dir n from to → gap from.i to.i ≤ steps → gap from.j to.j ≤ steps
    → (steps ≡ gap from.i to.i) ⊎ (steps ≡ gap from.j to.j) → n ≡ steps
steps_ahead N n steps from to ahead wide high one = let c = ahead.columns in let r = ahead.rows in far_ahead steps n (gap from.i to.i) (gap from.j to.j) wide high one (omega arith) (omega arith) (inr (omega arith))
steps_ahead E n steps from to ahead wide high one = let c = ahead.columns in let r = ahead.rows in far_ahead steps n (gap from.i to.i) (gap from.j to.j) wide high one (omega arith) (omega arith) (inl (omega arith))
steps_ahead S n steps from to ahead wide high one = let c = ahead.columns in let r = ahead.rows in far_ahead steps n (gap from.i to.i) (gap from.j to.j) wide high one (omega arith) (omega arith) (inr (omega arith))
steps_ahead W n steps from to ahead wide high one = let c = ahead.columns in let r = ahead.rows in far_ahead steps n (gap from.i to.i) (gap from.j to.j) wide high one (omega arith) (omega arith) (inl (omega arith))
steps_ahead NE n steps from to ahead wide high one = let c = ahead.columns in let r = ahead.rows in far_ahead steps n (gap from.i to.i) (gap from.j to.j) wide high one (omega arith) (omega arith) (inl (omega arith))
steps_ahead SE n steps from to ahead wide high one = let c = ahead.columns in let r = ahead.rows in far_ahead steps n (gap from.i to.i) (gap from.j to.j) wide high one (omega arith) (omega arith) (inl (omega arith))
steps_ahead SW n steps from to ahead wide high one = let c = ahead.columns in let r = ahead.rows in far_ahead steps n (gap from.i to.i) (gap from.j to.j) wide high one (omega arith) (omega arith) (inl (omega arith))
steps_ahead NW n steps from to ahead wide high one = let c = ahead.columns in let r = ahead.rows in far_ahead steps n (gap from.i to.i) (gap from.j to.j) wide high one (omega arith) (omega arith) (inl (omega arith))
