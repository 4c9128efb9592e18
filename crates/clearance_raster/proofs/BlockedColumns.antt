-- The window of a row holds its blocked columns.
use Rattle.std.proofs.Common.{w64, to_z, of_z, ◌^◌, ◌≡◌, ℕ, ◌+◌, ◌-◌, ◌*◌, ◌/◌, ◌%◌, ◌<◌, ◌≤◌, ◌↔◌, Bool, min, sym, ap, subst, ◌∙◌, ⊎_elim, arith, ℤ, pos, ◌+ℤ◌, ◌*ℤ◌, neg_ℤ, leb-true}
use Rattle.std.specs.Prelude.{unsigned_abs, IsTrue, IfNone, IsFalse, Option, Some, None}
use Rattle.std.proofs.lemmas.Int.{ints, to_z-of_z, fits_signed_from_abs}
use Rattle.std.proofs.lemmas.Grind.{div_ceil_times}
use Rattle.std.proofs.Math.Nat.{mul-le-mul_right, le-div_iff_mul-le}
use Rattle.std.proofs.lemmas.Bool.{both_ways, cases_lt, false_from_ne_true}
use Rattle.nav_types.specs.Cells.{cell_at}
use Rattle.fixed_point.specs.Plane.{square, from_centre, along, across, centre_along, centre_across, squared_past}
use Rattle.obstruction_shapes.specs.declared.shapes.Shape.{Shape}
use Rattle.obstruction_shapes.specs.Shapes.{turned_of}
use Rattle.obstruction_shapes.specs.Blocking.{blocked}
use Rattle.obstruction_shapes.proofs.Turning.{within}
use Rattle.obstruction_shapes.proofs.Runs.{along_step, across_step}

-- how far the middle of a blocked cell lies from the shape's, along the unit vector and across it
pub record IsWithin (shape : Shape) (clearance : ℤ) (i j : ℕ) : Type 0 where
  pub along : unsigned_abs (centre_along (turned_of shape) i j) ≤ 65536 * unsigned_abs (turned_of shape).hw + 65536 * unsigned_abs clearance
  pub across : unsigned_abs (centre_across (turned_of shape) i j) ≤ 65536 * unsigned_abs (turned_of shape).hh + 65536 * unsigned_abs clearance

pub blocked_within : (shape : Shape) (clearance : ℤ) (i j : ℕ) → IsTrue (blocked shape clearance (cell_at i j)) → IsWithin shape clearance i j
unfolding blocked
blocked_within shape clearance i j hit =
    let s = turned_of shape in
    let d = unsigned_abs (centre_along s i j) in let e = unsigned_abs (centre_across s i j) in
    let w = unsigned_abs s.hw in let h = unsigned_abs s.hh in let c = unsigned_abs clearance in
    let near : (d - 65536 * w) * (d - 65536 * w) + (e - 65536 * h) * (e - 65536 * h) ≤ (65536 * c) * (65536 * c)
    = leb-true (squared_past s i j) (square (65536 * c)) hit in
    let near_d : d ≤ 65536 * (w + c) = within d w c ((e - 65536 * h) * (e - 65536 * h)) near in
    let near_e : e ≤ 65536 * (h + c) = within e h c ((d - 65536 * w) * (d - 65536 * w)) (omega arith) in
    record { along = omega arith; across = omega arith }

-- both lengths of a column, from those of the first one
pub along_from : (shape : Shape) (first j k : ℕ)
    → centre_along (turned_of shape) (first + k) j ≡ centre_along (turned_of shape) first j +ℤ pos (65536 * k) *ℤ (turned_of shape).ux
along_from shape first j k =
    let s = turned_of shape in let pz = from_centre j s.z in
    let step : from_centre (first + k) s.x ≡ from_centre first s.x +ℤ pos (65536 * k) = omega (arith, ints) in
    ap (λ (p : ℤ). along s p pz) step ∙ along_step (from_centre first s.x) s.ux (pz *ℤ s.uz) (65536 * k)

pub across_from : (shape : Shape) (first j k : ℕ)
    → centre_across (turned_of shape) (first + k) j ≡ centre_across (turned_of shape) first j +ℤ pos (65536 * k) *ℤ neg_ℤ (turned_of shape).uz
across_from shape first j k =
    let s = turned_of shape in let pz = from_centre j s.z in
    let step : from_centre (first + k) s.x ≡ from_centre first s.x +ℤ pos (65536 * k) = omega (arith, ints) in
    ap (λ (p : ℤ). across s p pz) step ∙ across_step (from_centre first s.x) s.uz (pz *ℤ s.ux) (65536 * k)

-- the multiples of a number from one bound to another lie between two quotients
pub ceil_iff : (a b k : ℕ) → 0 < b → ((a / b + min 1 (a % b) ≤ k) ↔ (a ≤ k * b))
ceil_iff a b k some_step =
    let bounds = div_ceil_times a b some_step in
    let least = bounds.0 in let most = bounds.1 in (
      λ from. let more : (a / b + min 1 (a % b)) * b ≤ k * b = mul-le-mul_right b from in omega arith,
      λ reached. ⊎_elim
          (λ (below : k < a / b + min 1 (a % b)). let more : (k + 1) * b ≤ (a / b + min 1 (a % b)) * b = mul-le-mul_right b (omega arith) in absurd (omega arith))
          (λ (from : a / b + min 1 (a % b) ≤ k). from)
          (cases_lt k (a / b + min 1 (a % b))),
    )

pub multiples : (least greatest step end k first last : ℕ) → 0 < step → k ≤ end → first ≡ least / step + min 1 (least % step) → last ≡ min (greatest / step) end
    → (((first ≤ k) × (k ≤ last)) ↔ ((least ≤ k * step) × (k * step ≤ greatest)))
multiples least greatest step end k first last some_step within first_is last_is =
    let low = ceil_iff least step k some_step in
    let high = le-div_iff_mul-le {k = step} {x = k} {y = greatest} some_step in (
      λ both. (low.0 (subst (λ (f : ℕ). f ≤ k) first_is both.0), high.0 (let last_le = both.1 in omega arith)),
      λ both. (subst (λ (f : ℕ). f ≤ k) (sym first_is) (low.1 both.0), let below = high.1 both.1 in omega arith),
    )

-- a length that changes by `slope` is near 0 exactly where the rise of its magnitude lies between two bounds
pub near_is : (start rising slope : ℤ) (most least greatest speed k : ℕ)
    → ((n : ℕ) → unsigned_abs (rising +ℤ pos (n * unsigned_abs slope)) ≡ unsigned_abs (start +ℤ pos n *ℤ slope))
    → ((n : ℕ) → (((least ≤ n) × (n ≤ greatest)) ↔ (unsigned_abs (rising +ℤ pos n) ≤ most)))
    → speed ≡ unsigned_abs slope
    → (((least ≤ k * (65536 * speed)) × (k * (65536 * speed) ≤ greatest)) ↔ (unsigned_abs (start +ℤ pos (65536 * k) *ℤ slope) ≤ most))
near_is start rising slope most least greatest speed k far near is =
    let same : k * (65536 * speed) ≡ 65536 * k * unsigned_abs slope = ap (λ (s : ℕ). k * (65536 * s)) is ∙ omega arith in
    subst (λ (d : ℕ). ((least ≤ k * (65536 * speed)) × (k * (65536 * speed) ≤ greatest)) ↔ (d ≤ most)) (far (65536 * k))
    (subst (λ (n : ℕ). ((least ≤ n) × (n ≤ greatest)) ↔ (unsigned_abs (rising +ℤ pos (65536 * k * unsigned_abs slope)) ≤ most)) (sym same)
    (near (65536 * k * unsigned_abs slope)))

-- what follows where there is no value
pub if_none_then : {X : Type 0} (r : Option X) {P Q : Type 0} → IfNone r P → (P → Q) → IfNone r Q
if_none_then None holds then = then holds
if_none_then (Some x) holds then = holds

pub if_none : {X : Type 0} (r : Option X) {P : Type 0} → P → IfNone r P
if_none None holds = holds
if_none (Some x) holds = tt

-- no column from i0 to i1 is hit where none is, counted from i0
pub none_from : (hit : ℕ → Bool) (i0 i1 : ℕ) → ((k : ℕ) → k ≤ i1 - i0 → ¬ IsTrue (hit (i0 + k)))
    → (i : ℕ) → i0 ≤ i → i ≤ i1 → IsFalse (hit i)
none_from hit i0 i1 none i west east =
    let same : i0 + (i - i0) ≡ i = omega arith in
    false_from_ne_true (hit i) (λ holds. none (i - i0) (omega arith) (subst (λ (x : ℕ). IsTrue (hit x)) (sym same) holds))

-- the hit columns, counted from i0, are those of a run
pub run_from : (hit : ℕ → Bool) (i0 i1 first last : ℕ) → ((k : ℕ) → k ≤ i1 - i0 → IsTrue (hit (i0 + k)) → (first ≤ k) × (k ≤ last))
    → (i : ℕ) → i0 ≤ i → i ≤ i1 → IsTrue (hit i) → (i0 + first ≤ i) × (i ≤ i0 + last)
run_from hit i0 i1 first last run i west east holds =
    let same : i0 + (i - i0) ≡ i = omega arith in
    let from = run (i - i0) (omega arith) (subst (λ (x : ℕ). IsTrue (hit x)) (sym same) holds) in
    let low = from.0 in let high = from.1 in
    (omega arith, omega arith)

-- how far a blocked column lies along the unit vector and across it, counted from a first column
pub along_near : (shape : Shape) (clearance : ℤ) (first j k most : ℕ) (start slope : ℤ)
    → start ≡ centre_along (turned_of shape) first j → slope ≡ (turned_of shape).ux
    → most ≡ 65536 * unsigned_abs (turned_of shape).hw + 65536 * unsigned_abs clearance
    → IsTrue (blocked shape clearance (cell_at (first + k) j)) → unsigned_abs (start +ℤ pos (65536 * k) *ℤ slope) ≤ most
along_near shape clearance first j k most start slope start_is slope_is most_is hit =
    let near = (blocked_within shape clearance (first + k) j hit).along in
    let moved = ap unsigned_abs (along_from shape first j k) in
    rw (start_is, slope_is, most_is) (subst (λ (d : ℕ). d ≤ 65536 * unsigned_abs (turned_of shape).hw + 65536 * unsigned_abs clearance) moved near)

pub across_near : (shape : Shape) (clearance : ℤ) (first j k most : ℕ) (start slope : ℤ)
    → start ≡ centre_across (turned_of shape) first j → slope ≡ neg_ℤ (turned_of shape).uz
    → most ≡ 65536 * unsigned_abs (turned_of shape).hh + 65536 * unsigned_abs clearance
    → IsTrue (blocked shape clearance (cell_at (first + k) j)) → unsigned_abs (start +ℤ pos (65536 * k) *ℤ slope) ≤ most
across_near shape clearance first j k most start slope start_is slope_is most_is hit =
    let near = (blocked_within shape clearance (first + k) j hit).across in
    let moved = ap unsigned_abs (across_from shape first j k) in
    rw (start_is, slope_is, most_is) (subst (λ (d : ℕ). d ≤ 65536 * unsigned_abs (turned_of shape).hh + 65536 * unsigned_abs clearance) moved near)

-- a small number, as the code passes it on
pub read_back : (z : ℤ) → unsigned_abs z ≤ 2 ^ 51 → to_z w64 (of_z w64 z) ≡ z
read_back z small = to_z-of_z w64 z (fits_signed_from_abs w64 z (omega arith))

pub small_back : (z : ℤ) (most : ℕ) → most ≤ 2 ^ 51 → unsigned_abs z ≤ most → unsigned_abs (to_z w64 (of_z w64 z)) ≤ most
small_back z most low small = subst (λ (r : ℤ). unsigned_abs r ≤ most) (sym (read_back z (omega arith))) small

-- a column is hit exactly where it lies between the first and the last one, where all that are hit lie in a window
pub run_in_window : (hit : ℕ → Bool) (i0 i1 west east first last : ℕ) → ((i : ℕ) → first ≤ i → i ≤ last → IsTrue (hit i))
    → ((i : ℕ) → i0 ≤ i → i ≤ i1 → IsTrue (hit i) → (west ≤ i) × (i ≤ east))
    → ((i : ℕ) → west ≤ i → i < first → IsFalse (hit i)) → ((i : ℕ) → last < i → i ≤ east → IsFalse (hit i))
    → (i : ℕ) → i0 ≤ i → i ≤ i1 → (IsTrue (hit i) ↔ ((first ≤ i) × (i ≤ last)))
run_in_window hit i0 i1 west east first last between window before after i low high = (
  λ holds. let at = window i low high holds in (
    ⊎_elim (λ (below : i < first). absurd (both_ways (hit i) (before i at.0 below) holds)) (λ (from : first ≤ i). from) (cases_lt i first),
    ⊎_elim (λ (above : last < i). absurd (both_ways (hit i) (after i above at.1) holds)) (λ (to : i ≤ last). to) (cases_lt last i),
  ),
  λ both. between i both.0 both.1,
)

-- no column is hit where none of the window is
pub none_in_window : (hit : ℕ → Bool) (i0 i1 west east : ℕ) → ((i : ℕ) → i0 ≤ i → i ≤ i1 → IsTrue (hit i) → (west ≤ i) × (i ≤ east))
    → ((i : ℕ) → west ≤ i → i ≤ east → IsFalse (hit i)) → (i : ℕ) → i0 ≤ i → i ≤ i1 → IsFalse (hit i)
none_in_window hit i0 i1 west east window none i low high =
    false_from_ne_true (hit i) (λ holds. let at = window i low high holds in both_ways (hit i) (none i at.0 at.1) holds)
