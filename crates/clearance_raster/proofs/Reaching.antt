-- Where an obstruction can block cells: the part of a reach, and the greatest clearance.
use Rattle.std.proofs.Common.{◌≡◌, ◌≤◌, ◌<◌, ◌+◌, ◌*◌, ◌/◌, ◌^◌, ◌↔◌, ℕ, ℤ, Bool, true, false, List, length, refl, sym, ap, subst, ◌∙◌, ◌⊎◌, ⊎_elim, arith}
use Rattle.std.specs.Prelude.{unsigned_abs, IsTrue, IfSome, IfNone, Option, Some, None, option_map}
use Rattle.std.specs.Option.{option_map_or}
use Rattle.std.proofs.lemmas.Bool.{cases_lt, cases_eq, both_ways, and_parts}
use Rattle.std.proofs.lemmas.Option.{slice_get_past, none-some}
use Rattle.std.proofs.Math.Nat.{mul-le-mul_left}
use Rattle.nav_types.specs.declared.cells.Cell.{Cell}
use Rattle.nav_types.specs.declared.cells.Rect.{Rect}
use Rattle.nav_types.specs.declared.cells.Size.{Size}
use Rattle.nav_types.specs.Cells.{IsInside, IsInRect, IsRectInside}
use Rattle.lane_rows.specs.Rows.{has_class}
use Rattle.class_config.specs.declared.table.PassabilityClass.{PassabilityClass}
use Rattle.class_config.specs.Classes.{clearance_at}
use Rattle.obstruction_shapes.specs.declared.shapes.Obstruction.{Obstruction}
use Rattle.fixed_point.specs.Plane.{from_centre, centre_along, centre_across}
use Rattle.fixed_point.proofs.TurningBack.{column_back, row_back}
use Rattle.obstruction_shapes.specs.declared.shapes.Shape.{Shape}
use Rattle.obstruction_shapes.specs.Shapes.{turned_of, HasUnitVector}
use Rattle.obstruction_shapes.specs.Blocking.{blocked, IsNear}
use Rattle.obstruction_shapes.proofs.Near.{blocked_near, IsNear-rises}
use Rattle.clearance_raster.specs.Rasters.{blocks_class, IsGreatestClearance}
use Rattle.clearance_raster.proofs.BlockedColumns.{blocked_within}

-- a cell of a part lies in the map that holds the part
pub inside_map : (size : Size) (part : Rect) (cell : Cell) → IsRectInside size part → IsInRect part cell → IsInside size cell
inside_map size part cell is inside =
    let east = inside.east in let north = inside.north in
    let last_column = is.last_column in let last_row = is.last_row in
    record { column = omega arith; row = omega arith }

-- ---- how far blocked cells lie from a shape's middle

-- along an axis of the map, from bounds on both lengths
spread_one : (p u v d e w h : ℕ) → p * (u * u + v * v) ≤ u * d + v * e → 2 ^ 32 ≤ u * u + v * v + 2 ^ 25
    → d ≤ 65536 * w → e ≤ 65536 * h → p ≤ (u * w + v * h) / 65024
spread_one p u v d e w h back long near_d near_e =
    let first : u * d ≤ u * (65536 * w) = mul-le-mul_left u near_d in
    let second : v * e ≤ v * (65536 * h) = mul-le-mul_left v near_e in
    let least : p * (65536 * 65024) ≤ p * (u * u + v * v) = mul-le-mul_left p (omega arith) in
    omega arith

-- the middle of the cell lies within the spread, along both axes
pub record IsSpread (shape : Shape) (clearance : ℤ) (cell : Cell) : Type 0 where
  pub column : unsigned_abs (from_centre cell.i (turned_of shape).x)
      ≤ (unsigned_abs (turned_of shape).ux * (unsigned_abs (turned_of shape).hw + unsigned_abs clearance)
      + unsigned_abs (turned_of shape).uz * (unsigned_abs (turned_of shape).hh + unsigned_abs clearance)) / 65024
  pub row : unsigned_abs (from_centre cell.j (turned_of shape).z)
      ≤ (unsigned_abs (turned_of shape).uz * (unsigned_abs (turned_of shape).hw + unsigned_abs clearance)
      + unsigned_abs (turned_of shape).ux * (unsigned_abs (turned_of shape).hh + unsigned_abs clearance)) / 65024

pub blocked_spread : (shape : Shape) (clearance : ℤ) (cell : Cell) → HasUnitVector shape
    → IsTrue (blocked shape clearance cell) → IsSpread shape clearance cell
blocked_spread shape clearance cell unit hit =
    let s = turned_of shape in let px = from_centre cell.i s.x in let pz = from_centre cell.j s.z in
    let u = unsigned_abs s.ux in let v = unsigned_abs s.uz in
    let d = unsigned_abs (centre_along s cell.i cell.j) in let e = unsigned_abs (centre_across s cell.i cell.j) in
    let w = unsigned_abs s.hw + unsigned_abs clearance in let h = unsigned_abs s.hh + unsigned_abs clearance in
    let within = blocked_within shape clearance cell.i cell.j hit in
    let near_d : d ≤ 65536 * w = omega (arith, within.along) in
    let near_e : e ≤ 65536 * h = omega (arith, within.across) in
    let long : 2 ^ 32 ≤ u * u + v * v + 2 ^ 25 = unit.long in
    record {
      column = spread_one (unsigned_abs px) u v d e w h (column_back px pz s.ux s.uz) long near_d near_e;
      row = let along = spread_one (unsigned_abs pz) v u d e w h (row_back px pz s.ux s.uz) (omega (arith, long)) near_d near_e in along;
    }

-- ---- the common part of two rectangles

pub common_holds : (r : Option Rect) (part reach : Rect) (P : Cell → Type 0)
    → IfSome r (λ rect. (cell : Cell) → (IsInRect rect cell ↔ (IsInRect reach cell × IsInRect part cell)))
    → ((cell : Cell) → IsInRect part cell → P cell → IsInRect reach cell)
    → IfSome r (λ rect. (cell : Cell) → IsInRect part cell → P cell → IsInRect rect cell)
common_holds None part reach P cells reached = tt
common_holds (Some rect) part reach P cells reached = λ cell inside holds. (cells cell).1 (reached cell inside holds, inside)

pub common_none : (r : Option Rect) (part reach : Rect) (P : Cell → Type 0)
    → IfNone r ((cell : Cell) → IsInRect reach cell → ¬ IsInRect part cell)
    → ((cell : Cell) → IsInRect part cell → P cell → IsInRect reach cell)
    → IfNone r ((cell : Cell) → IsInRect part cell → ¬ P cell)
common_none None part reach P apart reached = λ cell inside holds. apart cell (reached cell inside holds) inside
common_none (Some rect) part reach P apart reached = tt

-- ---- the greatest clearance

-- the greatest clearance of the classes of the mask below `number`
pub record IsGreatestBelow (mask : ℕ) (classes : List PassabilityClass) (number : ℕ) (greatest : ℤ) : Type 0 where
  pub class : ℕ
  pub in_mask : IsTrue (has_class class mask)
  pub of_class : clearance_at classes class ≡ Some greatest
  pub most : (k : ℕ) (clearance : ℤ) → k < number → IsTrue (has_class k mask) → clearance_at classes k ≡ Some clearance
      → unsigned_abs clearance ≤ unsigned_abs greatest

-- no class below `number` is in the mask
abbrev pub IsNoneBelow : ℕ → ℕ → Type 0
IsNoneBelow mask number = (k : ℕ) → k < number → ¬ IsTrue (has_class k mask)

-- what is found among the classes below `number`
abbrev pub IsFound : ℕ → List PassabilityClass → ℕ → Option ℤ → Type 0
IsFound mask classes number found = IfSome found (IsGreatestBelow mask classes number) × IfNone found (IsNoneBelow mask number)

low_or_same : (k number : ℕ) → k < number + 1 → (k ≡ number → ⊥) → k < number
low_or_same k number low other = ⊎_elim (λ (less : k < number). less) (λ (more : number ≤ k). absurd (other (omega arith))) (cases_lt k number)

-- a class outside the mask changes nothing
pub found_kept : (mask : ℕ) (classes : List PassabilityClass) (number : ℕ) (found : Option ℤ) → ¬ IsTrue (has_class number mask)
    → IsFound mask classes number found → IsFound mask classes (number + 1) found
found_kept mask classes number None out is = (
  tt,
  λ k low in_mask. is.1 k (low_or_same k number low (λ same. out (subst (λ (i : ℕ). IsTrue (has_class i mask)) same in_mask))) in_mask,
)
found_kept mask classes number (Some greatest) out is = (
  record {
    class = is.0.class;
    in_mask = is.0.in_mask;
    of_class = is.0.of_class;
    most = λ k clearance low in_mask has. is.0.most k clearance
        (low_or_same k number low (λ same. out (subst (λ (i : ℕ). IsTrue (has_class i mask)) same in_mask))) in_mask has;
  },
  tt,
)

same_clearance : (classes : List PassabilityClass) (a b : ℕ) (x y : ℤ) → a ≡ b → clearance_at classes a ≡ Some x → clearance_at classes b ≡ Some y
    → unsigned_abs x ≤ unsigned_abs y
same_clearance classes a b x y same has_x has_y =
    let is : Some x ≡ Some y = sym (subst (λ (i : ℕ). clearance_at classes i ≡ Some x) same has_x) ∙ has_y in
    let equal : x ≡ y = cc is in
    subst (λ (z : ℤ). unsigned_abs x ≤ unsigned_abs z) equal (omega arith)

-- the first class, or one that is taken for its greater clearance
pub found_first : (mask : ℕ) (classes : List PassabilityClass) (number : ℕ) (clearance : ℤ) → IsTrue (has_class number mask)
    → clearance_at classes number ≡ Some clearance
    → ((k : ℕ) (other : ℤ) → k < number → IsTrue (has_class k mask) → clearance_at classes k ≡ Some other → unsigned_abs other ≤ unsigned_abs clearance)
    → IsGreatestBelow mask classes (number + 1) clearance
found_first mask classes number clearance in_mask has below = record {
  class = number;
  in_mask = in_mask;
  of_class = has;
  most = λ k other low k_in k_has. ⊎_elim
      (λ (same : k ≡ number). same_clearance classes k number other clearance same k_has has)
      (λ (apart : k ≡ number → ⊥). below k other (low_or_same k number low apart) k_in k_has)
      (cases_eq k number);
}

-- the clearance that stays, where the class has no greater one
pub found_stays : (mask : ℕ) (classes : List PassabilityClass) (number : ℕ) (greatest clearance : ℤ)
    → clearance_at classes number ≡ Some clearance → unsigned_abs clearance ≤ unsigned_abs greatest
    → IsGreatestBelow mask classes number greatest → IsGreatestBelow mask classes (number + 1) greatest
found_stays mask classes number greatest clearance has less is = record {
  class = is.class;
  in_mask = is.in_mask;
  of_class = is.of_class;
  most = λ k other low k_in k_has. ⊎_elim
      (λ (same : k ≡ number).
      let equal = same_clearance classes k number other clearance same k_has has in omega arith)
      (λ (apart : k ≡ number → ⊥). is.most k other (low_or_same k number low apart) k_in k_has)
      (cases_eq k number);
}

-- one more class of the mask: its clearance is taken, or the greatest one stays
pub found_greater : (mask : ℕ) (classes : List PassabilityClass) (number : ℕ) (found : Option ℤ) (clearance next : ℤ)
    → IsTrue (has_class number mask) → clearance_at classes number ≡ Some clearance
    → IfNone found (next ≡ clearance) → IfSome found (λ other. (next ≡ clearance) ⊎ (next ≡ other))
    → IfSome found (λ other. unsigned_abs other ≤ unsigned_abs next) → unsigned_abs clearance ≤ unsigned_abs next
    → IsFound mask classes number found → IsFound mask classes (number + 1) (Some next)
found_greater mask classes number None clearance next in_mask has first same most least is = (
  found_first mask classes number next in_mask (has ∙ ap Some (sym first)) (λ k other low k_in k_has. absurd (is.1 k low k_in)),
  tt,
)
found_greater mask classes number (Some greatest) clearance next in_mask has first same most least is = (
  ⊎_elim
      (λ (taken : next ≡ clearance). found_first mask classes number next in_mask (has ∙ ap Some (sym taken))
      (λ k other low k_in k_has. let less = is.0.most k other low k_in k_has in omega (arith, most)))
      (λ (stays : next ≡ greatest). subst (λ (z : ℤ). IsGreatestBelow mask classes (number + 1) z) (sym stays)
      (found_stays mask classes number greatest clearance has
      (subst (λ (z : ℤ). unsigned_abs clearance ≤ unsigned_abs z) stays least) is.0))
      same,
  tt,
)

-- a class that has a clearance is in the table
in_table : (classes : List PassabilityClass) (k : ℕ) (clearance : ℤ) → clearance_at classes k ≡ Some clearance → k < length classes
in_table classes k clearance has = ⊎_elim
    (λ (below : k < length classes). below)
    (λ (past : length classes ≤ k).
    let none = ap (λ o. option_map (λ (found : PassabilityClass). found.clearance) o) (slice_get_past classes k past) in
    absurd (none-some clearance (sym none ∙ has)))
    (cases_lt k (length classes))

pub found_some : (mask : ℕ) (classes : List PassabilityClass) (number : ℕ) (found : Option ℤ) → length classes ≤ number
    → IsFound mask classes number found → IfSome found (IsGreatestClearance mask classes)
found_some mask classes number None all is = tt
found_some mask classes number (Some greatest) all is = record {
  class = is.0.class;
  in_mask = is.0.in_mask;
  of_class = is.0.of_class;
  most = λ k clearance k_in k_has. let low = in_table classes k clearance k_has in is.0.most k clearance (omega arith) k_in k_has;
}

pub found_none : (mask : ℕ) (classes : List PassabilityClass) (number : ℕ) (found : Option ℤ) → length classes ≤ number
    → IsFound mask classes number found
    → IfNone found ((k : ℕ) (clearance : ℤ) → IsTrue (has_class k mask) → ¬ (clearance_at classes k ≡ Some clearance))
found_none mask classes number None all is = λ k clearance k_in k_has. let low = in_table classes k clearance k_has in is.1 k (omega arith) k_in
found_none mask classes number (Some greatest) all is = tt

-- ---- blocked for a class, near for the greatest clearance

map_some : (f : ℤ → Bool) (o : Option ℤ) → option_map_or f o false ≡ true → (c : ℤ) × ((o ≡ Some c) × (f c ≡ true))
map_some f None is = absurd (both_ways false refl is)
map_some f (Some c) is = (c, (refl, is))

pub near_where_blocked : (obstruction : Obstruction) (classes : List PassabilityClass) (greatest : ℤ) (k : ℕ) (cell : Cell) → HasUnitVector obstruction.shape
    → IsGreatestClearance obstruction.mask classes greatest → IsTrue (blocks_class obstruction classes k cell) → IsNear obstruction.shape greatest cell
near_where_blocked obstruction classes greatest k cell unit is blocks =
    let hit : ℤ → Bool = λ clearance. blocked obstruction.shape clearance cell in
    let parts = and_parts (has_class k obstruction.mask) (option_map_or hit (clearance_at classes k) false) blocks in
    let found = map_some hit (clearance_at classes k) parts.1 in
    let clearance = found.0 in
    IsNear-rises obstruction.shape clearance greatest cell (is.most k clearance parts.0 found.1.0)
    (blocked_near obstruction.shape clearance cell unit found.1.1)

-- nothing is blocked where no class of the mask has a clearance
pub none_blocked : (obstruction : Obstruction) (classes : List PassabilityClass) (k : ℕ) (cell : Cell)
    → ((class : ℕ) (clearance : ℤ) → IsTrue (has_class class obstruction.mask) → ¬ (clearance_at classes class ≡ Some clearance))
    → ¬ IsTrue (blocks_class obstruction classes k cell)
none_blocked obstruction classes k cell none blocks =
    let hit : ℤ → Bool = λ clearance. blocked obstruction.shape clearance cell in
    let parts = and_parts (has_class k obstruction.mask) (option_map_or hit (clearance_at classes k) false) blocks in
    let found = map_some hit (clearance_at classes k) parts.1 in
    none k found.0 parts.0 found.1.0
