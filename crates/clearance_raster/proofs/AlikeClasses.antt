-- Classes of one clearance get their bits together.
use Rattle.std.proofs.Common.{◌≡◌, ℕ, ◌+◌, ◌*◌, ◌^◌, ◌%◌, ◌<◌, ◌≤◌, ◌↔◌, ⊎_elim, Bool, true, false, not, ◌&&◌, ◌||◌, ◌==◌, max, List, length, refl, sym, ap, subst, w16, ◌∙◌, arith, ℤ, Some}
use Rattle.std.specs.Prelude.{bit_or, IsTrue, option_map}
use Rattle.std.specs.Int.{bit_at}
use Rattle.std.specs.Option.{option_map_or}
use Rattle.std.proofs.lemmas.Nat.Bits.{bit_at_or, bit_at_set_same, bit_at_set_other}
use Rattle.std.proofs.lemmas.Bool.{cases_lt, cases_eq, both_ways, and_parts, eq-eqb, ne_eqb}
use Rattle.std.proofs.lemmas.Option.{slice_get_past, none-some}
use Rattle.std.proofs.Math.Bool.{or-true, or-false}
use Rattle.nav_types.specs.declared.cells.Cell.{Cell}
use Rattle.nav_types.specs.declared.cells.Rect.{Rect}
use Rattle.lane_rows.specs.Rows.{has_class, one_if}
use Rattle.obstruction_shapes.specs.declared.shapes.Obstruction.{Obstruction}
use Rattle.obstruction_shapes.specs.Blocking.{blocked}
use Rattle.class_config.specs.declared.table.PassabilityClass.{PassabilityClass}
use Rattle.class_config.specs.Classes.{clearance_at}
use Rattle.clearance_raster.specs.Rasters.{blocks_class}
use Rattle.clearance_raster.specs.inner.TestRasters.{IsRasterIn}
use Rattle.clearance_raster.proofs.Rastering.{Test, Numbers, part_both, part_alike, one_if-has_class}

either : (x y : Bool) → (max (one_if x) (one_if y) == 1) ≡ (x || y)
either true true = refl
either true false = refl
either false true = refl
either false false = refl

-- a class is in two masks put together where it is in one of them
pub in_both : (k m n : ℕ) → has_class k (bit_or m n) ≡ (has_class k m || has_class k n)
in_both k m n = ap (λ b. b == 1) (bit_at_or m n k ∙ ap (λ b. max (bit_at m k) b) (sym (one_if-has_class k n)) ∙ ap (λ b. max b (one_if (has_class k n))) (sym (one_if-has_class k m)))
    ∙ either (has_class k m) (has_class k n)

-- the mask's classes that have this clearance
abbrev pub AreAlike : List PassabilityClass → ℤ → ℕ → ℕ → Type 0
AreAlike classes clearance mask alike = (k : ℕ) → IsTrue (has_class k alike) ↔ (IsTrue (has_class k mask) × (clearance_at classes k ≡ Some clearance))

pub same_mask : (classes : List PassabilityClass) (clearance : ℤ) (given mask alike : ℕ) → given ≡ mask
    → AreAlike classes clearance given alike → AreAlike classes clearance mask alike
same_mask classes clearance given mask alike same are = subst (λ (m : ℕ). AreAlike classes clearance m alike) same are

-- such a class is blocked where the shape blocks with the clearance
blocks_alike : (obstruction : Obstruction) (classes : List PassabilityClass) (clearance : ℤ) (k : ℕ) (cell : Cell) → IsTrue (has_class k obstruction.mask)
    → clearance_at classes k ≡ Some clearance → blocks_class obstruction classes k cell ≡ blocked obstruction.shape clearance cell
blocks_alike obstruction classes clearance k cell in_mask is =
    ap (λ b. b && option_map_or (λ c. blocked obstruction.shape c cell) (clearance_at classes k) false) in_mask
    ∙ ap (λ c. option_map_or (λ c. blocked obstruction.shape c cell) c false) is

spread : (d a x y : Bool) → (a ≡ true → x ≡ y) → ((d && x) || (a && y)) ≡ ((d || a) && x)
spread true true true y same = refl
spread true true false y same = sym (same refl)
spread false true x y same = sym (same refl)
spread true false true y same = refl
spread true false false y same = refl
spread false false x y same = refl

-- the classes done, and those of one clearance more, which were painted
pub more_done : (rect part : Rect) (obstruction : Obstruction) (classes : List PassabilityClass) (clearance painted : ℤ) (done alike given : ℕ) (a b c : Numbers)
    → painted ≡ clearance → given ≡ alike
    → AreAlike classes clearance obstruction.mask alike
    → IsRasterIn rect part (λ k cell. has_class k done && blocks_class obstruction classes k cell) a b
    → IsRasterIn rect part (λ k cell. has_class k given && blocked obstruction.shape painted cell) b c
    → IsRasterIn rect part (λ k cell. has_class k (bit_or done alike) && blocks_class obstruction classes k cell) a c
more_done rect part obstruction classes clearance painted done alike given a b c painted_is given_is are one two =
    let first : Test = λ k cell. has_class k done && blocks_class obstruction classes k cell in
    let second : Test = λ k cell. has_class k given && blocked obstruction.shape painted cell in
    part_alike rect part (λ k cell. first k cell || second k cell) (λ k cell. has_class k (bit_or done alike) && blocks_class obstruction classes k cell) a c
    (λ k cell inside. ap (λ g. first k cell || has_class k g && blocked obstruction.shape painted cell) given_is
    ∙ spread (has_class k done) (has_class k alike) (blocks_class obstruction classes k cell) (blocked obstruction.shape painted cell)
    (λ is. let both = (are k).0 is in
    blocks_alike obstruction classes clearance k cell both.0 both.1
    ∙ ap (λ c. blocked obstruction.shape c cell) (sym painted_is))
    ∙ ap (λ b. b && blocks_class obstruction classes k cell) (sym (in_both k done alike)))
    (part_both rect part first second a b c one two)

-- the mask's classes below `number` are done
abbrev pub AreDone : ℕ → ℕ → ℕ → Type 0
AreDone mask done number = (k : ℕ) → k < number → IsTrue (has_class k mask) → IsTrue (has_class k done)

only_false : (d x : Bool) → (x ≡ true → d ≡ true) → (d && x) ≡ x
only_false true x in_done = refl
only_false false true in_done = in_done refl
only_false false false in_done = refl

-- a class past the table's end blocks nothing
in_table : (obstruction : Obstruction) (classes : List PassabilityClass) (k : ℕ) (cell : Cell)
    → blocks_class obstruction classes k cell ≡ true → k < length classes
in_table obstruction classes k cell blocks = ⊎_elim
    (λ (below : k < length classes). below)
    (λ (past : length classes ≤ k).
    let parts = and_parts (has_class k obstruction.mask) (option_map_or (λ c. blocked obstruction.shape c cell) (clearance_at classes k) false) blocks in
    let none = ap (λ o. option_map_or (λ c. blocked obstruction.shape c cell) (option_map (λ (found : PassabilityClass). found.clearance) o) false) (slice_get_past classes k past) in
    absurd (both_ways (option_map_or (λ c. blocked obstruction.shape c cell) (clearance_at classes k) false) none parts.1))
    (cases_lt k (length classes))

-- all classes are done
pub all_done : (rect part : Rect) (obstruction : Obstruction) (classes : List PassabilityClass) (done : ℕ) (a b : Numbers)
    → AreDone obstruction.mask done (length classes)
    → IsRasterIn rect part (λ k cell. has_class k done && blocks_class obstruction classes k cell) a b
    → IsRasterIn rect part (λ k cell. blocks_class obstruction classes k cell) a b
all_done rect part obstruction classes done a b are is =
    part_alike rect part (λ k cell. has_class k done && blocks_class obstruction classes k cell) (λ k cell. blocks_class obstruction classes k cell) a b
    (λ k cell inside. only_false (has_class k done) (blocks_class obstruction classes k cell)
    (λ blocks. are k (in_table obstruction classes k cell blocks)
    (and_parts (has_class k obstruction.mask) (option_map_or (λ c. blocked obstruction.shape c cell) (clearance_at classes k) false) blocks).0))
    is

-- ---- the loops

-- the classes of the mask below `number` that have this clearance
abbrev pub AreFound : List PassabilityClass → ℤ → ℕ → ℕ → ℕ → Type 0
AreFound classes clearance mask found number = (k : ℕ) → IsTrue (has_class k found) ↔ ((k < number) × (IsTrue (has_class k mask) × (clearance_at classes k ≡ Some clearance)))

-- a mask that gets one class more
with_class : (found number k : ℕ) → number < 16 → has_class k (bit_or found (1 * 2 ^ number % 65536)) ≡ (has_class k found || k == number)
with_class found number k small = ⊎_elim
    (λ (same : k ≡ number).
    ap (λ b. b == 1) (ap (λ i. bit_at (bit_or found (1 * 2 ^ number % 65536)) i) same ∙ bit_at_set_same w16 found number small)
    ∙ sym (ap (λ b. has_class k found || b) (eq-eqb k number same) ∙ or-true (has_class k found)))
    (λ (other : k ≡ number → ⊥).
    ap (λ b. b == 1) (bit_at_set_other w16 found number small k other)
    ∙ sym (ap (λ b. has_class k found || b) (ne_eqb k number other) ∙ or-false (has_class k found)))
    (cases_eq k number)

pub found_more : (classes : List PassabilityClass) (clearance : ℤ) (mask found number : ℕ) → number < 16
    → AreFound classes clearance mask found number → IsTrue (has_class number mask) × (clearance_at classes number ≡ Some clearance)
    → AreFound classes clearance mask (bit_or found (1 * 2 ^ number % 65536)) (number + 1)
found_more classes clearance mask found number small are is k = (
  λ set. ⊎_elim
      (λ (same : k ≡ number). (omega arith, subst (λ (i : ℕ). IsTrue (has_class i mask) × (clearance_at classes i ≡ Some clearance)) (sym same) is))
      (λ (other : k ≡ number → ⊥).
      let before = (are k).0 (sym (or-false (has_class k found)) ∙ ap (λ b. has_class k found || b) (sym (ne_eqb k number other)) ∙ sym (with_class found number k small) ∙ set) in
      let below = before.0 in (omega arith, before.1))
      (cases_eq k number),
  λ both. ⊎_elim
      (λ (same : k ≡ number). with_class found number k small ∙ ap (λ b. has_class k found || b) (eq-eqb k number same) ∙ or-true (has_class k found))
      (λ (other : k ≡ number → ⊥).
      let low = both.0 in
      let below : k < number = ⊎_elim (λ (less : k < number). less) (λ (more : number ≤ k). absurd (other (omega arith))) (cases_lt k number) in
      with_class found number k small ∙ ap (λ b. b || k == number) ((are k).1 (below, both.1)))
      (cases_eq k number),
)

pub found_kept : (classes : List PassabilityClass) (clearance : ℤ) (mask found number : ℕ)
    → AreFound classes clearance mask found number → ¬ (IsTrue (has_class number mask) × (clearance_at classes number ≡ Some clearance))
    → AreFound classes clearance mask found (number + 1)
found_kept classes clearance mask found number are not_is k = (
  λ set. let before = (are k).0 set in let below = before.0 in (omega arith, before.1),
  λ both. let low = both.0 in ⊎_elim
      (λ (same : k ≡ number). absurd (not_is (subst (λ (i : ℕ). IsTrue (has_class i mask) × (clearance_at classes i ≡ Some clearance)) same both.1)))
      (λ (other : k ≡ number → ⊥).
      let below : k < number = ⊎_elim (λ (less : k < number). less) (λ (more : number ≤ k). absurd (other (omega arith))) (cases_lt k number) in
      (are k).1 (below, both.1))
      (cases_eq k number),
)

-- a class that has a clearance is in the table
pub found_all : (classes : List PassabilityClass) (clearance : ℤ) (mask found number : ℕ) → length classes ≤ number
    → AreFound classes clearance mask found number → AreAlike classes clearance mask found
found_all classes clearance mask found number all are k = (
  λ set. ((are k).0 set).1,
  λ both. ⊎_elim
      (λ (below : k < number). (are k).1 (below, both))
      (λ (past : number ≤ k).
      let none = ap (λ o. option_map (λ (found : PassabilityClass). found.clearance) o) (slice_get_past classes k (omega arith)) in
      absurd (none-some clearance (sym none ∙ both.1)))
      (cases_lt k number),
)

pub done_more : (classes : List PassabilityClass) (clearance : ℤ) (mask done alike number : ℕ) → AreDone mask done number
    → AreAlike classes clearance mask alike → clearance_at classes number ≡ Some clearance → AreDone mask (bit_or done alike) (number + 1)
done_more classes clearance mask done alike number are alike_are is k low in_mask = ⊎_elim
    (λ (same : k ≡ number).
    let set = (alike_are k).1 (in_mask, subst (λ (i : ℕ). clearance_at classes i ≡ Some clearance) (sym same) is) in
    in_both k done alike ∙ ap (λ b. has_class k done || b) set ∙ or-true (has_class k done))
    (λ (other : k ≡ number → ⊥).
    let below : k < number = ⊎_elim (λ (less : k < number). less) (λ (more : number ≤ k). absurd (other (omega arith))) (cases_lt k number) in
    in_both k done alike ∙ ap (λ b. b || has_class k alike) (are k below in_mask))
    (cases_eq k number)

not_left : (m d : Bool) → (m && not d) ≡ false → m ≡ true → d ≡ true
not_left true true fails holds = refl
not_left true false fails holds = sym fails
not_left false d fails holds = absurd (both_ways false refl holds)

pub done_kept : (mask done number : ℕ) → AreDone mask done number → (has_class number mask && not (has_class number done)) ≡ false
    → AreDone mask done (number + 1)
done_kept mask done number are fails k low in_mask = ⊎_elim
    (λ (same : k ≡ number). subst (λ (i : ℕ). IsTrue (has_class i done)) (sym same)
    (not_left (has_class number mask) (has_class number done) fails (subst (λ (i : ℕ). IsTrue (has_class i mask)) same in_mask)))
    (λ (other : k ≡ number → ⊥).
    are k (⊎_elim (λ (less : k < number). less) (λ (more : number ≤ k). absurd (other (omega arith))) (cases_lt k number)) in_mask)
    (cases_eq k number)
