-- Bits that are set one after another in a patch.
use Rattle.std.proofs.Common.{◌≡◌, ℕ, ◌+◌, ◌<◌, ◌≤◌, ◌==◌, ◌⊎◌, inl, inr, Bool, true, false, ◌||◌, max, List, [], ◌∷◌}
use Rattle.std.proofs.Common.{length, get_or, drop, refl, sym, ap, subst, ◌∙◌, arith}
use Rattle.std.specs.Int.{bit_at}
use Rattle.std.specs.List.{list_any}
use Rattle.std.proofs.lemmas.Nat.Bits.{bit_at-lt}
use Rattle.std.proofs.lemmas.Bool.{both_ways, eq-eqb, eqb-true}
use Rattle.std.proofs.lemmas.List.{drop_more}
use Rattle.std.proofs.Math.ListN.{drop_of_length-le}
use Rattle.std.proofs.Math.Bool.{or-true, or-false}
use Rattle.std.proofs.Math.Nat.{max-zero}
use Rattle.nav_types.specs.declared.cells.Cell.{Cell}
use Rattle.nav_types.specs.declared.cells.Rect.{Rect}
use Rattle.nav_types.specs.Cells.{IsInRect}
use Rattle.nav_types.specs.Rects.{IsPartOf}
use Rattle.lane_rows.specs.Rows.{has_class, one_if}
use Rattle.clearance_raster.specs.inner.TestRasters.{IsRasterIn}
use Rattle.clearance_raster.proofs.Rastering.{Test, Numbers, in_whole, part_none, part_both}
use Rattle.class_planes.proofs.UpdateLemmas.{in_rect_or_not}

-- ---- one item after another

-- what all items set: all numbers that are the rest's raster of these are the raster of all of the first ones
pub record Ends {X : Type 0} (rect part : Rect) (test : ℕ → Cell → X → Bool) (all rest : List X) (first now : Numbers)
    : Type 0 where
  pub ends : (final : Numbers) → IsRasterIn rect part (λ k cell. list_any (test k cell) rest) now final
      → IsRasterIn rect part (λ k cell. list_any (test k cell) all) first final

pub Ends-none : {X : Type 0} (rect part : Rect) (test : ℕ → Cell → X → Bool) (all : List X) (first : Numbers)
    → Ends rect part test all all first first
Ends-none rect part test all first = record { ends = λ final is. is }

pub Ends-more : {X : Type 0} (rect part : Rect) (test : ℕ → Cell → X → Bool) (all rest : List X) (item : X)
    (first now new : Numbers) → Ends rect part test all (item ∷ rest) first now
    → IsRasterIn rect part (λ k cell. test k cell item) now new → Ends rect part test all rest first new
Ends-more rect part test all rest item first now new so one = record {
  ends = λ final is. so.ends final
      (part_both rect part (λ k cell. test k cell item) (λ k cell. list_any (test k cell) rest) now new final one is);
}

pub Ends-all : {X : Type 0} (rect part : Rect) (test : ℕ → Cell → X → Bool) (all : List X) (first now : Numbers)
    → Ends rect part test all [] first now → IsRasterIn rect part (λ k cell. list_any (test k cell) all) first now
Ends-all rect part test all first now so =
    so.ends now (part_none rect part (λ k cell. false) now (λ k cell inside. refl))

-- the same, for the items from a place on
pub Ends-at : {X : Type 0} (rect part : Rect) (test : ℕ → Cell → X → Bool) (all xs : List X) (i : ℕ) (d : X)
    (first now new : Numbers) → i < length xs → Ends rect part test all (drop i xs) first now
    → IsRasterIn rect part (λ k cell. test k cell (get_or xs i d)) now new
    → Ends rect part test all (drop (i + 1) xs) first new
Ends-at rect part test all xs i d first now new low so one =
    Ends-more rect part test all (drop (i + 1) xs) (get_or xs i d) first now new
    (subst (λ rest. Ends rect part test all rest first now) (drop_more xs i d low) so) one

pub Ends-past : {X : Type 0} (rect part : Rect) (test : ℕ → Cell → X → Bool) (all xs : List X) (i : ℕ)
    (first now : Numbers) → length xs ≤ i → Ends rect part test all (drop i xs) first now
    → IsRasterIn rect part (λ k cell. list_any (test k cell) all) first now
Ends-past rect part test all xs i first now past so =
    Ends-all rect part test all first now
    (subst (λ rest. Ends rect part test all rest first now) (drop_of_length-le xs past) so)

-- ---- a patch that is painted

-- a bit after a raster
pub class_after : (old new k : ℕ) (test : Bool) → bit_at new k ≡ max (bit_at old k) (one_if test)
    → has_class k new ≡ (has_class k old || test)
class_after old new k true is =
    let low = bit_at-lt old k in
    let set : bit_at new k ≡ 1 = omega (arith, is) in
    eq-eqb (bit_at new k) 1 set ∙ sym (or-true (has_class k old))
class_after old new k false is = ap (λ b. b == 1) (is ∙ max-zero (bit_at old k)) ∙ sym (or-false (has_class k old))

-- ---- bits that are set already

over_bit : (n k : ℕ) (listed all : Bool) → (listed ≡ true → all ≡ true)
    → (all ≡ true → (has_class k n ≡ true) ⊎ (listed ≡ true))
    → max (bit_at n k) (one_if listed) ≡ max (bit_at n k) (one_if all)
over_bit n k true true some each = refl
over_bit n k false false some each = refl
over_bit n k true false some each = absurd (both_ways false refl (some refl))
over_bit n k false true some each = elim (each refl) [
  | inl set ↦ let one : bit_at n k ≡ 1 = eqb-true (bit_at n k) 1 set in omega arith
  | inr holds ↦ absurd (both_ways false refl holds)
]

-- a test that holds where another one does, and besides only where the bit is set already
pub raster_over : (rect part : Rect) (listed all : Test) (old new : Numbers)
    → ((k : ℕ) (cell : Cell) → IsInRect part cell → listed k cell ≡ true → all k cell ≡ true)
    → ((k : ℕ) (cell : Cell) → IsInRect part cell → all k cell ≡ true
    → (has_class k (old cell) ≡ true) ⊎ (listed k cell ≡ true))
    → IsRasterIn rect part listed old new → IsRasterIn rect part all old new
raster_over rect part listed all old new some each is = record {
  bits = λ cell k inside. is.bits cell k inside
      ∙ over_bit (old cell) k (listed k cell) (all k cell) (some k cell inside) (each k cell inside);
  others = is.others;
}

-- where all that the rest would set is set already
pub Ends-set : {X : Type 0} (rect part : Rect) (test : ℕ → Cell → X → Bool) (all rest : List X) (first now : Numbers)
    → ((k : ℕ) (cell : Cell) → IsInRect part cell → list_any (test k cell) rest ≡ true → has_class k (now cell) ≡ true)
    → Ends rect part test all rest first now → IsRasterIn rect part (λ k cell. list_any (test k cell) all) first now
Ends-set rect part test all rest first now set so =
    so.ends now (raster_over rect part (λ k cell. false) (λ k cell. list_any (test k cell) rest) now now
    (λ k cell inside none. absurd (both_ways false refl none)) (λ k cell inside is. inl (set k cell inside is))
    (part_none rect part (λ k cell. false) now (λ k cell inside. refl)))

-- ---- a part of which some is left

-- in a part, but for what is left of it, what is blocked is set
abbrev pub Settled : Rect → Rect → Test → Numbers → Type 0
Settled part left blocked numbers = (k : ℕ) (cell : Cell) → IsInRect part cell → (IsInRect left cell → ⊥)
    → blocked k cell ≡ true → has_class k (numbers cell) ≡ true

-- less is left where the rest is like numbers that have all
pub settled_more : (part left rest : Rect) (blocked : Test) (now most : Numbers) → Settled part left blocked now
    → ((k : ℕ) (cell : Cell) → IsInRect left cell → (IsInRect rest cell → ⊥) → has_class k (now cell) ≡ has_class k (most cell))
    → ((k : ℕ) (cell : Cell) → IsInRect part cell → blocked k cell ≡ true → has_class k (most cell) ≡ true)
    → Settled part rest blocked now
settled_more part left rest blocked now most settled like all k cell inside out holds = in_rect_or_not left cell
    (λ here. like k cell here out ∙ all k cell inside holds)
    (λ apart. settled k cell inside apart holds)

-- nothing is left where all that was is like numbers that have all
pub settled_all : (part left : Rect) (blocked : Test) (now most : Numbers) → Settled part left blocked now
    → ((k : ℕ) (cell : Cell) → IsInRect left cell → has_class k (now cell) ≡ has_class k (most cell))
    → ((k : ℕ) (cell : Cell) → IsInRect part cell → blocked k cell ≡ true → has_class k (most cell) ≡ true)
    → (k : ℕ) (cell : Cell) → IsInRect part cell → blocked k cell ≡ true → has_class k (now cell) ≡ true
settled_all part left blocked now most settled like all k cell inside holds = in_rect_or_not left cell
    (λ here. like k cell here ∙ all k cell inside holds)
    (λ apart. settled k cell inside apart holds)

-- what is painted in what is left leaves the rest settled
pub settled_after : (rect part left : Rect) (blocked test : Test) (old new : Numbers) → IsPartOf rect part
    → Settled part left blocked old → IsRasterIn rect left test old new → Settled part left blocked new
settled_after rect part left blocked test old new whole settled is k cell inside out holds =
    ap (λ n. has_class k n) (is.others cell (in_whole rect part cell whole inside) out) ∙ settled k cell inside out holds

set_bit : (n k : ℕ) (test : Bool) → (test ≡ true → has_class k n ≡ true) → bit_at n k ≡ max (bit_at n k) (one_if test)
set_bit n k true set = let one : bit_at n k ≡ 1 = eqb-true (bit_at n k) 1 (set refl) in omega arith
set_bit n k false set = sym (max-zero (bit_at n k))

-- a raster of what is left of a part is one of the part, where elsewhere in it each bit is set already
pub raster_left : (rect part left : Rect) (test : Test) (old new : Numbers) → IsPartOf rect part → IsPartOf part left
    → Settled part left test old → IsRasterIn rect left test old new → IsRasterIn rect part test old new
raster_left rect part left test old new whole within settled is = record {
  bits = λ cell k inside. in_rect_or_not left cell
      (λ here. is.bits cell k here)
      (λ out. ap (λ n. bit_at n k) (is.others cell (in_whole rect part cell whole inside) out)
      ∙ set_bit (old cell) k (test k cell) (λ holds. settled k cell inside out holds));
  others = λ cell inside out. is.others cell inside (λ here. out (in_whole part left cell within here));
}

-- a part of a part
pub part_of_part : (rect part left : Rect) → IsPartOf rect part → IsPartOf part left → IsPartOf rect left
part_of_part rect part left whole within = record {
  first = in_whole rect part (record { j = left.j0; i = left.i0 }) whole within.first;
  last = in_whole rect part (record { j = left.j1; i = left.i1 }) whole within.last;
  columns = within.columns;
  rows = within.rows;
}
