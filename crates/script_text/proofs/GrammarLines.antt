-- The lines of the grammar are those that the forms give.
use Rattle.std.proofs.Common.{◌≡◌, ◌⊎◌, inl, inr, ℕ, ◌≤◌, ◌&&◌, List, [], ◌∷◌, Bool, true, false, cond, Option, Some, None, option_and_then, ℤ, refl, ap, sym, subst, ◌∙◌, nat_le, nat_lt}
use Rattle.std.specs.Prelude.{codes}
use Rattle.std.specs.Option.{option_or}
use Rattle.std.proofs.lemmas.Bool.{and_parts, leb-true, cond-true, and_from, le-leb}
use Rattle.std.proofs.lemmas.Bool.Decides.{Decides-ltb}
use Rattle.serde_json.specs.Data.{Data}
use Rattle.nav_types.specs.declared.cells.Rect.{Rect}
use Rattle.nav_types.specs.declared.cells.Size.{Size}
use Rattle.nav_types.specs.Cells.{IsRectInside}
use Rattle.nav_types.specs.Side.{IsSide}
use Rattle.fixed_point.specs.Text.{some_if}
use Rattle.class_config.specs.Forms.{has_keys}
use Rattle.class_config.specs.Classes.{classes_of}
use Rattle.class_config.specs.declared.table.PassabilityClass.{PassabilityClass}
use Rattle.fixed_point.specs.declared.plane.Rectangle.{Rectangle}
use Rattle.posts.specs.Maps.{Map, map_of as map_with}
use Rattle.script_text.specs.Values.{whole, whole_in, decimal, under, array_items, has_items, whole_at, decimal_at, both, all_three, point_of, round_of, rectangle_with, rectangle_of, is_side, size_by, size_with, size_of}
use Rattle.script_text.specs.Forms.{map_by, map_of, entry_by, entry_of, each, base_of, end_of}
use Rattle.script_text.specs.Grammar.{IsWholeNumber, IsDecimal, IsArray, rectangle_decimals, map_keys, base_keys, end_keys, IsMapLine, IsEntry, IsBaseLine, IsEndLine}
use Rattle.nav_types.proofs.Sizes.{same_size}
use Rattle.script_text.proofs.GrammarValues.{then_some, both_some, if_some, some_if-some, under_some, under_is, whole-is, whole-from, whole_in-is, whole_in-from, decimal-is, decimal-from, array_items-is, array_items-from, array-is, array-from, has_items-from, each-is, each-from}
use Rattle.script_text.proofs.GrammarClasses.{classes-is, classes-from}
use Rattle.script_text.proofs.Members.{open_one, open_four, has_keys-object, stand-object}

-- ---- options

pub all_three_some : {A B C : Type 0} (o : Option A) (p : Option B) (q : Option C) (r : A × B × C) → all_three o p q ≡ Some r
    → (o ≡ Some r.0) × (p ≡ Some r.1) × (q ≡ Some r.2)
all_three_some (Some x) (Some y) (Some z) r e = by_parts _ r e
  where
    by_parts : {A B C : Type 0} (a b : A × B × C) → Some a ≡ Some b → (Some a.0 ≡ Some b.0) × (Some a.1 ≡ Some b.1) × (Some a.2 ≡ Some b.2)
    by_parts a b e = let same : a ≡ b = cc in (ap (λ p. Some p.0) same, ap (λ p. Some p.1) same, ap (λ p. Some p.2) same)
all_three_some (Some x) (Some y) None r e = absurd (cc)
all_three_some (Some x) None q r e = absurd (cc)
all_three_some None p q r e = absurd (cc)

pub two_some : {A B : Type 0} (o : Option A) (p : Option B) (r : A × B) → both o p ≡ Some r → (o ≡ Some r.0) × (p ≡ Some r.1)
two_some o p r e = let parts = both_some o p r e in (parts.2 ∙ ap (λ q. Some q.0) parts.4, parts.3 ∙ ap (λ q. Some q.1) parts.4)

pub either_some : {A : Type 0} (b : Bool) (o p : Option A) (y : A) → cond b o p ≡ Some y → ((b ≡ true) × (o ≡ Some y)) ⊎ ((b ≡ false) × (p ≡ Some y))
either_some true o p y e = inl (refl, e)
either_some false o p y e = inr (refl, e)

pub or_some : {A : Type 0} (o p : Option A) (y : A) → option_or o p ≡ Some y → (o ≡ Some y) ⊎ (p ≡ Some y)
or_some None p y e = inr e
or_some (Some x) p y e = inl e

pub or_first : {A : Type 0} (o p : Option A) (y : A) → o ≡ Some y → option_or o p ≡ Some y
or_first o p y e = ap (λ q. option_or q p) e

pub or_second : {A : Type 0} (o p : Option A) (y : A) → o ≡ None → p ≡ Some y → option_or o p ≡ Some y
or_second o p y none e = ap (λ q. option_or q p) none ∙ e

-- ---- arrays of decimals

pub point-is : (d : Data) (p : ℤ × ℤ) → point_of d ≡ Some p → IsArray IsDecimal (p.0 ∷ p.1 ∷ []) d
unfolding point_of
point-is d p e =
    let test = if_some (has_items 2 d) (both (decimal_at 0 d) (decimal_at 1 d)) p e in
    let parts = two_some (decimal_at 0 d) (decimal_at 1 d) p test.1 in
    array-is decimal IsDecimal decimal-is (p.0 ∷ p.1 ∷ []) d test.0 (parts.0, (parts.1, tt))

pub point-from : (d : Data) (x z : ℤ) → IsArray IsDecimal (x ∷ z ∷ []) d → point_of d ≡ Some (x, z)
unfolding point_of
point-from d x z is =
    let parts = array-from decimal IsDecimal decimal-from (x ∷ z ∷ []) d is in
    cond-true (has_items 2 d) (both (decimal_at 0 d) (decimal_at 1 d)) None (has_items-from IsDecimal (x ∷ z ∷ []) d is)
    ∙ ap (λ o. both o (decimal_at 1 d)) parts.0 ∙ ap (λ o. both (Some x) o) parts.1.0

pub round-is : (d : Data) (p : ℤ × ℤ × ℤ) → round_of d ≡ Some p → IsArray IsDecimal (p.0 ∷ p.1 ∷ p.2 ∷ []) d
unfolding round_of
round-is d p e =
    let test = if_some (has_items 3 d) (all_three (decimal_at 0 d) (decimal_at 1 d) (decimal_at 2 d)) p e in
    let parts = all_three_some (decimal_at 0 d) (decimal_at 1 d) (decimal_at 2 d) p test.1 in
    array-is decimal IsDecimal decimal-is (p.0 ∷ p.1 ∷ p.2 ∷ []) d test.0 (parts.0, (parts.1, (parts.2, tt)))

pub round-from : (d : Data) (x z r : ℤ) → IsArray IsDecimal (x ∷ z ∷ r ∷ []) d → round_of d ≡ Some (x, z, r)
unfolding round_of
round-from d x z r is =
    let parts = array-from decimal IsDecimal decimal-from (x ∷ z ∷ r ∷ []) d is in
    cond-true (has_items 3 d) (all_three (decimal_at 0 d) (decimal_at 1 d) (decimal_at 2 d)) None (has_items-from IsDecimal (x ∷ z ∷ r ∷ []) d is)
    ∙ ap (λ o. all_three o (decimal_at 1 d) (decimal_at 2 d)) parts.0 ∙ ap (λ o. all_three (Some x) o (decimal_at 2 d)) parts.1.0
    ∙ ap (λ o. all_three (Some x) (Some z) o) parts.1.1.0

rectangle_some : (a b c d e f : Option ℤ) (r : Rectangle) → rectangle_with a b c d e f ≡ Some r
    → (a ≡ Some r.x) × (b ≡ Some r.z) × (c ≡ Some r.ux) × (d ≡ Some r.uz) × (e ≡ Some r.hw) × (f ≡ Some r.hh)
rectangle_some None b c d e f r h = absurd (cc)
rectangle_some (Some x) None c d e f r h = absurd (cc)
rectangle_some (Some x) (Some z) None d e f r h = absurd (cc)
rectangle_some (Some x) (Some z) (Some ux) None e f r h = absurd (cc)
rectangle_some (Some x) (Some z) (Some ux) (Some uz) None f r h = absurd (cc)
rectangle_some (Some x) (Some z) (Some ux) (Some uz) (Some hw) None r h = absurd (cc)
rectangle_some (Some x) (Some z) (Some ux) (Some uz) (Some hw) (Some hh) r h = by_parts _ r h
  where
    by_parts : (s t : Rectangle) → Some s ≡ Some t
        → (Some s.x ≡ Some t.x) × (Some s.z ≡ Some t.z) × (Some s.ux ≡ Some t.ux) × (Some s.uz ≡ Some t.uz) × (Some s.hw ≡ Some t.hw) × (Some s.hh ≡ Some t.hh)
    by_parts s t e = let same : s ≡ t = cc in
        (ap (λ p. Some p.x) same, ap (λ p. Some p.z) same, ap (λ p. Some p.ux) same, ap (λ p. Some p.uz) same, ap (λ p. Some p.hw) same, ap (λ p. Some p.hh) same)

pub rectangle-is : (d : Data) (r : Rectangle) → rectangle_of d ≡ Some r → IsArray IsDecimal (rectangle_decimals r) d
unfolding rectangle_of
rectangle-is d r e =
    let test = if_some (has_items 6 d) (rectangle_with (decimal_at 0 d) (decimal_at 1 d) (decimal_at 2 d) (decimal_at 3 d) (decimal_at 4 d) (decimal_at 5 d)) r e in
    let p = rectangle_some (decimal_at 0 d) (decimal_at 1 d) (decimal_at 2 d) (decimal_at 3 d) (decimal_at 4 d) (decimal_at 5 d) r test.1 in
    array-is decimal IsDecimal decimal-is (rectangle_decimals r) d test.0 (p.0, (p.1, (p.2, (p.3, (p.4, (p.5, tt))))))

pub rectangle-from : (d : Data) (r : Rectangle) → IsArray IsDecimal (rectangle_decimals r) d → rectangle_of d ≡ Some r
unfolding rectangle_of
rectangle-from d r is =
    let p = array-from decimal IsDecimal decimal-from (rectangle_decimals r) d is in
    cond-true (has_items 6 d) (rectangle_with (decimal_at 0 d) (decimal_at 1 d) (decimal_at 2 d) (decimal_at 3 d) (decimal_at 4 d) (decimal_at 5 d)) None
    (has_items-from IsDecimal (rectangle_decimals r) d is)
    ∙ ap (λ o. rectangle_with o (decimal_at 1 d) (decimal_at 2 d) (decimal_at 3 d) (decimal_at 4 d) (decimal_at 5 d)) p.0
    ∙ ap (λ o. rectangle_with (Some r.x) o (decimal_at 2 d) (decimal_at 3 d) (decimal_at 4 d) (decimal_at 5 d)) p.1.0
    ∙ ap (λ o. rectangle_with (Some r.x) (Some r.z) o (decimal_at 3 d) (decimal_at 4 d) (decimal_at 5 d)) p.1.1.0
    ∙ ap (λ o. rectangle_with (Some r.x) (Some r.z) (Some r.ux) o (decimal_at 4 d) (decimal_at 5 d)) p.1.1.1.0
    ∙ ap (λ o. rectangle_with (Some r.x) (Some r.z) (Some r.ux) (Some r.uz) o (decimal_at 5 d)) p.1.1.1.1.0
    ∙ ap (λ o. rectangle_with (Some r.x) (Some r.z) (Some r.ux) (Some r.uz) (Some r.hw) o) p.1.1.1.1.1.0

-- ---- the end line

pub end-is : (d : Data) (turn : ℕ) → end_of d ≡ Some turn → IsEndLine turn d
unfolding end_of
end-is d turn e =
    let test = if_some (has_keys end_keys d) (under whole (codes "end") d) turn e in
    let one = open_one (codes "end") d test.0 in
    (one.v, one.is, whole-is one.v turn (under_some whole (codes "end") d one.v turn one.at test.1))

pub end-from : (d : Data) (turn : ℕ) → IsEndLine turn d → end_of d ≡ Some turn
unfolding end_of
end-from d turn line =
    let at = stand-object end_keys (line.0 ∷ []) d refl line.1 in
    cond-true (has_keys end_keys d) (under whole (codes "end") d) None (has_keys-object end_keys (line.0 ∷ []) d refl line.1)
    ∙ under_is whole (codes "end") d line.0 turn at.0 (whole-from line.0 turn line.2)

-- ---- base lines

entry_some : (size : Size) (a b c d e : Option ℕ) (entry : Rect × ℕ) → entry_by size a b c d e ≡ Some entry
    → (a ≡ Some entry.0.i0) × (b ≡ Some entry.0.j0) × (c ≡ Some entry.0.i1) × (d ≡ Some entry.0.j1) × (e ≡ Some entry.1) × IsRectInside size entry.0 × (entry.1 ≤ 65535)
entry_some size None b c d e entry h = absurd (cc)
entry_some size (Some i0) None c d e entry h = absurd (cc)
entry_some size (Some i0) (Some j0) None d e entry h = absurd (cc)
entry_some size (Some i0) (Some j0) (Some i1) None e entry h = absurd (cc)
entry_some size (Some i0) (Some j0) (Some i1) (Some j1) None entry h = absurd (cc)
entry_some size (Some i0) (Some j0) (Some i1) (Some j1) (Some mask) entry h =
    let made : Rect × ℕ = (record { i0 = i0; j0 = j0; i1 = i1; j1 = j1 }, mask) in
    let test = some_if-some (nat_le i0 i1 && nat_lt i1 size.w && nat_le j0 j1 && nat_lt j1 size.h && nat_le mask 65535) made entry h in
    let last = and_parts (nat_le i0 i1 && nat_lt i1 size.w && nat_le j0 j1 && nat_lt j1 size.h) (nat_le mask 65535) test.0 in
    let rows = and_parts (nat_le i0 i1 && nat_lt i1 size.w && nat_le j0 j1) (nat_lt j1 size.h) last.0 in
    let third = and_parts (nat_le i0 i1 && nat_lt i1 size.w) (nat_le j0 j1) rows.0 in
    let columns = and_parts (nat_le i0 i1) (nat_lt i1 size.w) third.0 in
    let inside : IsRectInside size made.0 = record {
      columns = leb-true i0 i1 columns.0;
      rows = leb-true j0 j1 third.1;
      last_column = (Decides-ltb i1 size.w).0 columns.1;
      last_row = (Decides-ltb j1 size.h).0 rows.1;
    } in
    let Limits : Rect × ℕ → Type 0 = λ m. (Some i0 ≡ Some m.0.i0) × (Some j0 ≡ Some m.0.j0) × (Some i1 ≡ Some m.0.i1) × (Some j1 ≡ Some m.0.j1) × (Some mask ≡ Some m.1)
    × IsRectInside size m.0 × (m.1 ≤ 65535) in
    subst Limits test.1 (refl, refl, refl, refl, refl, inside, leb-true mask 65535 last.1)

entry-is : (size : Size) (d : Data) (entry : Rect × ℕ) → entry_of size d ≡ Some entry → IsEntry size entry d
unfolding entry_of
entry-is size d entry e =
    let test = if_some (has_items 5 d) (entry_by size (whole_at 0 d) (whole_at 1 d) (whole_at 2 d) (whole_at 3 d) (whole_at 4 d)) entry e in
    let p = entry_some size (whole_at 0 d) (whole_at 1 d) (whole_at 2 d) (whole_at 3 d) (whole_at 4 d) entry test.1 in
    record {
      says = array-is whole IsWholeNumber whole-is (entry.0.i0 ∷ entry.0.j0 ∷ entry.0.i1 ∷ entry.0.j1 ∷ entry.1 ∷ []) d test.0 (p.0, (p.1, (p.2, (p.3, (p.4, tt)))));
      inside = p.5;
      mask = p.6;
    }

pub entry-from : (size : Size) (d : Data) (entry : Rect × ℕ) → IsEntry size entry d → entry_of size d ≡ Some entry
unfolding entry_of
entry-from size d entry is =
    let i0 = entry.0.i0 in let j0 = entry.0.j0 in let i1 = entry.0.i1 in let j1 = entry.0.j1 in let mask = entry.1 in
    let values = i0 ∷ j0 ∷ i1 ∷ j1 ∷ mask ∷ [] in
    let p = array-from whole IsWholeNumber whole-from values d is.says in
    let inside = is.inside in
    let test : (nat_le i0 i1 && nat_lt i1 size.w && nat_le j0 j1 && nat_lt j1 size.h && nat_le mask 65535) ≡ true =
    and_from (nat_le i0 i1 && nat_lt i1 size.w && nat_le j0 j1 && nat_lt j1 size.h) (nat_le mask 65535)
    (and_from (nat_le i0 i1 && nat_lt i1 size.w && nat_le j0 j1) (nat_lt j1 size.h)
    (and_from (nat_le i0 i1 && nat_lt i1 size.w) (nat_le j0 j1)
    (and_from (nat_le i0 i1) (nat_lt i1 size.w) (le-leb i0 i1 inside.columns) ((Decides-ltb i1 size.w).1 inside.last_column)) (le-leb j0 j1 inside.rows))
    ((Decides-ltb j1 size.h).1 inside.last_row)) (le-leb mask 65535 is.mask) in
    cond-true (has_items 5 d) (entry_by size (whole_at 0 d) (whole_at 1 d) (whole_at 2 d) (whole_at 3 d) (whole_at 4 d)) None (has_items-from IsWholeNumber values d is.says)
    ∙ ap (λ o. entry_by size o (whole_at 1 d) (whole_at 2 d) (whole_at 3 d) (whole_at 4 d)) p.0
    ∙ ap (λ o. entry_by size (Some i0) o (whole_at 2 d) (whole_at 3 d) (whole_at 4 d)) p.1.0
    ∙ ap (λ o. entry_by size (Some i0) (Some j0) o (whole_at 3 d) (whole_at 4 d)) p.1.1.0
    ∙ ap (λ o. entry_by size (Some i0) (Some j0) (Some i1) o (whole_at 4 d)) p.1.1.1.0
    ∙ ap (λ o. entry_by size (Some i0) (Some j0) (Some i1) (Some j1) o) p.1.1.1.1.0
    ∙ ap (λ b. some_if b entry) test

pub base-is : (size : Size) (d : Data) (rects : List (Rect × ℕ)) → base_of size d ≡ Some rects → IsBaseLine size rects d
unfolding base_of
base-is size d rects e =
    let test = if_some (has_keys base_keys d) (option_and_then (each (entry_of size)) (under array_items (codes "base") d)) rects e in
    let one = open_one (codes "base") d test.0 in
    let found = then_some (each (entry_of size)) (under array_items (codes "base") d) rects test.1 in (
      one.v,
      one.is,
      (
        found.0,
        array_items-is one.v found.0 (under_some array_items (codes "base") d one.v found.0 one.at found.1),
        each-is (entry_of size) (IsEntry size) (entry-is size) rects found.0 found.2,
      ),
    )

pub base-from : (size : Size) (d : Data) (rects : List (Rect × ℕ)) → IsBaseLine size rects d → base_of size d ≡ Some rects
unfolding base_of
base-from size d rects line =
    let at = stand-object base_keys (line.0 ∷ []) d refl line.1 in let is = line.2 in
    cond-true (has_keys base_keys d) (option_and_then (each (entry_of size)) (under array_items (codes "base") d)) None
    (has_keys-object base_keys (line.0 ∷ []) d refl line.1)
    ∙ ap (option_and_then (each (entry_of size))) (under_is array_items (codes "base") d line.0 is.0 at.0 (array_items-from line.0 is.0 is.1))
    ∙ each-from (entry_of size) (IsEntry size) (entry-from size) rects is.0 is.2

-- ---- the map line

size_by_some : (w h : ℕ) (wide : Dec (IsSide w)) (high : Dec (IsSide h)) (size : Size) → size_by w h wide high ≡ Some size → (w ≡ size.w) × (h ≡ size.h)
size_by_some w h (yes wide) (yes high) size e =
    let made : Size = record { w = w; h = h; wide = wide; high = high } in let same : made ≡ size = cc in (ap (λ s. s.w) same, ap (λ s. s.h) same)
size_by_some w h (yes wide) (no low) size e = absurd (cc)
size_by_some w h (no narrow) high size e = absurd (cc)

size_by-self : (size : Size) (wide : Dec (IsSide size.w)) (high : Dec (IsSide size.h)) → size_by size.w size.h wide high ≡ Some size
size_by-self size (yes wide) (yes high) = ap Some (same_size (record { w = size.w; h = size.h; wide = wide; high = high }) size refl refl)
size_by-self size (yes wide) (no low) = absurd (low size.high)
size_by-self size (no narrow) high = absurd (narrow size.wide)

size-is : (d : Data) (size : Size) → size_of d ≡ Some size → IsArray IsWholeNumber (size.w ∷ size.h ∷ []) d
unfolding size_of size_with
size-is d size e =
    let test = if_some (has_items 2 d) (option_and_then (λ sides. size_with sides.0 sides.1) (both (whole_at 0 d) (whole_at 1 d))) size e in
    let found = then_some (λ sides. size_with sides.0 sides.1) (both (whole_at 0 d) (whole_at 1 d)) size test.1 in
    let parts = two_some (whole_at 0 d) (whole_at 1 d) found.0 found.1 in
    let same = size_by_some found.0.0 found.0.1 (is_side found.0.0) (is_side found.0.1) size found.2 in
    array-is whole IsWholeNumber whole-is (size.w ∷ size.h ∷ []) d test.0 (parts.0 ∙ ap Some same.0, (parts.1 ∙ ap Some same.1, tt))

size-from : (d : Data) (size : Size) → IsArray IsWholeNumber (size.w ∷ size.h ∷ []) d → size_of d ≡ Some size
unfolding size_of size_with
size-from d size is =
    let parts = array-from whole IsWholeNumber whole-from (size.w ∷ size.h ∷ []) d is in
    let with = λ (sides : ℕ × ℕ). size_with sides.0 sides.1 in
    cond-true (has_items 2 d) (option_and_then with (both (whole_at 0 d) (whole_at 1 d))) None (has_items-from IsWholeNumber (size.w ∷ size.h ∷ []) d is)
    ∙ ap (λ o. option_and_then with (both o (whole_at 1 d))) parts.0 ∙ ap (λ o. option_and_then with (both (Some size.w) o)) parts.1.0
    ∙ size_by-self size (is_side size.w) (is_side size.h)

map_some_parts : (a : Option ℕ) (b : Option Size) (c : Option ℕ) (d : Option (List PassabilityClass)) (m : Map) → map_by a b c d ≡ Some m
    → (a ≡ Some m.version) × (b ≡ Some m.size) × (c ≡ Some m.callers) × (d ≡ Some m.classes) × (m.base ≡ [])
map_some_parts None b c d m e = absurd (cc)
map_some_parts (Some version) None c d m e = absurd (cc)
map_some_parts (Some version) (Some size) None d m e = absurd (cc)
map_some_parts (Some version) (Some size) (Some callers) None m e = absurd (cc)
map_some_parts (Some version) (Some size) (Some callers) (Some classes) m e =
    let made : Map = map_with version size callers classes [] in let same : made ≡ m = cc in
    (ap (λ n. Some n.version) same, ap (λ n. Some n.size) same, ap (λ n. Some n.callers) same, ap (λ n. Some n.classes) same, sym (ap (λ n. n.base) same))

pub map-is : (d : Data) (m : Map) → map_of d ≡ Some m → IsMapLine m d
unfolding map_of
map-is d m e =
    let version = under (whole_in 1 3) (codes "version") d in let size = under size_of (codes "size") d in
    let callers = under (whole_in 1 64) (codes "callers") d in let classes = under classes_of (codes "classes") d in
    let test = if_some (has_keys map_keys d) (map_by version size callers classes) m e in
    let o = open_four (codes "version") (codes "size") (codes "callers") (codes "classes") d refl test.0 in
    let p = map_some_parts version size callers classes m test.1 in
    let v = whole_in-is 1 3 o.v m.version (under_some (whole_in 1 3) (codes "version") d o.v m.version o.first p.0) in
    let c = whole_in-is 1 64 o.x m.callers (under_some (whole_in 1 64) (codes "callers") d o.x m.callers o.third p.2) in
    record {
      version = o.v;
      size = o.w;
      callers = o.x;
      classes = o.y;
      keys = o.is;
      says_version = v.0;
      oldest = v.1;
      newest = v.2;
      says_size = size-is o.w m.size (under_some size_of (codes "size") d o.w m.size o.second p.1);
      says_callers = c.0;
      some = c.1;
      few = c.2;
      says_classes = classes-is o.y m.classes (under_some classes_of (codes "classes") d o.y m.classes o.fourth p.3);
      no_base = p.4;
    }

pub map-from : (d : Data) (m : Map) → IsMapLine m d → map_of d ≡ Some m
unfolding map_of
map-from d m l =
    let version = under (whole_in 1 3) (codes "version") d in let size = under size_of (codes "size") d in
    let callers = under (whole_in 1 64) (codes "callers") d in let classes = under classes_of (codes "classes") d in
    let at = stand-object map_keys (l.version ∷ l.size ∷ l.callers ∷ l.classes ∷ []) d refl l.keys in
    let v = under_is (whole_in 1 3) (codes "version") d l.version m.version at.0 (whole_in-from 1 3 l.version m.version l.says_version l.oldest l.newest) in
    let s = under_is size_of (codes "size") d l.size m.size at.1.0 (size-from l.size m.size l.says_size) in
    let c = under_is (whole_in 1 64) (codes "callers") d l.callers m.callers at.1.1.0 (whole_in-from 1 64 l.callers m.callers l.says_callers l.some l.few) in
    let k = under_is classes_of (codes "classes") d l.classes m.classes at.1.1.1.0 (classes-from l.classes m.classes l.says_classes) in
    cond-true (has_keys map_keys d) (map_by version size callers classes) None
    (has_keys-object map_keys (l.version ∷ l.size ∷ l.callers ∷ l.classes ∷ []) d refl l.keys)
    ∙ ap (λ o. map_by o size callers classes) v ∙ ap (λ o. map_by (Some m.version) o callers classes) s
    ∙ ap (λ o. map_by (Some m.version) (Some m.size) o classes) c ∙ ap (λ o. map_by (Some m.version) (Some m.size) (Some m.callers) o) k
    ∙ ap (λ base. Some (map_with m.version m.size m.callers m.classes base)) (sym l.no_base)
