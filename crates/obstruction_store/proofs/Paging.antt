-- What stands on the pages of a store, read by the page of a number, and what a new page makes of it.
use Rattle.std.proofs.Common.{◌≡◌, ◌≢◌, ℕ, zero, suc, ◌+◌, ◌-◌, ◌%◌, ◌<◌, ◌≤◌, true, false, cond, List, [], ◌∷◌, ◌++◌, length, take, replicate, set, Option, None, Some, is_some, IsSome, refl, sym, ap, subst, inl, inr, ◌∙◌, arith}
use Rattle.std.proofs.lemmas.Bool.{cases_eq}
use Rattle.std.proofs.lemmas.List.{length-set, length-replicate, get_or-set_same, get_or-set_other, get_or-replicate, set-get_or, append_assoc, append-nil}
use Rattle.std.proofs.lemmas.Option.{same_Some, slice_get_within, slice_get-get_or, get_or_from_slice_get}
use Rattle.std.specs.Prelude.{slice_get, slice_index_or}
use Rattle.std.specs.Cmp.{nat_cmp_total}
use Rattle.std.specs.FinMap as map
use Rattle.std.specs.FinMap.{find}
use Rattle.std.specs.Ordering.{nat_cmp, eq_by_cmp}
use Rattle.obstruction_shapes.specs.declared.shapes.Obstruction.{Obstruction}
use Rattle.obstruction_store.specs.Standing.{Standing, Stands}
use Rattle.obstruction_store.specs.inner.Paged.{page_of, entries_in, standing_in, HaveOwn, ArePages}
use Rattle.obstruction_store.proofs.Changes.{Changes}
use Rattle.obstruction_store.proofs.Holding.{on_insert, on_remove, same_standing}
use Rattle.obstruction_store.proofs.Refusing.{some_not_none}

-- ---- entries one after another
module _ {X : Type 0} (q : ℕ) where
  find_first : (es fs : List (ℕ × X)) (v : X) → find nat_cmp q es ≡ Some v → find nat_cmp q (es ++ fs) ≡ Some v
  find_first [] fs v is = absurd (cc)
  find_first (e ∷ es) fs v is =
      elim (eq_by_cmp nat_cmp q e.0) as (λ b. cond b (Some e.1) (find nat_cmp q es) ≡ Some v
      → cond b (Some e.1) (find nat_cmp q (es ++ fs)) ≡ Some v) [
        | true ↦ λ same. same
        | false ↦ λ later. find_first es fs v later
      ] is

  find_past : (es fs : List (ℕ × X)) → find nat_cmp q es ≡ None → find nat_cmp q (es ++ fs) ≡ find nat_cmp q fs
  find_past [] fs none = refl
  find_past (e ∷ es) fs none =
      elim (eq_by_cmp nat_cmp q e.0) as (λ b. cond b (Some e.1) (find nat_cmp q es) ≡ None
      → cond b (Some e.1) (find nat_cmp q (es ++ fs)) ≡ find nat_cmp q fs) [
        | true ↦ λ same. absurd (cc)
        | false ↦ λ later. find_past es fs later
      ] none

  find_either : (es fs : List (ℕ × X)) (found : Option X) → find nat_cmp q es ≡ found → find nat_cmp q fs ≡ None
      → find nat_cmp q (es ++ fs) ≡ found
  find_either es fs None is none = find_past es fs is ∙ none
  find_either es fs (Some v) is none = find_first es fs v is

-- an item put in its own place changes nothing
pub set_same : {A : Type 0} (xs : List A) (at : ℕ) (x y : A) → slice_get xs at ≡ Some x → y ≡ x → set xs at y ≡ xs
set_same {A} xs at x y here same =
    ap (λ (z : A). set xs at z) (same ∙ sym (get_or_from_slice_get xs at x x here)) ∙ set-get_or xs at x

-- ---- the page of a number
module _ (number : ℕ) where
  found_nowhere : (pages : List Standing) → ((at : ℕ) (page : Standing) → slice_get pages at ≡ Some page → map.get page number ≡ None)
      → find nat_cmp number (entries_in pages) ≡ None
  found_nowhere [] none = refl
  found_nowhere (p ∷ ps) none =
      find_past number (map.entries p) (entries_in ps) (sym (map.get-entries p number) ∙ none 0 p refl)
      ∙ found_nowhere ps (λ at page here. none (suc at) page here)

  found_at : (at : ℕ) (pages : List Standing) (page : Standing) → slice_get pages at ≡ Some page
      → ((other : ℕ) (p : Standing) → slice_get pages other ≡ Some p → other ≢ at → map.get p number ≡ None)
      → find nat_cmp number (entries_in pages) ≡ map.get page number
  found_at at [] page here others = absurd (cc)
  found_at zero (p ∷ ps) page here others =
      find_either number (map.entries p) (entries_in ps) (map.get page number)
      (sym (map.get-entries p number) ∙ ap (λ m. map.get m number) (same_Some p page here))
      (found_nowhere ps (λ at q is. others (suc at) q is (λ same. absurd (omega (arith, same)))))
  found_at (suc at) (p ∷ ps) page here others =
      find_past number (map.entries p) (entries_in ps)
      (sym (map.get-entries p number) ∙ others 0 p refl (λ same. absurd (omega (arith, same))))
      ∙ found_at at ps page here (λ other q is differs. others (suc other) q is (λ same. differs (omega (arith, same))))

none_unless : {A : Type 0} (o : Option A) → (IsSome o → ⊥) → o ≡ None
none_unless None not_some = refl
none_unless (Some v) not_some = absurd (not_some refl)

-- what stands under a number is what its page has
pub get_in : (pages : List Standing) (number : ℕ) (page : Standing) → HaveOwn pages → slice_get pages (page_of number) ≡ Some page
    → map.get (standing_in pages) number ≡ map.get page number
get_in pages number page own here =
    map.get-from_entries nat_cmp_total (entries_in pages) number
    ∙ found_at number (page_of number) pages page here
    (λ other p is differs. none_unless (map.get p number) (λ stands. differs (sym (own other p is number stands))))

-- the page of a number
pub page_there : (pages : List Standing) (number : ℕ) → length pages ≡ 509
    → slice_get pages (page_of number) ≡ Some (slice_index_or pages (page_of number) map.empty)
page_there pages number each =
    slice_get-get_or pages (page_of number) map.empty (let small : number % 509 < 509 = omega arith in omega (arith, small, each))

-- the same by its place
abbrev pub page_on : List Standing → ℕ → Standing
page_on pages number = slice_index_or pages (page_of number) map.empty

pub page_here : (pages : List Standing) (number at : ℕ) → length pages ≡ 509 → at ≡ page_of number
    → slice_get pages at ≡ Some (page_on pages number)
page_here pages number at each of = ap (λ k. slice_get pages k) of ∙ page_there pages number each

-- ---- a new page in place of an old one
set_here : {A : Type 0} (xs : List A) (k : ℕ) (x : A) → k < length xs → slice_get (set xs k x) k ≡ Some x
set_here xs k x low =
    slice_get-get_or (set xs k x) k x (omega (arith, low, length-set xs k x)) ∙ ap (λ y. Some y) (get_or-set_same xs k x x low)

set_elsewhere : {A : Type 0} (xs : List A) (i j : ℕ) (x y : A) → j ≢ i → slice_get (set xs i x) j ≡ Some y → slice_get xs j ≡ Some y
set_elsewhere xs i j x y apart at =
    let low : j < length xs = omega (arith, slice_get_within (set xs i x) j y at, length-set xs i x) in
    slice_get-get_or xs j y low
    ∙ ap (λ z. Some z) (sym (get_or-set_other xs i j x y apart) ∙ get_or_from_slice_get (set xs i x) j y y at)

module _ (pages : List Standing) (number : ℕ) (old new : Standing) (now : Option Obstruction) (own : HaveOwn pages)
    (each : length pages ≡ 509) (here : slice_get pages (page_of number) ≡ Some old)
    (change : Changes (map.get old) (map.get new) number now) where
  pub own_after : HaveOwn (set pages (page_of number) new)
  own_after at page is other stands = elim (cases_eq at (page_of number)) [
    | inl same ↦ elim (cases_eq other number) [
      | inl this ↦ ap page_of this ∙ sym same
      | inr differs ↦
          let low : page_of number < length pages = slice_get_within pages (page_of number) old here in
          let new_is : new ≡ page = same_Some new page (sym (set_here pages (page_of number) new low)
          ∙ ap (λ k. slice_get (set pages (page_of number) new) k) (sym same) ∙ is) in
          own (page_of number) old here other
          (sym (ap is_some (change.others other differs)) ∙ ap (λ m. is_some (map.get m other)) new_is ∙ stands) ∙ sym same
    ]
    | inr apart ↦ own at page (set_elsewhere pages (page_of number) at new page apart is) other stands
  ]

  pub change_in : Changes (map.get (standing_in pages)) (map.get (standing_in (set pages (page_of number) new))) number now
  change_in = record {
    here = get_in (set pages (page_of number) new) number new own_after (set_here pages (page_of number) new
        (slice_get_within pages (page_of number) old here)) ∙ change.here;
    others = λ other differs. elim (cases_eq (page_of other) (page_of number)) [
      | inl same ↦
          get_in (set pages (page_of number) new) other new own_after
          (ap (λ k. slice_get (set pages (page_of number) new) k) same
          ∙ set_here pages (page_of number) new (slice_get_within pages (page_of number) old here))
          ∙ change.others other differs
          ∙ sym (get_in pages other old own (ap (λ k. slice_get pages k) same ∙ here))
      | inr apart ↦
          let after : slice_get (set pages (page_of number) new) (page_of other)
          ≡ Some (slice_index_or (set pages (page_of number) new) (page_of other) map.empty) =
          page_there (set pages (page_of number) new) other (length-set pages (page_of number) new ∙ each) in
          get_in (set pages (page_of number) new) other _ own_after after
          ∙ sym (get_in pages other _ own (set_elsewhere pages (page_of number) (page_of other) new _ apart after))
    ];
  }

-- ---- what an edit makes of the pages
-- as many stand after an insert or a removal
len_inserted : (m : Standing) (number : ℕ) (v : Obstruction) (found : Option Obstruction) → map.get m number ≡ found
    → map.len (map.insert m number v) ≡ cond (is_some found) (map.len m) (map.len m + 1)
len_inserted m number v found is =
    map.len-insert nat_cmp_total m number v ∙ ap (λ o. cond (is_some o) (map.len m) (map.len m + 1)) is

len_removed : (m : Standing) (number : ℕ) (v : Obstruction) → map.get m number ≡ Some v → map.len (map.remove m number) ≡ map.len m - 1
len_removed m number v is = map.len-remove nat_cmp_total m number ∙ ap (λ o. cond (is_some o) (map.len m - 1) (map.len m)) is

module _ (pages : List Standing) (count number at : ℕ) (old : Standing) (are : ArePages pages count) (of : at ≡ page_of number)
    (here : slice_get pages at ≡ Some old) where
  there : slice_get pages (page_of number) ≡ Some old
  there = ap (λ k. slice_get pages k) (sym of) ∙ here

  module _ (new : Standing) (now : Option Obstruction) (change : Changes (map.get old) (map.get new) number now)
      (after : List Standing) (is : after ≡ set pages at new) where
    placed : after ≡ set pages (page_of number) new
    placed = is ∙ ap (λ k. set pages k new) of

    still_each : length after ≡ 509
    still_each = ap (λ (ps : List Standing). length ps) is ∙ length-set pages at new ∙ are.each

    still_own : HaveOwn after
    still_own = subst HaveOwn (sym placed) (own_after pages number old new now are.own are.each there change)

    changed_to : (final : Standing) → Changes (map.get (standing_in pages)) (map.get final) number now → standing_in after ≡ final
    changed_to final to =
        ap standing_in placed
        ∙ same_standing (standing_in pages) (standing_in (set pages (page_of number) new)) final number now
        (change_in pages number old new now are.own are.each there change) to

  pub standing_with : (v : Obstruction) (after : List Standing) → after ≡ set pages at (map.insert old number v)
      → standing_in after ≡ map.insert (standing_in pages) number v
  standing_with v after is =
      changed_to (map.insert old number v) (Some v) (on_insert old number v) after is (map.insert (standing_in pages) number v)
      (on_insert (standing_in pages) number v)

  pub ArePages-added : (v : Obstruction) (after : List Standing) → after ≡ set pages at (map.insert old number v)
      → map.get (standing_in pages) number ≡ None → count < 65536 → ArePages after (count + 1)
  ArePages-added v after is none less = record {
    each = still_each (map.insert old number v) (Some v) (on_insert old number v) after is;
    own = still_own (map.insert old number v) (Some v) (on_insert old number v) after is;
    counted = ap (λ n. n + 1) are.counted ∙ sym (len_inserted (standing_in pages) number v None none)
        ∙ ap map.len (sym (standing_with v after is));
    few = omega (arith, less);
  }

  pub ArePages-written : (v was : Obstruction) (after : List Standing) → after ≡ set pages at (map.insert old number v)
      → map.get (standing_in pages) number ≡ Some was → ArePages after count
  ArePages-written v was after is some = record {
    each = still_each (map.insert old number v) (Some v) (on_insert old number v) after is;
    own = still_own (map.insert old number v) (Some v) (on_insert old number v) after is;
    counted = are.counted ∙ sym (len_inserted (standing_in pages) number v (Some was) some)
        ∙ ap map.len (sym (standing_with v after is));
    few = are.few;
  }

  pub standing_without : (after : List Standing) → after ≡ set pages at (map.remove old number)
      → standing_in after ≡ map.remove (standing_in pages) number
  standing_without after is =
      changed_to (map.remove old number) None (on_remove old number) after is (map.remove (standing_in pages) number)
      (on_remove (standing_in pages) number)

  pub ArePages-removed : (was : Obstruction) (after : List Standing) → after ≡ set pages at (map.remove old number)
      → map.get (standing_in pages) number ≡ Some was → ArePages after (count - 1)
  ArePages-removed was after is some = record {
    each = still_each (map.remove old number) None (on_remove old number) after is;
    own = still_own (map.remove old number) None (on_remove old number) after is;
    counted = ap (λ n. n - 1) are.counted ∙ sym (len_removed (standing_in pages) number was some)
        ∙ ap map.len (sym (standing_without after is));
    few = let few = are.few in omega (arith, few);
  }

-- something stands where one is found
some_stand : (len : ℕ) (m : Standing) (number : ℕ) (was : Obstruction) → map.get m number ≡ Some was → map.len m ≡ len → 1 ≤ len
some_stand zero m number was some none =
    let nothing : map.get m number ≡ None = ap (λ (n : Standing). map.get n number) (map.empty_of_len m none) ∙ map.get-empty nat_cmp number in
    absurd (cc)
some_stand (suc n) m number was some is = omega arith

pub counts_one : (pages : List Standing) (count number : ℕ) (was : Obstruction) → ArePages pages count
    → map.get (standing_in pages) number ≡ Some was → 1 ≤ count
counts_one pages count number was are some = some_stand count (standing_in pages) number was some (sym are.counted)

-- ---- pages on which nothing stands
no_items : {A : Type 0} (xs : List A) → length xs ≡ 0 → xs ≡ []
no_items [] none = refl
no_items (x ∷ xs) none = absurd (omega (arith, none))

-- the page on which nothing stands
abbrev nothing : Standing
nothing = map.empty

no_entries : map.entries nothing ≡ []
no_entries = no_items (map.entries nothing) (sym (map.len-entries nothing) ∙ map.len-empty nat_cmp Obstruction)

no_entries_in : (count : ℕ) → entries_in (replicate count map.empty) ≡ []
no_entries_in zero = refl
no_entries_in (suc count) =
    ap (λ (es : List (ℕ × Obstruction)). es ++ entries_in (replicate count map.empty)) no_entries ∙ no_entries_in count

pub nothing_stands : (pages : List Standing) (count : ℕ) → pages ≡ replicate count map.empty → standing_in pages ≡ map.empty
nothing_stands pages count are =
    ap standing_in are ∙ ap (λ (es : List (ℕ × Obstruction)). map.from_entries es) (no_entries_in count)

empty_at : (count at : ℕ) (page : Standing) → slice_get (replicate count map.empty) at ≡ Some page → page ≡ map.empty
empty_at count at page here =
    let empties : List Standing = replicate count map.empty in
    let low : at < count = omega (arith, slice_get_within empties at page here, length-replicate count nothing) in
    sym (get_or_from_slice_get empties at page page here) ∙ get_or-replicate count at map.empty page low

pub ArePages-empty : (pages : List Standing) → pages ≡ replicate 509 map.empty → ArePages pages 0
ArePages-empty pages are = record {
  each = ap (λ (ps : List Standing). length ps) are ∙ length-replicate 509 nothing;
  own = λ at page is number stands.
      let empty : page ≡ map.empty = empty_at 509 at page (ap (λ (ps : List Standing). slice_get ps at) (sym are) ∙ is) in
      let none : map.get page number ≡ None = ap (λ (m : Standing). map.get m number) empty ∙ map.get-empty nat_cmp number in
      absurd (some_not_none (map.get page number) stands none);
  counted = sym (ap (λ (m : Standing). map.len m) (nothing_stands pages 509 are) ∙ map.len-empty nat_cmp Obstruction);
  few = omega arith;
}

-- ---- all entries one after another
entries_next : (pages : List Standing) (at : ℕ) (page : Standing) → slice_get pages at ≡ Some page
    → entries_in (take (suc at) pages) ≡ entries_in (take at pages) ++ map.entries page
entries_next [] at page here = absurd (cc)
entries_next (p ∷ ps) zero page here = append-nil (map.entries p) ∙ ap map.entries (same_Some p page here)
entries_next (p ∷ ps) (suc at) page here =
    ap (λ (es : List (ℕ × Obstruction)). map.entries p ++ es) (entries_next ps at page here)
    ∙ sym (append_assoc (map.entries p) (entries_in (take at ps)) (map.entries page))

pub entries_more : (pages : List Standing) (at : ℕ) (page : Standing) → slice_get pages at ≡ Some page
    → entries_in (take (at + 1) pages) ≡ entries_in (take at pages) ++ map.entries page
entries_more pages at page here =
    let next : at + 1 ≡ suc at = omega arith in
    ap (λ (n : ℕ). entries_in (take n pages)) next ∙ entries_next pages at page here

-- an entry under a new number, put behind the others, is inserted
pub entry_pushed : (m after : Standing) (es done : List (ℕ × Obstruction)) (number : ℕ) (v : Obstruction)
    → m ≡ map.from_entries (es ++ done) → after ≡ map.insert m number v → (Stands m number → ⊥)
    → after ≡ map.from_entries (es ++ (done ++ (number, v) ∷ []))
entry_pushed m after es done number v is inserted new =
    let none : find nat_cmp number (es ++ done) ≡ None =
    sym (map.get-from_entries nat_cmp_total (es ++ done) number) ∙ ap (λ (s : Standing). map.get s number) (sym is)
    ∙ none_unless (map.get m number) new in
    inserted ∙ ap (λ (s : Standing). map.insert s number v) is
    ∙ sym (map.from_entries_push nat_cmp_total map.nat_cmp-IsAntisymmetric (es ++ done) number v none)
    ∙ ap (λ (xs : List (ℕ × Obstruction)). map.from_entries xs) (append_assoc es done ((number, v) ∷ []))
