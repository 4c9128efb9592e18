-- The map of the keys that have an estimate in a table.
use Rattle.std.proofs.Common.{ℕ, zero, suc, ◌≡◌, ◌≢◌, ◌<◌, ◌≤◌, ◌+◌, ◌-◌, Bool, true, false, cond, List, [], ◌∷◌, length, set, Option, None, Some, refl, ap, inl, inr, sym, subst, ◌∙◌, arith}
use Rattle.std.specs.Option.{is_some}
use Rattle.std.proofs.lemmas.Bool.{cases_eq, cases_lt}
use Rattle.std.proofs.lemmas.List.{get_or-set_same, get_or-set_other, length-set}
use Rattle.std.proofs.lemmas.Option.{slice_get-get_or, slice_get_past}
use Rattle.std.specs.Cmp.{nat_cmp_total}
use Rattle.std.specs.FinMap as map
use Rattle.std.specs.FinMap.{find, nat_cmp-IsAntisymmetric}
use Rattle.std.specs.Ordering.{nat_cmp}
use Rattle.nav_types.proofs.NumberTies.{ties_at, apart_at, tie_cases}
use Rattle.open_heap.specs.Queue.{Queue}
use Rattle.open_heap.specs.inner.Buckets.{entries_from, queue_of, estimate_in, estimate_at}

-- ---- what the map has
none_below : (table : List (Option ℕ)) (key q : ℕ) → q < key → find nat_cmp q (entries_from key table) ≡ None
none_below [] key q low = refl
none_below (None ∷ rest) key q low = none_below rest (key + 1) q (omega arith)
none_below (Some estimate ∷ rest) key q low =
    ap (λ b. cond b (Some estimate) (find nat_cmp q (entries_from (key + 1) rest))) (apart_at q key (λ same. omega arith))
    ∙ none_below rest (key + 1) q (omega arith)

found_at : (table : List (Option ℕ)) (key place q : ℕ) → q ≡ key + place → find nat_cmp q (entries_from key table) ≡ estimate_at table place
found_at [] key place q is = refl
found_at (None ∷ rest) key zero q is = none_below rest (key + 1) q (omega arith)
found_at (None ∷ rest) key (suc place) q is = found_at rest (key + 1) place q (omega arith)
found_at (Some estimate ∷ rest) key zero q is =
    ap (λ b. cond b (Some estimate) (find nat_cmp q (entries_from (key + 1) rest))) (ties_at q key (omega arith))
found_at (Some estimate ∷ rest) key (suc place) q is =
    ap (λ b. cond b (Some estimate) (find nat_cmp q (entries_from (key + 1) rest))) (apart_at q key (λ same. omega arith))
    ∙ found_at rest (key + 1) place q (omega arith)

pub get-queue : (table : List (Option ℕ)) (key : ℕ) → map.get (queue_of table) key ≡ estimate_at table key
unfolding queue_of
get-queue table key = map.get-from_entries nat_cmp_total (entries_from 0 table) key ∙ found_at table 0 key key (omega arith)

pub empty_table : queue_of [] ≡ map.empty
unfolding queue_of
empty_table = refl

-- tables with the same estimates make the same map
pub same_queue : (old new : List (Option ℕ)) → ((key : ℕ) → estimate_at new key ≡ estimate_at old key) → queue_of new ≡ queue_of old
same_queue old new same = map.same_map nat_cmp_total nat_cmp-IsAntisymmetric (queue_of new) (queue_of old)
    (λ key. get-queue new key ∙ same key ∙ sym (get-queue old key))

-- ---- a table that is written
pub at-set_same : (table : List (Option ℕ)) (key : ℕ) (estimate : Option ℕ) → key < length table
    → estimate_at (set table key estimate) key ≡ estimate
at-set_same table key estimate inside =
    ap estimate_in (slice_get-get_or (set table key estimate) key None (omega (arith, length-set table key estimate, inside))
    ∙ ap (λ (e : Option ℕ). Some e) (get_or-set_same table key estimate None inside))

pub at-set_other : (table : List (Option ℕ)) (key other : ℕ) (estimate : Option ℕ) → other ≢ key
    → estimate_at (set table key estimate) other ≡ estimate_at table other
at-set_other table key other estimate apart = ap estimate_in (elim (cases_lt other (length table)) [
  | inl within ↦ slice_get-get_or (set table key estimate) other None (omega (arith, length-set table key estimate, within))
      ∙ ap (λ (e : Option ℕ). Some e) (get_or-set_other table key other estimate None apart) ∙ sym (slice_get-get_or table other None within)
  | inr past ↦ slice_get_past (set table key estimate) other (omega (arith, length-set table key estimate, past))
      ∙ sym (slice_get_past table other past)
])

pub queue-insert : (table : List (Option ℕ)) (key estimate : ℕ) → key < length table
    → queue_of (set table key (Some estimate)) ≡ map.insert (queue_of table) key estimate
queue-insert table key estimate inside =
    let new = set table key (Some estimate) in
    map.same_map nat_cmp_total nat_cmp-IsAntisymmetric (queue_of new) (map.insert (queue_of table) key estimate) (λ q.
    get-queue new q ∙ elim (tie_cases q key) [
      | inl same ↦ ap (λ (k : ℕ). estimate_at new k) same.0 ∙ at-set_same table key (Some estimate) inside
          ∙ ap (λ b. cond b (Some estimate) (map.get (queue_of table) q)) (sym same.1)
      | inr other ↦ at-set_other table key q (Some estimate) other.0 ∙ sym (get-queue table q)
          ∙ ap (λ b. cond b (Some estimate) (map.get (queue_of table) q)) (sym other.1)
    ] ∙ sym (map.get-insert nat_cmp_total (queue_of table) key estimate q))

pub queue-remove : (table : List (Option ℕ)) (key : ℕ) → key < length table
    → queue_of (set table key None) ≡ map.remove (queue_of table) key
queue-remove table key inside =
    let new = set table key None in
    map.same_map nat_cmp_total nat_cmp-IsAntisymmetric (queue_of new) (map.remove (queue_of table) key) (λ q.
    get-queue new q ∙ elim (tie_cases q key) [
      | inl same ↦ ap (λ (k : ℕ). estimate_at new k) same.0 ∙ at-set_same table key None inside
          ∙ ap (λ b. cond b None (map.get (queue_of table) q)) (sym same.1)
      | inr other ↦ at-set_other table key q None other.0 ∙ sym (get-queue table q)
          ∙ ap (λ b. cond b None (map.get (queue_of table) q)) (sym other.1)
    ] ∙ sym (map.get-remove nat_cmp_total (queue_of table) key q))

-- nothing is taken out where the map lacks the key
pub remove_none : (queue : Queue) (key : ℕ) → map.get queue key ≡ None → queue ≡ map.remove queue key
remove_none queue key none =
    map.same_map nat_cmp_total nat_cmp-IsAntisymmetric queue (map.remove queue key) (λ q. elim (tie_cases q key) [
      | inl same ↦ ap (λ (k : ℕ). map.get queue k) same.0 ∙ none ∙ ap (λ b. cond b None (map.get queue q)) (sym same.1)
      | inr other ↦ ap (λ b. cond b None (map.get queue q)) (sym other.1)
    ] ∙ sym (map.get-remove nat_cmp_total queue key q))

-- ---- how many keys there are
at_most_more : (b : Bool) (m n most : ℕ) → n ≡ m + 1 → n ≤ most → cond b m n ≤ most
at_most_more true m n most is low = omega arith
at_most_more false m n most is low = low

few_entries : (table : List (Option ℕ)) (key : ℕ) → map.len {R = nat_cmp} (map.from_entries (entries_from key table)) ≤ length table
few_entries [] key = omega (arith, map.len-empty nat_cmp ℕ)
few_entries (None ∷ rest) key = omega (arith, few_entries rest (key + 1))
few_entries (Some estimate ∷ rest) key =
    let m = map.from_entries {R = nat_cmp} (entries_from (key + 1) rest) in
    let few : map.len m ≤ length rest = few_entries rest (key + 1) in
    subst (λ (n : ℕ). n ≤ length (Some estimate ∷ rest)) (sym (map.len-insert nat_cmp_total m key estimate))
    (at_most_more (map.contains_key m key) (map.len m) (map.len m + 1) (length (Some estimate ∷ rest)) refl (omega (arith, few)))

pub few_keys : (table : List (Option ℕ)) → map.len (queue_of table) ≤ length table
unfolding queue_of
few_keys table = few_entries table 0

-- a key that the map lacks counts as one more, and one that it has as one less
pub len-more : (queue : Queue) (key estimate : ℕ) → map.get queue key ≡ None → map.len (map.insert queue key estimate) ≡ map.len queue + 1
len-more queue key estimate none = map.len-insert nat_cmp_total queue key estimate
    ∙ ap (λ (e : Option ℕ). cond (is_some e) (map.len queue) (map.len queue + 1)) none

pub len-same : (queue : Queue) (key known estimate : ℕ) → map.get queue key ≡ Some known → map.len (map.insert queue key estimate) ≡ map.len queue
len-same queue key known estimate some = map.len-insert nat_cmp_total queue key estimate
    ∙ ap (λ (e : Option ℕ). cond (is_some e) (map.len queue) (map.len queue + 1)) some

pub len-less : (queue : Queue) (key known : ℕ) → map.get queue key ≡ Some known → map.len (map.remove queue key) ≡ map.len queue - 1
len-less queue key known some = map.len-remove nat_cmp_total queue key
    ∙ ap (λ (e : Option ℕ). cond (is_some e) (map.len queue - 1) (map.len queue)) some

pub some_keys : (queue : Queue) (key known : ℕ) → map.get queue key ≡ Some known → 0 < map.len queue
some_keys queue key known some = elim (cases_eq (map.len queue) 0) [
  | inl none ↦ absurd (let is : map.get (map.empty {X = ℕ} {R = nat_cmp}) key ≡ Some known =
      ap (λ (m : Queue). map.get m key) (sym (map.empty_of_len queue none)) ∙ some in
      let no = map.get-empty {X = ℕ} nat_cmp key in cc)
  | inr more ↦ omega (arith, more)
]
