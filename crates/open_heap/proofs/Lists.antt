-- An open list over a table of estimates and buckets that have an entry for each key.
use Rattle.std.proofs.Common.{ℕ, true, false, ◌≡◌, ◌<◌, ◌≤◌, ◌⊎◌, ◌+◌, ◌-◌, List, [], length, set, Option, None, Some, Result, Ok, Err, OnErr, IfSome, IfNone, IsSomeAnd, IsTrue, IsFalse, refl, ap, inl, inr, sym, subst, ◌∙◌, arith}
use Rattle.std.specs.Option.{is_some}
use Rattle.std.proofs.lemmas.Bool.{both_ways, cases_eq, cases_lt}
use Rattle.std.proofs.lemmas.Option.{same_Some, slice_get_past}
use Rattle.std.specs.Cmp.{nat_cmp_total}
use Rattle.std.specs.FinMap as map
use Rattle.std.specs.FinMap.{nat_cmp-IsAntisymmetric}
use Rattle.std.specs.Ordering.{nat_cmp}
use Rattle.open_heap.specs.declared.buckets.Waiting.{Waiting}
use Rattle.open_heap.specs.declared.entries.Entry.{Entry}
use Rattle.open_heap.specs.Queue.{Queue, IsLeast}
use Rattle.open_heap.specs.inner.Buckets.{queue_of, estimate_in, estimate_at, IsLive, IsHeld, HasEach}
use Rattle.open_heap.proofs.Tables.{get-queue, same_queue, at-set_same, at-set_other, empty_table, queue-insert, queue-remove, len-more, len-same, len-less, some_keys}

pub on_err_from : {A E : Type 0} (result : Result A E) (P : Type 0) → P → OnErr result P
on_err_from (Ok a) P p = tt
on_err_from (Err e) P p = p

pub if_both : {X : Type 0} (found : Option X) (P Q : X → Type 0) → IfSome found P → IfSome found Q → IfSome found (λ x. P x × Q x)
if_both None P Q p q = tt
if_both (Some x) P Q p q = (p, q)

pub if_none_then : {X : Type 0} (found : Option X) (P Q : Type 0) → IfNone found P → (P → Q) → IfNone found Q
if_none_then None P Q p then = then p
if_none_then (Some x) P Q p then = tt

pub known_of : (found : Option ℕ) (P : ℕ → Type 0) → IsSomeAnd found P → (known : ℕ) × (found ≡ Some known)
known_of None P is = absurd is
known_of (Some known) P is = (known, refl)

pub some_of : (found : Option ℕ) → IsTrue (is_some found) → (known : ℕ) × (found ≡ Some known)
some_of None is = absurd (both_ways false refl is)
some_of (Some known) is = (known, refl)

pub none_left : (found : Option ℕ) → IsFalse (is_some found) → found ≡ None
none_left None not = refl
none_left (Some known) not = absurd (both_ways true not refl)

-- whatever the first has, the second has too
abbrev pub KeepsAll : (Entry → Type 0) → (Entry → Type 0) → Type 0
KeepsAll Old New = (entry : Entry) → Old entry → New entry

no_estimate : (found : Option ℕ) → ((estimate : ℕ) → found ≡ Some estimate → ⊥) → found ≡ None
no_estimate None none = refl
no_estimate (Some estimate) none = absurd (none estimate refl)

same_entry : (a b : Entry) → a.key ≡ b.key → a.estimate ≡ b.estimate → a ≡ b
same_entry a b key estimate =
    ap (λ (e : ℕ). record { estimate = e; key = a.key }) estimate ∙ ap (λ (k : ℕ). record { estimate = b.estimate; key = k }) key

pub live_inside : (table : List (Option ℕ)) (entry : Entry) → IsLive table entry → entry.key < length table
live_inside table entry live = elim (cases_lt entry.key (length table)) [
  | inl inside ↦ inside
  | inr past ↦
      let is : None ≡ Some entry.estimate = sym (ap estimate_in (slice_get_past table entry.key past)) ∙ live in
      absurd (cc)
]

pub each_none : (start reached : ℕ) (later : List Waiting) (here : List Entry) (table : List (Option ℕ)) → table ≡ []
    → HasEach 0 start reached later here table
each_none start reached later here table none = record {
  counted = sym (ap (λ (t : List (Option ℕ)). map.len (queue_of t)) none ∙ ap (λ (m : Queue). map.len m) empty_table
      ∙ map.len-empty nat_cmp ℕ);
  held = λ entry live.
      let is : None ≡ Some entry.estimate = ap (λ (t : List (Option ℕ)). estimate_at t entry.key) (sym none) ∙ live in
      absurd (cc);
}

module _ (start reached : ℕ) (later : List Waiting) (here : List Entry) (from now : ℕ) (more : List Waiting) (there : List Entry) where
  -- another table with the same estimates
  pub each_same : (count : ℕ) (old new : List (Option ℕ)) → ((key : ℕ) → estimate_at new key ≡ estimate_at old key)
      → HasEach count start reached later here old → HasEach count start reached later here new
  each_same count old new same has = record {
    counted = has.counted ∙ ap (λ (m : Queue). map.len m) (sym (same_queue old new same));
    held = λ entry live. has.held entry (sym (same entry.key) ∙ live);
  }

  -- a key without an estimate gets one
  pub each_pushed : (count : ℕ) (table : List (Option ℕ)) (entry : Entry) → HasEach count start reached later here table
      → KeepsAll (IsHeld start reached later here) (IsHeld from now more there) → IsHeld from now more there entry
      → entry.key < length table → map.get (queue_of table) entry.key ≡ None
      → HasEach (count + 1) from now more there (set table entry.key (Some entry.estimate))
  each_pushed count table entry has kept held inside none =
      let new = set table entry.key (Some entry.estimate) in
      record {
        counted = ap (λ (n : ℕ). n + 1) has.counted ∙ sym (len-more (queue_of table) entry.key entry.estimate none)
            ∙ ap (λ (m : Queue). map.len m) (sym (queue-insert table entry.key entry.estimate inside));
        held = λ other live. elim (cases_eq other.key entry.key) [
          | inl same ↦
              let is : Some entry.estimate ≡ Some other.estimate =
              sym (at-set_same table entry.key (Some entry.estimate) inside) ∙ ap (λ (k : ℕ). estimate_at new k) (sym same) ∙ live in
              subst (λ (e : Entry). IsHeld from now more there e)
              (same_entry entry other (sym same) (same_Some entry.estimate other.estimate is)) held
          | inr apart ↦ kept other (has.held other (sym (at-set_other table entry.key other.key (Some entry.estimate) apart) ∙ live))
        ];
      }

  -- a key with an estimate gets another
  pub each_lowered : (count : ℕ) (table : List (Option ℕ)) (entry : Entry) (known : ℕ) → HasEach count start reached later here table
      → KeepsAll (IsHeld start reached later here) (IsHeld from now more there) → IsHeld from now more there entry
      → entry.key < length table → map.get (queue_of table) entry.key ≡ Some known
      → HasEach count from now more there (set table entry.key (Some entry.estimate))
  each_lowered count table entry known has kept held inside some =
      let new = set table entry.key (Some entry.estimate) in
      record {
        counted = has.counted ∙ sym (len-same (queue_of table) entry.key known entry.estimate some)
            ∙ ap (λ (m : Queue). map.len m) (sym (queue-insert table entry.key entry.estimate inside));
        held = λ other live. elim (cases_eq other.key entry.key) [
          | inl same ↦
              let is : Some entry.estimate ≡ Some other.estimate =
              sym (at-set_same table entry.key (Some entry.estimate) inside) ∙ ap (λ (k : ℕ). estimate_at new k) (sym same) ∙ live in
              subst (λ (e : Entry). IsHeld from now more there e)
              (same_entry entry other (sym same) (same_Some entry.estimate other.estimate is)) held
          | inr apart ↦ kept other (has.held other (sym (at-set_other table entry.key other.key (Some entry.estimate) apart) ∙ live))
        ];
      }

  -- a key loses its estimate
  pub each_taken : (count : ℕ) (table : List (Option ℕ)) (entry : Entry) → HasEach count start reached later here table
      → ((other : Entry) → IsLive table other → IsHeld start reached later here other → (entry ≡ other) ⊎ IsHeld from now more there other)
      → entry.key < length table → IsLive table entry
      → HasEach (count - 1) from now more there (set table entry.key None)
  each_taken count table entry has kept inside live =
      let new = set table entry.key None in
      record {
        counted = ap (λ (n : ℕ). n - 1) has.counted
            ∙ sym (len-less (queue_of table) entry.key entry.estimate (get-queue table entry.key ∙ live))
            ∙ ap (λ (m : Queue). map.len m) (sym (queue-remove table entry.key inside));
        held = λ other has_it. elim (cases_eq other.key entry.key) [
          | inl same ↦
              let is : None ≡ Some other.estimate =
              sym (at-set_same table entry.key None inside) ∙ ap (λ (k : ℕ). estimate_at new k) (sym same) ∙ has_it in
              absurd (cc)
          | inr apart ↦
              let was : IsLive table other = sym (at-set_other table entry.key other.key None apart) ∙ has_it in
              elim (kept other was (has.held other was)) [
                | inl is ↦ absurd (apart (ap (λ (e : Entry). e.key) (sym is)))
                | inr held ↦ held
              ]
        ];
      }

  -- where the list has no key, other buckets do as well
  pub each_anew : (count : ℕ) (table : List (Option ℕ)) → count ≡ 0 → HasEach count start reached later here table
      → HasEach count from now more there table
  each_anew count table none has = record {
    counted = has.counted;
    held = λ entry live.
        let some = some_keys (queue_of table) entry.key entry.estimate (get-queue table entry.key ∙ live) in
        let is = has.counted in
        absurd (omega (arith, some, is, none));
  }

  pub each_kept : (count : ℕ) (table : List (Option ℕ)) → HasEach count start reached later here table
      → ((other : Entry) → IsLive table other → IsHeld start reached later here other → IsHeld from now more there other)
      → HasEach count from now more there table
  each_kept count table has kept = record { counted = has.counted; held = λ entry live. kept entry live (has.held entry live) }

  -- ---- what comes first
  pub least_of : (count : ℕ) (table : List (Option ℕ)) (entry : Entry) → HasEach count start reached later here table → IsLive table entry
      → ((other : Entry) → IsLive table other → IsHeld start reached later here other → entry.estimate ≤ other.estimate)
      → IsLeast (queue_of table) entry
  least_of count table entry has live first = record {
    present = get-queue table entry.key ∙ live;
    first = λ key estimate is.
        let other : Entry = record { estimate = estimate; key = key } in
        let lives : IsLive table other = sym (get-queue table key) ∙ is in
        first other lives (has.held other lives);
  }

  pub none_of : (count : ℕ) (table : List (Option ℕ)) → HasEach count start reached later here table
      → ((other : Entry) → IsLive table other → IsHeld start reached later here other → ⊥)
      → queue_of table ≡ map.empty
  none_of count table has none = map.same_map nat_cmp_total nat_cmp-IsAntisymmetric (queue_of table) map.empty (λ key.
      get-queue table key ∙ no_estimate (estimate_at table key) (λ estimate is.
      let other : Entry = record { estimate = estimate; key = key } in
      none other is (has.held other is))
      ∙ sym (map.get-empty nat_cmp key))
