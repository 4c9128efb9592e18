-- A store's view, read through its keys and its slots, and what each edit makes of it.
use Rattle.std.proofs.Common.{◌≡◌, ℕ, suc, ◌≤◌, Bool, true, false, ◌&&◌, cond, T, List, [], ◌∷◌, length, set, Option, None, Some, is_some, IsSome, option_and_then, refl, sym, ap, subst, inl, inr, ◌∙◌, arith}
use Rattle.std.proofs.lemmas.Bool.{cases_lt}
use Rattle.std.proofs.lemmas.List.{get_or_past, get_or-set_same, get_or-set_other}
use Rattle.std.proofs.lemmas.Map.{lookup-none}
use Rattle.std.proofs.lemmas.Map.Entries.{lookup_head, lookup_tail, none_past_head}
use Rattle.std.proofs.lemmas.Map.Keys.{IsDistinct-from_sorted, sorted_head, sorted_tail}
use Rattle.std.specs.BTreeMap as tree
use Rattle.std.specs.BTreeMap.{BTreeMap, is_at}
use Rattle.std.specs.Cmp.{eq_by_cmp_equiv, nat_cmp_total}
use Rattle.std.specs.FinMap as map
use Rattle.std.specs.FinMap.{find, is_sorted}
use Rattle.std.specs.FinMap.Entries.{below_all}
use Rattle.std.specs.List.{AllByRecursion}
use Rattle.std.specs.List.Sorted.{IsStrictlySortedBy}
use Rattle.std.specs.Map.{keys_of, lookup}
use Rattle.std.specs.Ordering.{nat_cmp, eq_by_cmp, is_lt}
use Rattle.std.specs.declared.cmp.Ordering.TheVariants.{Less}
use Rattle.obstruction_shapes.specs.declared.shapes.Obstruction.{Obstruction}
use Rattle.slab.specs.Slab.{Slab, Updates}
use Rattle.obstruction_store.specs.inner.Held.{slot_at, with_entry, held_entries, held_standing, HaveFullSlots, IsHeld}
use Rattle.obstruction_store.specs.Standing.{Standing, Stands, IsFull}
use Rattle.obstruction_store.proofs.Changes.{Changes, same_changes, reads, Holds, reads-add, Holds-add, reads-remove, Holds-remove, reads-write, Holds-write}
use Rattle.nav_types.proofs.NumberTies.{ties_at, same_at, apart_at}

pub none_from_test : {A : Type 0} (o : Option A) → is_some o ≡ false → o ≡ None
none_from_test None is = refl
none_from_test (Some v) is = absurd (cc)

both : (a b : Bool) → T a → T b → T (a && b)
both true b p q = q
both false b p q = p

-- ---- the entries of a store
below_held : (slots : List (Option Obstruction)) (x : ℕ) (es : List (ℕ × ℕ)) → AllByRecursion (λ y. nat_cmp x y ≡ Less) (keys_of es)
    → T (below_all nat_cmp x (held_entries slots es))
below_held slots x [] below = tt
below_held slots x (e ∷ es) below =
    let rest = below_held slots x es below.1 in
    elim (slot_at slots e.1) as (λ o. T (below_all nat_cmp x (with_entry e.0 o (held_entries slots es)))) [
      | None ↦ rest
      | Some v ↦ both _ _ (subst (λ r. T (is_lt r)) (sym below.0) tt) rest
    ]

held_sorted : (slots : List (Option Obstruction)) (es : List (ℕ × ℕ)) → IsStrictlySortedBy nat_cmp (keys_of es)
    → T (is_sorted nat_cmp (held_entries slots es))
held_sorted slots [] sorted = tt
held_sorted slots (e ∷ es) sorted =
    let rest = held_sorted slots es (sorted_tail nat_cmp e.0 (keys_of es) sorted) in
    let below = below_held slots e.0 es (sorted_head nat_cmp e.0 (keys_of es) sorted) in
    elim (slot_at slots e.1) as (λ o. T (is_sorted nat_cmp (with_entry e.0 o (held_entries slots es)))) [
      | None ↦ rest
      | Some v ↦ both _ _ below rest
    ]

-- one entry more, with what its slot holds
find-entry : (slots : List (Option Obstruction)) (q : ℕ) (e : ℕ × ℕ) (es : List (ℕ × ℕ)) (o : Option Obstruction) → slot_at slots e.1 ≡ o
    → is_some o ≡ true → find nat_cmp q (held_entries slots es) ≡ option_and_then (slot_at slots) (lookup (is_at (nat_cmp q)) es)
    → find nat_cmp q (with_entry e.0 o (held_entries slots es)) ≡ option_and_then (slot_at slots) (lookup (is_at (nat_cmp q)) (e ∷ es))
find-entry slots q e es None is some rest = absurd (cc)
find-entry slots q e es (Some v) is some rest =
    elim (eq_by_cmp nat_cmp q e.0) as (λ b. cond b (Some v) (find nat_cmp q (held_entries slots es))
    ≡ option_and_then (slot_at slots) (cond b (Some e.1) (lookup (is_at (nat_cmp q)) es))) [
      | true ↦ sym is
      | false ↦ rest
    ]

find-held : (slots : List (Option Obstruction)) (q : ℕ) (es : List (ℕ × ℕ)) → HaveFullSlots slots es
    → find nat_cmp q (held_entries slots es) ≡ option_and_then (slot_at slots) (lookup (is_at (nat_cmp q)) es)
find-held slots q [] full = refl
find-held slots q (e ∷ es) full = find-entry slots q e es (slot_at slots e.1) refl full.0 (find-held slots q es full.1)

length-entry : (number n : ℕ) (o : Option Obstruction) (rest : List (ℕ × Obstruction)) → is_some o ≡ true → length rest ≡ n
    → length (with_entry number o rest) ≡ suc n
length-entry number n None rest some is = absurd (cc)
length-entry number n (Some v) rest some is = omega (arith, is)

length-held : (slots : List (Option Obstruction)) (es : List (ℕ × ℕ)) → HaveFullSlots slots es → length (held_entries slots es) ≡ length es
length-held slots [] full = refl
length-held slots (e ∷ es) full = length-entry e.0 (length es) (slot_at slots e.1) (held_entries slots es) full.0 (length-held slots es full.1)

-- where each number that is found has a full slot, all slots are full
pub HaveFullSlots-from_found : (slots : List (Option Obstruction)) (es : List (ℕ × ℕ)) → IsStrictlySortedBy nat_cmp (keys_of es)
    → ((q key : ℕ) → lookup (is_at (nat_cmp q)) es ≡ Some key → IsSome (slot_at slots key)) → HaveFullSlots slots es
HaveFullSlots-from_found slots [] sorted each = tt
HaveFullSlots-from_found slots (e ∷ es) sorted each = (
  each e.0 e.1 (lookup_head (is_at (nat_cmp e.0)) e es (ties_at e.0 e.0 refl)),
  HaveFullSlots-from_found slots es (sorted_tail nat_cmp e.0 (keys_of es) sorted) (λ q key found. each q key (later q key found)),
)
  where
    later : (q key : ℕ) → lookup (is_at (nat_cmp q)) es ≡ Some key → lookup (is_at (nat_cmp q)) (e ∷ es) ≡ Some key
    later q key found = elim (eq_by_cmp nat_cmp q e.0) as (λ b. eq_by_cmp nat_cmp q e.0 ≡ b → lookup (is_at (nat_cmp q)) (e ∷ es) ≡ Some key) [
      | true ↦ λ ties.
          let none = lookup-none (is_at (nat_cmp q)) es (none_past_head (eq_by_cmp_equiv nat_cmp_total) q e es (IsDistinct-from_sorted nat_cmp (keys_of (e ∷ es)) sorted) ties) in
          absurd (cc)
      | false ↦ λ apart. lookup_tail (is_at (nat_cmp q)) e es apart ∙ found
    ] refl

module _ (keys : BTreeMap ℕ ℕ) (slots : List (Option Obstruction)) (held : IsHeld keys slots) where
  pub all_full : HaveFullSlots slots keys.entries
  all_full = HaveFullSlots-from_found slots keys.entries held.ordered held.full

  pub entries-held : map.entries (held_standing keys slots) ≡ held_entries slots keys.entries
  entries-held = map.entries-from_sorted nat_cmp (held_entries slots keys.entries) (held_sorted slots keys.entries held.ordered)

  pub len-held : map.len (held_standing keys slots) ≡ tree.btree_map_len keys
  len-held = map.len-entries (held_standing keys slots) ∙ ap length entries-held ∙ length-held slots keys.entries all_full

  pub get-held : (q : ℕ) → map.get (held_standing keys slots) q ≡ option_and_then (slot_at slots) (tree.get nat_cmp keys q)
  get-held q = map.get-from_sorted nat_cmp (held_entries slots keys.entries) q (held_sorted slots keys.entries held.ordered)
      ∙ find-held slots q keys.entries all_full

  Holds-held : Holds (tree.get nat_cmp keys) (slot_at slots)
  Holds-held = record { full = held.full; apart = held.apart }

  module _ (standing : Standing) (view_is : held_standing keys slots ≡ standing) (number : ℕ) where
    -- what stands under a number is what the slot of its key holds
    pub stands_at : (key : ℕ) → tree.get nat_cmp keys number ≡ Some key → map.get standing number ≡ slot_at slots key
    stands_at key at = ap (λ m. map.get m number) (sym view_is) ∙ get-held number ∙ ap (option_and_then (slot_at slots)) at

    -- nothing stands under a number without a key
    pub none_stands : tree.get nat_cmp keys number ≡ None → map.get standing number ≡ None
    none_stands absent = ap (λ m. map.get m number) (sym view_is) ∙ get-held number ∙ ap (option_and_then (slot_at slots)) absent

    -- an obstruction stands under each number with a key, and under no other
    is_some-stands : (found : Option ℕ) → tree.get nat_cmp keys number ≡ found → is_some (map.get standing number) ≡ is_some found
    is_some-stands None is = ap is_some (none_stands is)
    is_some-stands (Some key) is = ap is_some (stands_at key is) ∙ held.full number key is

    pub stands_with_key : is_some (tree.get nat_cmp keys number) ≡ true → Stands standing number
    stands_with_key some = is_some-stands (tree.get nat_cmp keys number) refl ∙ some

    pub none_without_key : is_some (tree.get nat_cmp keys number) ≡ false → map.get standing number ≡ None
    none_without_key none = none_from_test (map.get standing number) (is_some-stands (tree.get nat_cmp keys number) refl ∙ none)

  module _ (standing : Standing) (view_is : held_standing keys slots ≡ standing) where
    pub len-stands : map.len standing ≡ tree.btree_map_len keys
    len-stands = ap map.len (sym view_is) ∙ len-held

    pub is_full : 65536 ≤ tree.btree_map_len keys → IsFull standing
    is_full many = let few = held.few in omega (arith, len-stands)

-- nothing stands where there are no keys
nothing_sorted : map.from_sorted {R = nat_cmp} [] ≡ map.empty {X = Obstruction}
nothing_sorted = map.empty_of_len _ (map.len-entries _ ∙ ap length (map.entries-from_sorted nat_cmp [] tt))

pub held-empty : (keys : BTreeMap ℕ ℕ) (slots : List (Option Obstruction)) → keys.entries ≡ [] → held_standing keys slots ≡ map.empty
held-empty keys slots none = ap (λ es. map.from_sorted (held_entries slots es)) none ∙ nothing_sorted

-- ---- what an edit changes
-- the key of one number, as a `BTreeMap` says it
on_keys : (keys keys' : BTreeMap ℕ ℕ) (number : ℕ) (now : Option ℕ) → tree.Updates nat_cmp keys keys' number now
    → Changes (tree.get nat_cmp keys) (tree.get nat_cmp keys') number now
on_keys keys keys' number now updates = record {
  here = updates.1;
  others = λ other differs. updates.2 other (elim (eq_by_cmp nat_cmp number other) as (λ b. eq_by_cmp nat_cmp number other ≡ b → b ≡ false) [
    | true ↦ λ ties. absurd (differs (sym (same_at number other ties)))
    | false ↦ λ ties. refl
  ] refl);
}

-- the value of one key, as a `Slab` says it
on_slots : (old new : Slab Obstruction) (key : ℕ) (now : Option Obstruction) → Updates old new key now
    → Changes (slot_at old.slots) (slot_at new.slots) key now
on_slots old new key now updates = record { here = updates.changed; others = updates.others }

pub on_insert : (m : Standing) (number : ℕ) (v : Obstruction) → Changes (map.get m) (map.get (map.insert m number v)) number (Some v)
on_insert m number v = record {
  here = map.get-insert nat_cmp_total m number v number ∙ ap (λ b. cond b (Some v) (map.get m number)) (ties_at number number refl);
  others = λ other differs. map.get-insert nat_cmp_total m number v other
      ∙ ap (λ b. cond b (Some v) (map.get m other)) (apart_at other number differs);
}

pub on_remove : (m : Standing) (number : ℕ) → Changes (map.get m) (map.get (map.remove m number)) number None
on_remove m number = record {
  here = map.get-remove nat_cmp_total m number number ∙ ap (λ b. cond b None (map.get m number)) (ties_at number number refl);
  others = λ other differs. map.get-remove nat_cmp_total m number other
      ∙ ap (λ b. cond b None (map.get m other)) (apart_at other number differs);
}

-- two maps that change one map alike are equal
pub same_standing : (m n n' : Standing) (number : ℕ) (now : Option Obstruction) → Changes (map.get m) (map.get n) number now
    → Changes (map.get m) (map.get n') number now → n ≡ n'
same_standing m n n' number now change change' =
    map.same_map nat_cmp_total map.nat_cmp-IsAntisymmetric n n' (same_changes change change')

-- a change of what is read is a change of what stands
on_standing : (keys keys' : BTreeMap ℕ ℕ) (slots slots' : List (Option Obstruction)) (number : ℕ) (now : Option Obstruction)
    → IsHeld keys slots → IsHeld keys' slots'
    → Changes (reads (tree.get nat_cmp keys) (slot_at slots)) (reads (tree.get nat_cmp keys') (slot_at slots')) number now
    → Changes (map.get (held_standing keys slots)) (map.get (held_standing keys' slots')) number now
on_standing keys keys' slots slots' number now held held' change = record {
  here = get-held keys' slots' held' number ∙ change.here;
  others = λ other differs. get-held keys' slots' held' other ∙ change.others other differs ∙ sym (get-held keys slots held other);
}

-- ---- the edits
module _ (keys keys' : BTreeMap ℕ ℕ) (s s' : Slab Obstruction) (number key : ℕ) (held : IsHeld keys s.slots) where
  module _ (v : Obstruction) (vacant : slot_at s.slots key ≡ None) (of_keys : tree.Updates nat_cmp keys keys' number (Some key))
      (of_slots : Updates s s' key (Some v)) where
    pub IsHeld-add : tree.IsOrdered nat_cmp keys' → tree.btree_map_len keys' ≤ 65536 → IsHeld keys' s'.slots
    IsHeld-add ordered few =
        let holds = Holds-add (tree.get nat_cmp keys) (tree.get nat_cmp keys') (slot_at s.slots) (slot_at s'.slots) number key v
        (Holds-held keys s.slots held) vacant (on_keys keys keys' number (Some key) of_keys) (on_slots s s' key (Some v) of_slots) in
        record { ordered = ordered; full = holds.full; apart = holds.apart; few = few }

    pub held-add : IsHeld keys' s'.slots → held_standing keys' s'.slots ≡ map.insert (held_standing keys s.slots) number v
    held-add held' =
        let change = reads-add (tree.get nat_cmp keys) (tree.get nat_cmp keys') (slot_at s.slots) (slot_at s'.slots) number key v
        (Holds-held keys s.slots held) vacant (on_keys keys keys' number (Some key) of_keys) (on_slots s s' key (Some v) of_slots) in
        same_standing (held_standing keys s.slots) _ _ number (Some v)
        (on_standing keys keys' s.slots s'.slots number (Some v) held held' change) (on_insert (held_standing keys s.slots) number v)

  module _ (at : tree.get nat_cmp keys number ≡ Some key) (of_keys : tree.Updates nat_cmp keys keys' number None)
      (of_slots : Updates s s' key None) where
    pub IsHeld-remove : tree.IsOrdered nat_cmp keys' → tree.btree_map_len keys' ≤ 65536 → IsHeld keys' s'.slots
    IsHeld-remove ordered few =
        let holds = Holds-remove (tree.get nat_cmp keys) (tree.get nat_cmp keys') (slot_at s.slots) (slot_at s'.slots) number key
        (Holds-held keys s.slots held) at (on_keys keys keys' number None of_keys) (on_slots s s' key None of_slots) in
        record { ordered = ordered; full = holds.full; apart = holds.apart; few = few }

    pub held-remove : IsHeld keys' s'.slots → held_standing keys' s'.slots ≡ map.remove (held_standing keys s.slots) number
    held-remove held' =
        let change = reads-remove (tree.get nat_cmp keys) (tree.get nat_cmp keys') (slot_at s.slots) (slot_at s'.slots) number key
        (Holds-held keys s.slots held) at (on_keys keys keys' number None of_keys) (on_slots s s' key None of_slots) in
        same_standing (held_standing keys s.slots) _ _ number None
        (on_standing keys keys' s.slots s'.slots number None held held' change) (on_remove (held_standing keys s.slots) number)

module _ (keys : BTreeMap ℕ ℕ) (slots slots' : List (Option Obstruction)) (number key : ℕ) (v : Obstruction) (held : IsHeld keys slots)
    (at : tree.get nat_cmp keys number ≡ Some key) (of_slots : Changes (slot_at slots) (slot_at slots') key (Some v)) where
  pub IsHeld-write : IsHeld keys slots'
  IsHeld-write =
      let holds = Holds-write (tree.get nat_cmp keys) (slot_at slots) (slot_at slots') number key v (Holds-held keys slots held) at
      of_slots in
      record { ordered = held.ordered; full = holds.full; apart = holds.apart; few = held.few }

  pub held-write : held_standing keys slots' ≡ map.insert (held_standing keys slots) number v
  held-write =
      let change = reads-write (tree.get nat_cmp keys) (slot_at slots) (slot_at slots') number key v (Holds-held keys slots held) at
      of_slots in
      same_standing (held_standing keys slots) _ _ number (Some v)
      (on_standing keys keys slots slots' number (Some v) held IsHeld-write change) (on_insert (held_standing keys slots) number v)

-- a value that is written over the one in a slot
pub slot_written : (slots : List (Option Obstruction)) (key : ℕ) (v : Obstruction) → IsSome (slot_at slots key)
    → Changes (slot_at slots) (slot_at (set slots key (Some v))) key (Some v)
slot_written slots key v some = record {
  here = get_or-set_same slots key (Some v) None (elim (cases_lt key (length slots)) [
    | inl low ↦ low
    | inr past ↦
        let none : slot_at slots key ≡ None = get_or_past slots key None past in
        absurd (cc)
  ]);
  others = λ other differs. get_or-set_other slots key other (Some v) None differs;
}
