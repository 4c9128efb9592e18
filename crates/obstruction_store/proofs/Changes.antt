-- Maps as functions from a number: what changes at one number, and two maps read one after the other.
use Rattle.std.proofs.Common.{◌≡◌, ◌≢◌, ℕ, Option, None, Some, is_some, IsSome, option_and_then, refl, sym, ap, inl, inr, ◌∙◌}
use Rattle.std.proofs.lemmas.Bool.{cases_eq}
use Rattle.std.proofs.lemmas.Option.{same_Some}

-- the new map has this at the number, and at each other what the old one had
pub record Changes {A : Type 0} (old new : ℕ → Option A) (number : ℕ) (now : Option A) : Type 0 where
  pub here : new number ≡ now
  pub others : (other : ℕ) → other ≢ number → new other ≡ old other

-- two maps that change one map alike answer alike
pub same_changes : {A : Type 0} {old new new' : ℕ → Option A} {number : ℕ} {now : Option A}
    → Changes old new number now → Changes old new' number now → (q : ℕ) → new q ≡ new' q
same_changes {new = new} {new' = new'} {number = number} change change' q = elim (cases_eq q number) [
  | inl same ↦ ap new same ∙ change.here ∙ sym change'.here ∙ ap new' (sym same)
  | inr differs ↦ change.others q differs ∙ sym (change'.others q differs)
]

module _ {V : Type 0} where
  -- the value under the key of a number
  abbrev pub reads : (ℕ → Option ℕ) → (ℕ → Option V) → ℕ → Option V
  reads keys values number = option_and_then values (keys number)

  -- the key of each number has a value, and no two numbers have one key
  pub record Holds (keys : ℕ → Option ℕ) (values : ℕ → Option V) : Type 0 where
    pub full : (number key : ℕ) → keys number ≡ Some key → IsSome (values key)
    pub apart : (a b key : ℕ) → keys a ≡ Some key → keys b ≡ Some key → a ≡ b

  -- the same key, where it is not the changed one, has the same value
  kept : (old new : ℕ → Option V) (key : ℕ) (now : Option V) (at : Option ℕ) → Changes old new key now
      → (at ≡ Some key → ⊥) → option_and_then new at ≡ option_and_then old at
  kept old new key now None change other = refl
  kept old new key now (Some found) change other = change.others found (λ same. other (ap (λ k. Some k) same))

  module _ (keys keys' : ℕ → Option ℕ) (values values' : ℕ → Option V) (number key : ℕ) (value : V) where
    -- the key has no value, so it is no number's
    no_key : Holds keys values → values key ≡ None → (other : ℕ) → keys other ≡ Some key → ⊥
    no_key holds vacant other is = let some = holds.full other key is in absurd (cc)

    pub reads-add : Holds keys values → values key ≡ None → Changes keys keys' number (Some key)
        → Changes values values' key (Some value) → Changes (reads keys values) (reads keys' values') number (Some value)
    reads-add holds vacant on_keys on_values = record {
      here = ap (option_and_then values') on_keys.here ∙ on_values.here;
      others = λ other differs. ap (option_and_then values') (on_keys.others other differs)
          ∙ kept values values' key (Some value) (keys other) on_values (no_key holds vacant other);
    }

    pub Holds-add : Holds keys values → values key ≡ None → Changes keys keys' number (Some key)
        → Changes values values' key (Some value) → Holds keys' values'
    Holds-add holds vacant on_keys on_values = record {
      full = λ other at is. elim (cases_eq other number) [
        | inl same ↦ let found = same_Some key at (sym on_keys.here ∙ ap keys' (sym same) ∙ is) in
            ap (λ k. is_some (values' k)) (sym found) ∙ ap is_some on_values.here
        | inr differs ↦ full_other at (holds.full other at (sym (on_keys.others other differs) ∙ is))
            (λ same. no_key holds vacant other (sym (on_keys.others other differs) ∙ is ∙ ap (λ k. Some k) same))
      ];
      apart = λ a b at of_a of_b. elim (cases_eq a number) [
        | inl first ↦ elim (cases_eq b number) [
          | inl second ↦ first ∙ sym second
          | inr differs ↦ absurd (no_key holds vacant b (sym (on_keys.others b differs) ∙ of_b ∙ sym of_a ∙ ap keys' first ∙ on_keys.here))
        ]
        | inr apart ↦ elim (cases_eq b number) [
          | inl second ↦ absurd (no_key holds vacant a (sym (on_keys.others a apart) ∙ of_a ∙ sym of_b ∙ ap keys' second ∙ on_keys.here))
          | inr differs ↦ holds.apart a b at (sym (on_keys.others a apart) ∙ of_a) (sym (on_keys.others b differs) ∙ of_b)
        ]
      ];
    }
      where
        full_other : (at : ℕ) → IsSome (values at) → at ≢ key → IsSome (values' at)
        full_other at some differs = ap is_some (on_values.others at differs) ∙ some

  module _ (keys keys' : ℕ → Option ℕ) (values values' : ℕ → Option V) (number key : ℕ) where
    -- the key is no other number's
    own_key : Holds keys values → keys number ≡ Some key → (other : ℕ) → other ≢ number → keys other ≡ Some key → ⊥
    own_key holds at other differs is = differs (holds.apart other number key is at)

    pub reads-remove : Holds keys values → keys number ≡ Some key → Changes keys keys' number None
        → Changes values values' key None → Changes (reads keys values) (reads keys' values') number None
    reads-remove holds at on_keys on_values = record {
      here = ap (option_and_then values') on_keys.here;
      others = λ other differs. ap (option_and_then values') (on_keys.others other differs)
          ∙ kept values values' key None (keys other) on_values (own_key holds at other differs);
    }

    pub Holds-remove : Holds keys values → keys number ≡ Some key → Changes keys keys' number None
        → Changes values values' key None → Holds keys' values'
    Holds-remove holds at on_keys on_values = record {
      full = λ other found is. full_at other found is (stays other found is);
      apart = λ a b found of_a of_b. holds.apart a b found
          (sym (on_keys.others a (stays a found of_a)) ∙ of_a) (sym (on_keys.others b (stays b found of_b)) ∙ of_b);
    }
      where
        stays : (other found : ℕ) → keys' other ≡ Some found → other ≢ number
        stays other found is same = let gone = on_keys.here in let moved = ap keys' same in absurd (cc)

        full_at : (other found : ℕ) → keys' other ≡ Some found → other ≢ number → IsSome (values' found)
        full_at other found is differs =
            let before : keys other ≡ Some found = sym (on_keys.others other differs) ∙ is in
            ap is_some (on_values.others found (λ same. own_key holds at other differs (before ∙ ap (λ k. Some k) same)))
            ∙ holds.full other found before

  module _ (keys : ℕ → Option ℕ) (values values' : ℕ → Option V) (number key : ℕ) (value : V) (holds : Holds keys values)
      (at : keys number ≡ Some key) (on_values : Changes values values' key (Some value)) where
    pub reads-write : Changes (reads keys values) (reads keys values') number (Some value)
    reads-write = record {
      here = ap (option_and_then values') at ∙ on_values.here;
      others = λ other differs. kept values values' key (Some value) (keys other) on_values
          (λ same. differs (holds.apart other number key same at));
    }

    pub Holds-write : Holds keys values'
    Holds-write = record {
      full = λ other found is. elim (cases_eq found key) [
        | inl same ↦ ap (λ k. is_some (values' k)) same ∙ ap is_some on_values.here
        | inr differs ↦ ap is_some (on_values.others found differs) ∙ holds.full other found is
      ];
      apart = holds.apart;
    }
