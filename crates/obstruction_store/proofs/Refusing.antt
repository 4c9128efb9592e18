-- Small facts on options and on the causes of refusals.
use Rattle.std.proofs.Common.{◌≡◌, ◌≤◌, Bool, true, false, if◌then◌else◌, Option, None, Some, is_some, IsSomeAnd, subst, arith}
use Rattle.std.proofs.lemmas.Option.{same_Some}

-- one more entry, or none more
pub at_most_one : (b : Bool) → (if b then 0 else 1) ≤ 1
at_most_one true = omega arith
at_most_one false = omega arith

module _ {A : Type 0} where
  -- a value and no value
  pub some_not_none : (o : Option A) → is_some o ≡ true → o ≡ None → ⊥
  some_not_none None some none = absurd (cc)
  some_not_none (Some a) some none = absurd (cc)

  -- no value of which something holds
  pub none_holds : (P : A → Type 0) (o : Option A) → o ≡ None → IsSomeAnd o P → ⊥
  none_holds P None none holds = holds
  none_holds P (Some a) none holds = absurd (cc)

  pub holds_at : (P : A → Type 0) (o : Option A) (a : A) → o ≡ Some a → IsSomeAnd o P → P a
  holds_at P None a value holds = absurd holds
  holds_at P (Some b) a value holds = subst P (same_Some b a value) holds
