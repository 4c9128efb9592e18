-- Which unsigned numbers std's order holds for one, as where numbers are the keys of a finite map, and which lie below
-- the next number.
use Rattle.std.proofs.Common.{ℕ, ◌≡◌, ◌≢◌, ◌⊎◌, ◌+◌, ◌||◌, ◌==◌, nat_lt, true, false, inl, inr, sym, ap, ◌∙◌, arith}
use Rattle.std.proofs.lemmas.Bool.{cases_lt, cases_eq, eq-eqb, eqb-true, ne_eqb, lt-ltb, le-ltb}
use Rattle.std.specs.Cmp.{unsigned_tied, unsigned_ties}
use Rattle.std.specs.Ordering.{nat_cmp, eq_by_cmp}

pub ties_at : (a b : ℕ) → a ≡ b → eq_by_cmp nat_cmp a b ≡ true
ties_at a b same = unsigned_tied a b ∙ eq-eqb a b same

pub same_at : (a b : ℕ) → eq_by_cmp nat_cmp a b ≡ true → a ≡ b
same_at a b ties = eqb-true a b (unsigned_ties a b ∙ ties)

pub apart_at : (a b : ℕ) → a ≢ b → eq_by_cmp nat_cmp a b ≡ false
apart_at a b differ = unsigned_tied a b ∙ ne_eqb a b differ

-- two numbers are one, or the order tells them apart
pub tie_cases : (a b : ℕ) → ((a ≡ b) × (eq_by_cmp nat_cmp a b ≡ true)) ⊎ ((a ≢ b) × (eq_by_cmp nat_cmp a b ≡ false))
tie_cases a b = elim (cases_eq a b) [
  | inl same ↦ inl (same, ties_at a b same)
  | inr differ ↦ inr (differ, apart_at a b differ)
]

-- the numbers below the next one are those below, and the number itself
pub below_next : (a j : ℕ) → (nat_lt a j || a == j) ≡ nat_lt a (j + 1)
below_next a j = elim (cases_lt a j) [
  | inl less ↦ ap (λ b. b || a == j) (lt-ltb a j less) ∙ sym (lt-ltb a (j + 1) (omega arith))
  | inr more ↦ ap (λ b. b || a == j) (le-ltb a j more) ∙ elim (cases_eq a j) [
    | inl same ↦ eq-eqb a j same ∙ sym (lt-ltb a (j + 1) (omega arith))
    | inr apart ↦ ne_eqb a j apart ∙ sym (le-ltb a (j + 1) (elim (cases_lt a (j + 1)) [
      | inl low ↦ absurd (apart (omega arith))
      | inr high ↦ high
    ]))
  ]
]
