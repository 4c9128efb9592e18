-- The order of pairs of numbers, as sorting compares them.
use Rattle.std.proofs.Common.{ℕ, ◌≡◌, ◌<◌, ◌&&◌, Bool, true, nat_eq, refl, inl, inr, arith}
use Rattle.std.proofs.lemmas.Bool.{and_parts, eqb-true}
use Rattle.std.proofs.lemmas.Cmp.{then_total, on_total, nat_cmp_total, and_equiv, on_equiv, nat_eq_equiv, ranked, by_ranked}
use Rattle.std.specs.Cmp.{IsTotalOrder, IsEquivalence, unsigned_ties}
use Rattle.std.specs.Ordering.{nat_cmp, ordering_then, eq_by_cmp, is_eq}
use Rattle.std.specs.declared.cmp.Ordering.{Ordering}
use Rattle.std.specs.declared.cmp.Ordering.TheVariants.{Less, Equal, Greater}
use Rattle.nav_types.proofs.Items.{same_pair}
use Rattle.region_edges.specs.Edges.{IsPairBefore}

abbrev pub pair_cmp : ℕ × ℕ → ℕ × ℕ → Ordering
pair_cmp a b = ordering_then (nat_cmp a.0 b.0) (nat_cmp a.1 b.1)

abbrev pub pair_eq : ℕ × ℕ → ℕ × ℕ → Bool
pair_eq a b = nat_eq a.0 b.0 && nat_eq a.1 b.1

pub pair_total : IsTotalOrder pair_cmp
pair_total = then_total (on_total (λ (p : ℕ × ℕ). p.0) nat_cmp_total) (on_total (λ (p : ℕ × ℕ). p.1) nat_cmp_total)

pub pair_equiv : IsEquivalence pair_eq
pair_equiv = and_equiv (on_equiv (λ (p : ℕ × ℕ). p.0) nat_eq_equiv) (on_equiv (λ (p : ℕ × ℕ). p.1) nat_eq_equiv)

both_tie : (o p : Ordering) → is_eq (ordering_then o p) ≡ (is_eq o && is_eq p)
both_tie Less p = refl
both_tie Equal p = refl
both_tie Greater p = refl

-- pairs are equal exactly where the order ties them
pub pair_ties : (a b : ℕ × ℕ) → pair_eq a b ≡ eq_by_cmp pair_cmp a b
pair_ties a b =
    let first = unsigned_ties a.0 b.0 in
    let second = unsigned_ties a.1 b.1 in
    let tie = both_tie (nat_cmp a.0 b.0) (nat_cmp a.1 b.1) in
    cc

pub pair_same : (a b : ℕ × ℕ) → pair_eq a b ≡ true → a ≡ b
pair_same a b same =
    let parts = and_parts (nat_eq a.0 b.0) (nat_eq a.1 b.1) same in
    same_pair a b (eqb-true a.0 b.0 parts.0) (eqb-true a.1 b.1 parts.1)

-- what the order calls less comes before
pub before_from_Less : (a b : ℕ × ℕ) → pair_cmp a b ≡ Less → IsPairBefore a b
before_from_Less a b less =
    by_ranked (a.0 < b.0) (a.0 ≡ b.0) (b.0 < a.0) (nat_cmp a.0 b.0) (ranked a.0 b.0 (nat_cmp a.0 b.0) refl)
    (λ _ lower. inl lower)
    (λ tie same. inr (
      same,
      by_ranked (a.1 < b.1) (a.1 ≡ b.1) (b.1 < a.1) (nat_cmp a.1 b.1) (ranked a.1 b.1 (nat_cmp a.1 b.1) refl)
          (λ _ lower. lower) (λ equal _. absurd (cc)) (λ greater _. absurd (cc)),
    ))
    (λ greater _. absurd (cc))

-- of two pairs only one comes before the other
pub IsPairBefore-asym : (a b : ℕ × ℕ) → IsPairBefore a b → IsPairBefore b a → ⊥
IsPairBefore-asym a b here there = elim here [
  | inl first ↦ elim there [ inl back ↦ omega arith | inr second ↦ omega arith ]
  | inr second ↦ elim there [ inl back ↦ omega arith | inr back ↦ omega arith ]
]
