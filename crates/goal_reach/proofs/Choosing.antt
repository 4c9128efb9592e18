-- The best cell of a set, and that of two sets together.
use Rattle.std.proofs.Common.{ℕ, ◌≡◌, ◌<◌, ◌≤◌, ◌⊎◌, inl, inr, Option, Some, None, sym, ◌∙◌, subst, arith}
use Rattle.std.proofs.lemmas.Bool.{cases_order}
use Rattle.nav_types.specs.declared.cells.Cell.{Cell}
use Rattle.nav_types.specs.Cells.{IsNotAfter}
use Rattle.nav_types.proofs.CellOrder.{IsNotAfter-antisym, IsNotAfter-trans}
use Rattle.goal_reach.specs.declared.choices.Ranked.{Ranked}
use Rattle.goal_reach.specs.Choices.{IsLeastBy}
use Rattle.goal_reach.specs.inner.Ranking.{with_rank, IsPreferred, IsNoWorse, IsBest}

-- a set has one cell of least rank
pub one_least : (rank : Cell → ℕ) (Within : Cell → Type 0) (a b : Cell) → IsLeastBy rank Within a → IsLeastBy rank Within b → a ≡ b
one_least rank Within a b p q =
    let below = p.least b q.within in let above = q.least a p.within in
    let same : rank a ≡ rank b = omega arith in
    IsNotAfter-antisym a b (p.first b q.within (sym same)) (q.first a p.within same)

pub preferred_trans : (a b c : Ranked) → IsPreferred a b → IsPreferred b c → IsPreferred a c
preferred_trans a b c (inl less) (inl more) = inl (omega arith)
preferred_trans a b c (inl less) (inr (same, order)) = inl (omega arith)
preferred_trans a b c (inr (same, order)) (inl more) = inl (omega arith)
preferred_trans a b c (inr (same, order)) (inr (same', order')) = inr (same ∙ same', IsNotAfter-trans a.cell b.cell c.cell order order')

-- the best cell is preferred to each one of the set
best_preferred : (rank : Cell → ℕ) (Within : Cell → Type 0) (best : Ranked) → best.rank ≡ rank best.cell → IsLeastBy rank Within best.cell
    → (cell : Cell) → Within cell → IsPreferred best (with_rank rank cell)
best_preferred rank Within best ranked least cell within =
    let below = least.least cell within in
    elim (cases_order (rank cell) (rank best.cell)) [
      | inl same ↦ inr (omega arith, least.first cell within same)
      | inr order ↦ inl (elim order [ inl less ↦ absurd (omega arith) | inr more ↦ omega arith ])
    ]

not_more : (a b : Ranked) → IsPreferred a b → a.rank ≤ b.rank
not_more a b (inl less) = omega arith
not_more a b (inr (same, order)) = omega arith

not_after : (a b : Ranked) → IsPreferred a b → b.rank ≡ a.rank → IsNotAfter a.cell b.cell
not_after a b (inl less) same = absurd (omega arith)
not_after a b (inr (_, order)) same = order

-- a cell of the set that is preferred to each one is the best
pub preferred_best : (rank : Cell → ℕ) (Within : Cell → Type 0) (best : Ranked) → best.rank ≡ rank best.cell → Within best.cell
    → ((cell : Cell) → Within cell → IsPreferred best (with_rank rank cell)) → IsLeastBy rank Within best.cell
preferred_best rank Within best ranked within all = record {
  within = within;
  least = λ cell in_set. (let bound = not_more best (with_rank rank cell) (all cell in_set) in omega arith);
  first = λ cell in_set same. not_after best (with_rank rank cell) (all cell in_set) (same ∙ sym ranked);
}

-- what is as good as the best of a set is preferred to each one of the set
preferred_to_all : (rank : Cell → ℕ) (Within : Cell → Type 0) (best : Option Ranked) (other : Ranked) → IsBest rank Within best
    → IsNoWorse (Some other) best → (cell : Cell) → Within cell → IsPreferred other (with_rank rank cell)
preferred_to_all rank Within None other none over cell within = absurd (none cell within)
preferred_to_all rank Within (Some best) other was over cell within =
    preferred_trans other best (with_rank rank cell) over (best_preferred rank Within best was.0 was.1 cell within)

-- where nothing is as good as the best of a set, the set is empty
none_within : (rank : Cell → ℕ) (Within : Cell → Type 0) (best : Option Ranked) → IsBest rank Within best
    → IsNoWorse None best → (cell : Cell) → Within cell → ⊥
none_within rank Within None none over = none
none_within rank Within (Some best) was over = absurd over

-- the better one of the best of two sets is the best of both together
pub both_best : (rank : Cell → ℕ) (A B Both : Cell → Type 0) (first second result : Option Ranked) → IsBest rank A first → IsBest rank B second
    → (result ≡ first) ⊎ (result ≡ second) → IsNoWorse result first → IsNoWorse result second
    → ((cell : Cell) → A cell → Both cell) → ((cell : Cell) → B cell → Both cell) → ((cell : Cell) → Both cell → A cell ⊎ B cell) → IsBest rank Both result
both_best rank A B Both first second None p q one over_first over_second grows grows_too only = λ cell within.
    elim (only cell within) [ inl a ↦ none_within rank A first p over_first cell a | inr b ↦ none_within rank B second q over_second cell b ]
both_best rank A B Both first second (Some best) p q one over_first over_second grows grows_too only =
    let all = λ (cell : Cell) (within : Both cell). elim (only cell within) as (λ _. IsPreferred best (with_rank rank cell)) [
      | inl a ↦ preferred_to_all rank A first best p over_first cell a
      | inr b ↦ preferred_to_all rank B second best q over_second cell b
    ] in
    elim one [
      | inl same ↦ (let own = subst (IsBest rank A) (sym same) p in (own.0, preferred_best rank Both best own.0 (grows best.cell own.1.within) all))
      | inr same ↦ (let own = subst (IsBest rank B) (sym same) q in (own.0, preferred_best rank Both best own.0 (grows_too best.cell own.1.within) all))
    ]

-- the same of the cells that are offered, by the two sets that they lie in
pub either_best : (rank : Cell → ℕ) (Offered A B : Cell → Type 0) (first second result : Option Ranked)
    → IsBest rank (λ cell. Offered cell × A cell) first → IsBest rank (λ cell. Offered cell × B cell) second
    → (result ≡ first) ⊎ (result ≡ second) → IsNoWorse result first → IsNoWorse result second
    → IsBest rank (λ cell. Offered cell × (A cell ⊎ B cell)) result
either_best rank Offered A B first second result p q one over_first over_second =
    both_best rank (λ cell. Offered cell × A cell) (λ cell. Offered cell × B cell) (λ cell. Offered cell × (A cell ⊎ B cell)) first second result p q one over_first over_second
    (λ cell a. (a.0, inl a.1)) (λ cell b. (b.0, inr b.1))
    (λ cell both. elim both.1 [ inl a ↦ inl (both.0, a) | inr b ↦ inr (both.0, b) ])

-- two sets with the same cells have the same best
pub best_stays : (rank : Cell → ℕ) (Old New : Cell → Type 0) (best : Option Ranked) → IsBest rank Old best
    → ((cell : Cell) → Old cell → New cell) → ((cell : Cell) → New cell → Old cell) → IsBest rank New best
best_stays rank Old New None none grows shrinks = λ cell in_set. none cell (shrinks cell in_set)
best_stays rank Old New (Some best) was grows shrinks = (
  was.0,
  record {
    within = grows best.cell was.1.within;
    least = λ cell in_set. was.1.least cell (shrinks cell in_set);
    first = λ cell in_set same. was.1.first cell (shrinks cell in_set) same;
  },
)

-- a set that has only cells of greater rank more has the same best
pub best_of_more : (rank : Cell → ℕ) (Offered Old : Cell → Type 0) (best : Ranked) → IsBest rank (λ cell. Offered cell × Old cell) (Some best)
    → ((cell : Cell) → Offered cell → Old cell ⊎ (best.rank < rank cell)) → IsBest rank Offered (Some best)
best_of_more rank Offered Old best was more = (
  was.0,
  record {
    within = was.1.within.0;
    least = λ cell offered. elim (more cell offered) [ inl old ↦ was.1.least cell (offered, old) | inr greater ↦ (let own = was.0 in omega arith) ];
    first = λ cell offered same. elim (more cell offered) [ inl old ↦ was.1.first cell (offered, old) same | inr greater ↦ (let own = was.0 in absurd (omega arith)) ];
  },
)
