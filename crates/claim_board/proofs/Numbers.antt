-- Lists of numbers, each of which stands there once.
use Rattle.std.proofs.Common.{◌≡◌, ◌≢◌, ℕ, zero, suc, ◌+◌, ◌<◌, ◌≤◌, Bool, true, false, cond, eqb, List, [], ◌∷◌, length, get_or, refl, sym, ap, ◌∙◌, subst, ⊎_elim, arith, eq-eqb, eqb-true}
use Rattle.std.specs.Prelude.{All, AllPairs, Contains, filter}
use Rattle.std.proofs.lemmas.Bool.{cases_Bool, cond-true, cond-false}
use Rattle.std.proofs.lemmas.Bool.Decides.{nat_tests}
use Rattle.std.proofs.lemmas.List.Sums.{sum_by-cons, get_or-le-sum_by}
use Rattle.nav_types.proofs.Items.{Contains-tail}
use Rattle.claim_board.specs.inner.ClaimWord.{times, once_below}

-- the next number
pub once_below-next : (n word : ℕ) → once_below n word + times n (word ∷ []) ≡ once_below n (word + 1)
once_below-next n word = grind (arith, nat_tests)

pub once_below-none : (n : ℕ) → 0 ≡ once_below n 0
once_below-none n = grind (arith, nat_tests)

pub once_below-in : (n bound : ℕ) → 0 < once_below n bound → n < bound
once_below-in n bound some_time = grind (arith, nat_tests)

pub once_below-le : (n bound : ℕ) → once_below n bound ≤ 1
once_below-le n bound = grind (arith, nat_tests)

times-cons : (n m : ℕ) (ms : List ℕ) → times n (m ∷ ms) ≡ cond (eqb m n) 1 0 + times n ms
times-cons n m ms = sum_by-cons (λ k. cond (eqb k n) 1 0) m ms

times-at : (ms : List ℕ) (k d : ℕ) → k < length ms → 0 < times (get_or ms k d) ms
times-at ms k d inside =
    let n : ℕ = get_or ms k d in
    let here = get_or-le-sum_by (λ (m : ℕ). cond (eqb m n) 1 0) ms k d inside in
    let one : cond {A = ℕ} (eqb n n) 1 0 ≡ 1 = cond-true (eqb n n) 1 0 (eq-eqb n n refl) in
    let here' : cond {A = ℕ} (eqb n n) 1 0 ≤ times n ms = here in
    omega arith

-- what stands there only below a bound is below it
pub all-below : (ms : List ℕ) (bound : ℕ) → ((n : ℕ) → times n ms ≤ once_below n bound) → All (λ m. m < bound) ms
all-below ms bound few k d inside =
    let n : ℕ = get_or ms k d in
    let there = times-at ms k d inside in
    let most = few n in
    let in_range : n < bound = once_below-in n bound (omega arith) in
    in_range

-- a number that passes the test and stands in the list stands among those that pass
pub contains-filter : (p : ℕ → Bool) (n : ℕ) (ms : List ℕ) → p n ≡ true → 0 < times n ms → Contains (filter p ms) n
contains-filter p n [] passes there = absurd (omega arith)
contains-filter p n (m ∷ ms) passes there =
    ⊎_elim
    (λ (same : eqb m n ≡ true).
    let is : m ≡ n = eqb-true m n same in
    let here : p m ≡ true = ap p is ∙ passes in
    subst (λ (l : List ℕ). Contains l n) (sym (cond-true (p m) (m ∷ filter p ms) (filter p ms) here)) (0, omega arith, is))
    (λ (other : eqb m n ≡ false).
    let split = times-cons n m ms in
    let none : cond {A = ℕ} (eqb m n) 1 0 ≡ 0 = cond-false (eqb m n) 1 0 other in
    let rest = contains-filter p n ms passes (omega arith) in
    ⊎_elim
    (λ (kept : p m ≡ true). subst (λ (l : List ℕ). Contains l n) (sym (cond-true (p m) (m ∷ filter p ms) (filter p ms) kept)) (Contains-tail m (filter p ms) n rest))
    (λ (left : p m ≡ false). subst (λ (l : List ℕ). Contains l n) (sym (cond-false (p m) (m ∷ filter p ms) (filter p ms) left)) rest)
    (cases_Bool (p m)))
    (cases_Bool (eqb m n))

-- what stands there once at most stands at one place
pub apart : (ms : List ℕ) → ((n : ℕ) → times n ms ≤ 1) → AllPairs (λ m n. m ≢ n) ms
apart [] once i j d before inside same = absurd (omega arith)
apart (m ∷ ms) once zero zero d before inside same = absurd (omega arith)
apart (m ∷ ms) once (suc i) zero d before inside same = absurd (omega arith)
apart (m ∷ ms) once zero (suc j) d before inside same =
    let again = times-at ms j d (omega arith) in
    let again' : 0 < times m ms = subst (λ n. 0 < times n ms) (sym same) again in
    let twice = times-cons m m ms in
    let first : cond {A = ℕ} (eqb m m) 1 0 ≡ 1 = cond-true (eqb m m) 1 0 (eq-eqb m m refl) in
    absurd (omega (arith, once m))
apart (m ∷ ms) once (suc i) (suc j) d before inside same =
    apart ms (λ n. omega (arith, times-cons n m ms, once n)) i j d (omega arith) (omega arith) same
