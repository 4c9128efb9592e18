-- What is added up over all views, as one of them changes.
use Rattle.std.proofs.Common.{◌≡◌, ◌≢◌, ℕ, zero, suc, ◌+◌, ◌≤◌, List, [], ◌∷◌, ◌++◌, set, refl, sym, ap, subst, ⊎_elim, arith}
use Rattle.std.proofs.lemmas.List.Sums.{sum_by-cons, sum_by_push}
use mathlib.Core.Option.{some, some-injective, some-ne-none}
use lib.ListN.{get_elem?}
use Rattle.atomic_table.proofs.Lists.{at_set, at_snoc}
use Rattle.claim_board.specs.declared.rule.SeatView.{SeatView}
use Rattle.claim_board.specs.inner.ClaimWord.{total}

-- a view at a place is replaced
pub total-set : (f : SeatView → ℕ) (views : List SeatView) (place : ℕ) (v w : SeatView) → get_elem? views place ≡ some v → total f (set views place w) + f v ≡ total f views + f w
total-set f [] place v w at = absurd (some-ne-none v (sym at))
total-set f (x ∷ xs) zero v w at =
    let same : f x ≡ f v = ap f (some-injective x v at) in
    omega (arith, sum_by-cons f x xs, sum_by-cons f w xs)
total-set f (x ∷ xs) (suc place) v w at =
    omega (arith, total-set f xs place v w at, sum_by-cons f x xs, sum_by-cons f x (set xs place w))

pub part-le-total : (f : SeatView → ℕ) (views : List SeatView) (place : ℕ) (v : SeatView) → get_elem? views place ≡ some v → f v ≤ total f views
part-le-total f [] place v at = absurd (some-ne-none v (sym at))
part-le-total f (x ∷ xs) zero v at =
    let same : f x ≡ f v = ap f (some-injective x v at) in
    omega (arith, sum_by-cons f x xs)
part-le-total f (x ∷ xs) (suc place) v at = omega (arith, part-le-total f xs place v at, sum_by-cons f x xs)

-- a view is cut in two, and nothing is gained or lost
pub total-cut : (f : SeatView → ℕ) (views : List SeatView) (place : ℕ) (v left right : SeatView) → get_elem? views place ≡ some v → f left + f right ≡ f v → total f (set views place left ++ right ∷ []) ≡ total f views
total-cut f views place v left right at whole =
    omega (arith, total-set f views place v left at, sum_by_push f (set views place left) right)

-- one view takes in another, which is left with nothing
pub total-merge : (f : SeatView → ℕ) (views : List SeatView) (place other : ℕ) (v w both spent : SeatView) → get_elem? views place ≡ some v → get_elem? (set views place both) other ≡ some w → f spent ≡ 0 → total f (set (set views place both) other spent) + f v + f w ≡ total f views + f both
total-merge f views place other v w both spent at there none =
    omega (arith, total-set f views place v both at, total-set f (set views place both) other w spent there)

-- where no view but those without share are left, one view has it all
none_left : (f : SeatView → ℕ) (views : List SeatView) → ((place : ℕ) (v : SeatView) → get_elem? views place ≡ some v → v.share ≡ 0 → f v ≡ 0) → total (λ v. v.share) views ≡ 0 → total f views ≡ 0
none_left f [] idle none = refl
none_left f (x ∷ xs) idle none =
    let parts = sum_by-cons (λ (v : SeatView). v.share) x xs in
    let here : f x ≡ 0 = idle 0 x refl (omega arith) in
    omega (arith, none_left f xs (λ place v. idle (suc place) v) (omega arith), sum_by-cons f x xs)

pub total-alone : (f : SeatView → ℕ) (views : List SeatView) (place : ℕ) (v : SeatView) → ((at : ℕ) (u : SeatView) → get_elem? views at ≡ some u → u.share ≡ 0 → f u ≡ 0) → get_elem? views place ≡ some v → total (λ u. u.share) views ≡ v.share → total f views ≡ f v
total-alone f [] place v idle at all = absurd (some-ne-none v (sym at))
total-alone f (x ∷ xs) zero v idle at all =
    let parts = sum_by-cons (λ (u : SeatView). u.share) x xs in
    let same : x.share ≡ v.share = ap (λ (u : SeatView). u.share) (some-injective x v at) in
    let same' : f x ≡ f v = ap f (some-injective x v at) in
    omega (arith, none_left f xs (λ at' u. idle (suc at') u) (omega arith), sum_by-cons f x xs)
total-alone f (x ∷ xs) (suc place) v idle at all =
    let parts = sum_by-cons (λ (u : SeatView). u.share) x xs in
    let part = part-le-total (λ (u : SeatView). u.share) xs place v at in
    let here : f x ≡ 0 = idle 0 x refl (omega arith) in
    omega (arith, total-alone f xs place v (λ at' u. idle (suc at') u) at (omega arith), sum_by-cons f x xs)

-- what holds of each view, after one is replaced or a new one comes
pub each-set : (P : SeatView → Type 0) (views : List SeatView) (place : ℕ) (w : SeatView) → ((at : ℕ) (u : SeatView) → get_elem? views at ≡ some u → P u) → P w → (at : ℕ) (u : SeatView) → get_elem? (set views place w) at ≡ some u → P u
each-set P views place w each new at u found =
    ⊎_elim
    (λ (t : (at ≡ place) × (w ≡ u)). subst P t.1 new)
    (λ (t : (at ≢ place) × (get_elem? views at ≡ some u)). each at u t.1)
    (at_set views place at w u found)

pub each-push : (P : SeatView → Type 0) (views : List SeatView) (w : SeatView) → ((at : ℕ) (u : SeatView) → get_elem? views at ≡ some u → P u) → P w → (at : ℕ) (u : SeatView) → get_elem? (views ++ w ∷ []) at ≡ some u → P u
each-push P views w each new at u found =
    ⊎_elim
    (λ (t : get_elem? views at ≡ some u). each at u t)
    (λ (t : w ≡ u). subst P t new)
    (at_snoc views w u at found)
