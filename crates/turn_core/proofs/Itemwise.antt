-- Lists that are related item by item.
use Rattle.std.proofs.Common.{◌≡◌, ℕ, zero, suc, List, [], ◌∷◌, Some, length, refl, ap, subst, arith}
use Rattle.std.specs.Prelude.{◌↔◌, slice_get}
use Rattle.std.proofs.lemmas.Option.{slice_get_within}

-- the lists are related exactly where they are as long as each other, and each item is related to the one in its place
pub record IsItemwise {A B : Type 0} (Is : A → B → Type 0) (Are : List A → List B → Type 0) : Type 0 where
  pub none : Are [] []
  pub fewer : (x : A) (xs : List A) → Are (x ∷ xs) [] → ⊥
  pub further : (y : B) (ys : List B) → Are [] (y ∷ ys) → ⊥
  pub both : (x : A) (xs : List A) (y : B) (ys : List B) → Are (x ∷ xs) (y ∷ ys) ↔ (Is x y × Are xs ys)

-- each item is related to the one in its place
abbrev IsEach : {A B : Type 0} → (A → B → Type 0) → List A → List B → Type 0
IsEach {A} {B} Is xs ys = (place : ℕ) (x : A) (y : B) → slice_get xs place ≡ Some x → slice_get ys place ≡ Some y → Is x y

each_more : {A B : Type 0} (Is : A → B → Type 0) (x : A) (y : B) (xs : List A) (ys : List B) → Is x y → IsEach Is xs ys → IsEach Is (x ∷ xs) (y ∷ ys)
each_more {A} {B} Is x y xs ys first rest zero p q at found =
    let one : x ≡ p = cc in
    let other : y ≡ q = cc in
    subst (λ (a : A). Is a q) one (subst (λ (b : B). Is x b) other first)
each_more Is x y xs ys first rest (suc place) p q at found = rest place p q at found

to_places : {A B : Type 0} (Is : A → B → Type 0) (Are : List A → List B → Type 0) → IsItemwise Is Are → (xs : List A) (ys : List B)
    → Are xs ys → (length ys ≡ length xs) × IsEach Is xs ys
to_places Is Are wise [] [] are = (refl, λ place x y at found. let inside = slice_get_within [] place x at in absurd (omega (arith, inside)))
to_places Is Are wise [] (y ∷ ys) are = absurd (wise.further y ys are)
to_places Is Are wise (x ∷ xs) [] are = absurd (wise.fewer x xs are)
to_places Is Are wise (x ∷ xs) (y ∷ ys) are =
    let first = (wise.both x xs y ys).0 are in
    let rest = to_places Is Are wise xs ys first.1 in
    (ap suc rest.0, each_more Is x y xs ys first.0 rest.1)

from_places : {A B : Type 0} (Is : A → B → Type 0) (Are : List A → List B → Type 0) → IsItemwise Is Are → (xs : List A) (ys : List B)
    → length ys ≡ length xs → IsEach Is xs ys → Are xs ys
from_places Is Are wise [] [] long each = wise.none
from_places Is Are wise [] (y ∷ ys) long each = absurd (omega (arith, long))
from_places Is Are wise (x ∷ xs) [] long each = absurd (omega (arith, long))
from_places Is Are wise (x ∷ xs) (y ∷ ys) long each =
    (wise.both x xs y ys).1 (each 0 x y refl refl, from_places Is Are wise xs ys (omega (arith, long)) (λ place. each (suc place)))

-- such lists by the places of their items
pub itemwise_by_place : {A B : Type 0} (Is : A → B → Type 0) (Are : List A → List B → Type 0) → IsItemwise Is Are → (xs : List A) (ys : List B)
    → Are xs ys ↔ ((length ys ≡ length xs) × ((place : ℕ) (x : A) (y : B) → slice_get xs place ≡ Some x → slice_get ys place ≡ Some y → Is x y))
itemwise_by_place Is Are wise xs ys = (to_places Is Are wise xs ys, λ both. from_places Is Are wise xs ys both.0 both.1)

-- where an item is related to one other alone, so is a list
pub itemwise_unique : {A B : Type 0} (Is : A → B → Type 0) (Are : List A → List B → Type 0) → IsItemwise Is Are
    → ((x : A) (a b : B) → Is x a → Is x b → a ≡ b) → (xs : List A) (ys zs : List B) → Are xs ys → Are xs zs → ys ≡ zs
itemwise_unique Is Are wise one [] [] [] p q = refl
itemwise_unique Is Are wise one [] [] (y ∷ ys) p q = absurd (wise.further y ys q)
itemwise_unique Is Are wise one [] (y ∷ ys) zs p q = absurd (wise.further y ys p)
itemwise_unique Is Are wise one (x ∷ xs) [] zs p q = absurd (wise.fewer x xs p)
itemwise_unique Is Are wise one (x ∷ xs) (y ∷ ys) [] p q = absurd (wise.fewer x xs q)
itemwise_unique Is Are wise one (x ∷ xs) (y ∷ ys) (z ∷ zs) p q =
    let front = (wise.both x xs y ys).0 p in
    let back = (wise.both x xs z zs).0 q in
    let first : y ≡ z = one x y z front.0 back.0 in
    let rest : ys ≡ zs = itemwise_unique Is Are wise one xs ys zs front.1 back.1 in
    cc
