-- Lists that are read item by item.
use Rattle.std.proofs.Common.{◌≡◌, ℕ, zero, suc, ◌+◌, ◌<◌, List, [], ◌∷◌, ◌++◌, length, take, get_or, refl, sym, ap, subst, ◌∙◌, arith}
use Rattle.std.specs.Prelude.{All}
use Rattle.std.specs.List.{AllZip}
use Rattle.std.proofs.lemmas.List.{take_more}
use Rattle.std.proofs.lemmas.List.Elements.{All-head, All-tail}

zip_push : {A B : Type 0} (R : A → B → Type 0) (xs : List A) (ys : List B) (x : A) (y : B) → AllZip R xs ys → R x y → AllZip R (xs ++ x ∷ []) (ys ++ y ∷ [])
zip_push R [] [] x y h r = (r, tt)
zip_push R [] (b ∷ ys) x y h r = absurd h
zip_push R (a ∷ xs) [] x y h r = absurd h
zip_push R (a ∷ xs) (b ∷ ys) x y h r = (h.0, zip_push R xs ys x y h.1 r)

-- one item more was read
pub zip_more : {A B : Type 0} (R : A → B → Type 0) (xs : List A) (ys : List B) (i : ℕ) (x : A) (y : B) → i < length xs
    → AllZip R (take i xs) ys → R (get_or xs i x) y → AllZip R (take (i + 1) xs) (ys ++ y ∷ [])
zip_more {A} {B} R xs ys i x y lt h r =
    subst (λ (l : List A). AllZip R l (ys ++ y ∷ [])) (sym (take_more xs i x lt)) (zip_push R (take i xs) ys (get_or xs i x) y h r)

-- an item that nothing stands for, so that no list does
pub zip_none : {A B : Type 0} (R : A → B → Type 0) (P : B → Type 0) (xs : List A) (i : ℕ) (x : A) → i < length xs
    → ((y : B) → P y → ¬ R (get_or xs i x) y) → (ys : List B) → AllZip R xs ys → ¬ All P ys
zip_none R P [] i x lt none ys h each = let empty : ⊥ = omega arith in empty
zip_none R P (a ∷ xs) i x lt none [] h each = absurd h
zip_none R P (a ∷ xs) zero x lt none (y ∷ ys) h each = none y (All-head P y ys each) h.0
zip_none R P (a ∷ xs) (suc i) x lt none (y ∷ ys) h each = zip_none R P xs i x (omega arith) none ys h.1 (All-tail P y ys each)

-- lists that stand for one list are one, where the items are
pub zip_one : {A B : Type 0} (R : A → B → Type 0) → ((x : A) (y z : B) → R x y → R x z → y ≡ z) → (xs : List A) (ys zs : List B)
    → AllZip R xs ys → AllZip R xs zs → ys ≡ zs
zip_one R one [] [] [] h k = refl
zip_one R one [] [] (z ∷ zs) h k = absurd k
zip_one R one [] (y ∷ ys) zs h k = absurd h
zip_one R one (x ∷ xs) [] zs h k = absurd h
zip_one R one (x ∷ xs) (y ∷ ys) [] h k = absurd k
zip_one {A} {B} R one (x ∷ xs) (y ∷ ys) (z ∷ zs) h k =
    ap (λ (a : B). a ∷ ys) (one x y z h.0 k.0) ∙ ap (λ (l : List B). z ∷ l) (zip_one R one xs ys zs h.1 k.1)
