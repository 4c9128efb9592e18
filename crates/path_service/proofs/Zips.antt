-- Two lists, item by item.
use Rattle.std.proofs.Common.{◌≡◌, ℕ, zero, suc, List, [], ◌∷◌, ◌++◌, Some, length, set, refl, sym, ap, ◌∙◌, subst, arith}
use Rattle.std.specs.Prelude.{slice_get}
use Rattle.posts.specs.Callers.{list_of}
use Rattle.path_service.specs.inner.Zips.{zipped, AllPaired}

pub zipped_none : {A B : Type 0} (give : A → B → A) (xs : List A) → zipped give xs [] ≡ xs
zipped_none give [] = refl
zipped_none give (x ∷ xs) = refl

pub length-zipped : {A B : Type 0} (give : A → B → A) (xs : List A) (bs : List B) → length (zipped give xs bs) ≡ length xs
length-zipped give [] bs = refl
length-zipped give (x ∷ xs) [] = refl
length-zipped give (x ∷ xs) (b ∷ bs) = ap suc (length-zipped give xs bs)

-- the first item that has nothing in its place is the list's own
pub zipped_at : {A B : Type 0} (give : A → B → A) (xs : List A) (bs : List B) → slice_get (zipped give xs bs) (length bs) ≡ slice_get xs (length bs)
zipped_at give [] bs = refl
zipped_at give (x ∷ xs) [] = refl
zipped_at give (x ∷ xs) (b ∷ bs) = zipped_at give xs bs

-- one item more
pub zipped_more : {A B : Type 0} (give : A → B → A) (xs : List A) (bs : List B) (x : A) (b : B) → slice_get xs (length bs) ≡ Some x
    → set (zipped give xs bs) (length bs) (give x b) ≡ zipped give xs (bs ++ b ∷ [])
zipped_more give [] [] x b e = refl
zipped_more give [] (c ∷ bs) x b e = refl
zipped_more give (y ∷ xs) [] x b e =
    let same : y ≡ x = cc in
    ap (λ (z : _). give z b ∷ xs) (sym same) ∙ ap (λ (l : List _). give y b ∷ l) (sym (zipped_none give xs))
zipped_more give (y ∷ xs) (c ∷ bs) x b e = ap (λ (l : List _). give y c ∷ l) (zipped_more give xs bs x b e)

pub paired_none : {A B : Type 0} (P : A → B → Type 0) (xs : List A) → AllPaired P xs []
paired_none P [] = tt
paired_none P (x ∷ xs) = tt

pub paired_more : {A B : Type 0} (P : A → B → Type 0) (xs : List A) (bs : List B) (x : A) (b : B) → slice_get xs (length bs) ≡ Some x → AllPaired P xs bs → P x b
    → AllPaired P xs (bs ++ b ∷ [])
paired_more P [] [] x b e all one = tt
paired_more P [] (c ∷ bs) x b e all one = tt
paired_more P (y ∷ xs) [] x b e all one =
    let same : y ≡ x = cc in
    (subst (λ (z : _). P z b) (sym same) one, paired_none P xs)
paired_more P (y ∷ xs) (c ∷ bs) x b e all one = (all.0, paired_more P xs bs x b e all.1 one)

-- what holds place by place holds of all
pub paired_from : {A B : Type 0} (P : A → List B → Type 0) (xs : List A) (bs : List (List B)) → ((k : ℕ) (x : A) → slice_get xs k ≡ Some x → P x (list_of bs k)) → AllPaired P xs bs
paired_from P [] bs each = tt
paired_from P (x ∷ xs) [] each = tt
paired_from P (x ∷ xs) (b ∷ bs) each = (each 0 x refl, paired_from P xs bs (λ k. each (suc k)))

-- and the other way round
pub paired_at : {A B : Type 0} (P : A → List B → Type 0) (xs : List A) (bs : List (List B)) (k : ℕ) (x : A) → length bs ≡ length xs → AllPaired P xs bs → slice_get xs k ≡ Some x
    → P x (list_of bs k)
paired_at P [] bs zero x e all is = cc
paired_at P [] bs (suc k) x e all is = cc
paired_at P (y ∷ xs) [] k x e all is = absurd (omega (arith, e))
paired_at P (y ∷ xs) (b ∷ bs) zero x e all is =
    let same : y ≡ x = cc in
    subst (λ (z : _). P z b) same all.0
paired_at P (y ∷ xs) (b ∷ bs) (suc k) x e all is = paired_at P xs bs k x (omega (arith, e)) all.1 is
