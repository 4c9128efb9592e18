-- Lists with one item for each caller, place by place.
use Rattle.std.proofs.Common.{◌≡◌, ◌⊎◌, ℕ, zero, suc, ◌+◌, ◌≤◌, List, [], ◌∷◌, ◌++◌, length, map, take, drop, get_or, set, replicate, slice_index, slice_index_or, refl, sym, ap, ◌∙◌, inl, inr, arith, append-nil, length-take}
use Rattle.std.proofs.lemmas.Grind.{flat_map-append}
use Rattle.posts.specs.declared.posts.Post.{Post}
use Rattle.posts.specs.Callers.{of_caller, list_of}
use Rattle.path_service.specs.machine.Table.{first}
use Rattle.path_service.specs.machine.Effects.{first_list, next_posts, added_up, joined_up}

pub first_at : (ns : List ℕ) → first ns ≡ slice_index ns 0
first_at [] = refl
first_at (n ∷ ns) = refl

first_list_at : {A : Type 0} (xs : List (List A)) → first_list xs ≡ list_of xs 0
first_list_at [] = refl
first_list_at (x ∷ xs) = refl

pub rest_at : {A : Type 0} (xs : List A) (c : ℕ) (d : A) → get_or (drop 1 xs) c d ≡ get_or xs (suc c) d
rest_at [] c d = refl
rest_at (x ∷ xs) c d = refl

abbrev nothing : (A : Type 0) → List A
nothing A = []

take_none : (A : Type 0) (k : ℕ) → take k (nothing A) ≡ []
take_none A zero = refl
take_none A (suc k) = refl

drop_none : (A : Type 0) (k : ℕ) → drop k (nothing A) ≡ []
drop_none A zero = refl
drop_none A (suc k) = refl

-- lists to which nothing is joined
pub joined_nothing : {A : Type 0} (xs : List (List A)) → joined_up xs [] ≡ xs
joined_nothing [] = refl
joined_nothing (x ∷ xs) = ap (λ (l : List _). l ∷ joined_up xs []) (append-nil x) ∙ ap (λ (l : List (List _)). x ∷ l) (joined_nothing xs)

pub next_posts_at : (pss : List (List Post)) (ts ks : List ℕ) (c : ℕ) → list_of (next_posts pss ts ks) c ≡ take (slice_index ks c) (drop (slice_index ts c) (list_of pss c))
next_posts_at [] ts ks c = sym (ap (take (slice_index ks c)) (drop_none Post (slice_index ts c)) ∙ take_none Post (slice_index ks c))
next_posts_at (ps ∷ pss) ts ks zero = ap (λ (k : ℕ). take k (drop (first ts) ps)) (first_at ks) ∙ ap (λ (t : ℕ). take (slice_index ks 0) (drop t ps)) (first_at ts)
next_posts_at (ps ∷ pss) ts ks (suc c) =
    next_posts_at pss (drop 1 ts) (drop 1 ks) c
    ∙ ap (λ (k : ℕ). take k (drop (slice_index (drop 1 ts) c) (list_of pss c))) (rest_at ks c 0)
    ∙ ap (λ (t : ℕ). take (slice_index ks (suc c)) (drop t (list_of pss c))) (rest_at ts c 0)

pub length-next_posts : (pss : List (List Post)) (ts ks : List ℕ) → length (next_posts pss ts ks) ≡ length pss
length-next_posts [] ts ks = refl
length-next_posts (ps ∷ pss) ts ks = ap suc (length-next_posts pss (drop 1 ts) (drop 1 ks))

pub added_up_at : (ts ks : List ℕ) (c : ℕ) → slice_index (added_up ts ks) c ≡ slice_index ts c + slice_index ks c
added_up_at [] ks c = omega arith
added_up_at (t ∷ ts) ks zero = ap (λ (k : ℕ). t + k) (first_at ks)
added_up_at (t ∷ ts) ks (suc c) = added_up_at ts (drop 1 ks) c ∙ ap (λ (k : ℕ). slice_index ts c + k) (rest_at ks c 0)

length_rest : {A : Type 0} (n : ℕ) (xs : List A) → length xs ≡ suc n → length (drop 1 xs) ≡ n
length_rest n [] e = absurd (omega (arith, e))
length_rest n (x ∷ xs) e = omega (arith, e)

pub length-added_up : (ts ks : List ℕ) → length ks ≡ length ts → length (added_up ts ks) ≡ length ts
length-added_up [] ks e = e
length-added_up (t ∷ ts) ks e = ap suc (length-added_up ts (drop 1 ks) (length_rest (length ts) ks e))

pub joined_up_at : {A : Type 0} (xs more : List (List A)) (c : ℕ) → list_of (joined_up xs more) c ≡ list_of xs c ++ list_of more c
joined_up_at [] more c = refl
joined_up_at (x ∷ xs) more zero = ap (λ (l : List _). x ++ l) (first_list_at more)
joined_up_at (x ∷ xs) more (suc c) = joined_up_at xs (drop 1 more) c ∙ ap (λ (l : List _). list_of xs c ++ l) (rest_at more c [])

pub length-joined_up : {A : Type 0} (xs more : List (List A)) → length more ≡ length xs → length (joined_up xs more) ≡ length xs
length-joined_up [] more e = e
length-joined_up (x ∷ xs) more e = ap suc (length-joined_up xs (drop 1 more) (length_rest (length xs) more e))

pub lengths_at : {A : Type 0} (xs : List (List A)) (c : ℕ) → slice_index (map length xs) c ≡ length (list_of xs c)
lengths_at [] c = refl
lengths_at (x ∷ xs) zero = refl
lengths_at (x ∷ xs) (suc c) = lengths_at xs c

pub none_at : (A : Type 0) (n c : ℕ) → list_of (replicate n (nothing A)) c ≡ []
none_at A zero c = refl
none_at A (suc n) zero = refl
none_at A (suc n) (suc c) = none_at A n c

pub zeros_at : (n c : ℕ) → slice_index (replicate n 0) c ≡ 0
zeros_at zero c = refl
zeros_at (suc n) zero = refl
zeros_at (suc n) (suc c) = zeros_at n c

-- one list has one item more, and each other list is as it was
pub pushed_at : {A : Type 0} (xs : List (List A)) (c : ℕ) (y : A) (d : ℕ)
    → (list_of (set xs c (list_of xs c ++ y ∷ [])) d ≡ list_of xs d) ⊎ (list_of (set xs c (list_of xs c ++ y ∷ [])) d ≡ list_of xs d ++ y ∷ [])
pushed_at [] c y d = inl refl
pushed_at (x ∷ xs) zero y zero = inr refl
pushed_at (x ∷ xs) zero y (suc d) = inl refl
pushed_at (x ∷ xs) (suc c) y zero = inl refl
pushed_at (x ∷ xs) (suc c) y (suc d) = pushed_at xs c y d

-- one number is one more, and each other number is as it was
pub raised_at : (xs : List ℕ) (c d : ℕ)
    → (slice_index (set xs c (slice_index xs c + 1)) d ≡ slice_index xs d) ⊎ ((d ≡ c) × (slice_index (set xs c (slice_index xs c + 1)) d ≡ slice_index xs c + 1))
raised_at [] c d = inl refl
raised_at (x ∷ xs) zero zero = inr (refl, refl)
raised_at (x ∷ xs) zero (suc d) = inl refl
raised_at (x ∷ xs) (suc c) zero = inl refl
raised_at (x ∷ xs) (suc c) (suc d) = elim (raised_at xs c d) [ inl e ↦ inl e | inr e ↦ inr (ap suc e.0, e.1) ]

pub of_caller-append : {A : Type 0} (c : ℕ) (xs ys : List (List (List A))) → of_caller c (xs ++ ys) ≡ of_caller c xs ++ of_caller c ys
of_caller-append {A} c xs ys = flat_map-append (λ (turn : List (List A)). slice_index_or turn c []) xs ys

pub of_caller_push : {A : Type 0} (c : ℕ) (xs : List (List (List A))) (turn : List (List A)) → of_caller c (xs ++ turn ∷ []) ≡ of_caller c xs ++ list_of turn c
of_caller_push c xs turn = of_caller-append c xs (turn ∷ []) ∙ ap (λ (l : List _). of_caller c xs ++ l) (append-nil (list_of turn c))

take_own : {A : Type 0} (k : ℕ) (xs : List A) → take (length (take k xs)) xs ≡ take k xs
take_own zero xs = refl
take_own (suc k) [] = refl
take_own (suc k) (x ∷ xs) = ap (λ (l : List _). x ∷ l) (take_own k xs)

length_take_most : {A : Type 0} (k : ℕ) (xs : List A) → length (take k xs) ≤ length xs
length_take_most k xs = omega (arith, length-take k xs)

-- the first t items, and then the next k: so many as there are
pub take_further : {A : Type 0} (t k : ℕ) (xs : List A) → take (t + length (take k (drop t xs))) xs ≡ take t xs ++ take k (drop t xs)
take_further zero k xs = ap (λ (n : ℕ). take n xs) (let e : 0 + length (take k xs) ≡ length (take k xs) = omega arith in e) ∙ take_own k xs
take_further {A} (suc t) k [] = take_none A (suc t + length (take k (nothing A))) ∙ sym (take_none A k)
take_further (suc t) k (x ∷ xs) =
    ap (λ (n : ℕ). take n (x ∷ xs)) (let e : suc t + length (take k (drop t xs)) ≡ suc (t + length (take k (drop t xs))) = omega arith in e)
    ∙ ap (λ (l : List _). x ∷ l) (take_further t k xs)

pub length_further : {A : Type 0} (t k : ℕ) (xs : List A) → t ≤ length xs → t + length (take k (drop t xs)) ≤ length xs
length_further zero k xs h = omega (arith, length_take_most k xs)
length_further (suc t) k [] h = absurd (omega (arith, h))
length_further (suc t) k (x ∷ xs) h = let i : t + length (take k (drop t xs)) ≤ length xs = length_further t k xs (omega (arith, h)) in omega arith
