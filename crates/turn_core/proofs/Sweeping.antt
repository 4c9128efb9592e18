-- Sweeps over a list, item by item.
use Rattle.std.proofs.Common.{◌≡◌, ℕ, zero, suc, ◌+◌, ◌-◌, ◌<◌, List, [], ◌∷◌, ◌++◌, length, take, drop, set, get_or, refl, sym, ap, ◌∙◌, subst, arith, append_assoc, length-append}
use Rattle.std.proofs.lemmas.List.{take-append-drop, take_more, drop_more, length-take-le, get_or-append_right, set-append_right, get_or-drop}
use Rattle.turn_core.specs.inner.Sweeps.{swept, left, EachHas}

-- one item more
pub swept_end : {A B S : Type 0} (give : A → S → B) (next : A → S → S) (xs : List A) (x : A) (s : S) → swept give next (xs ++ x ∷ []) s ≡ swept give next xs s ++ give x (left next xs s) ∷ []
swept_end give next [] x s = refl
swept_end give next (y ∷ xs) x s = ap (λ (l : List _). give y s ∷ l) (swept_end give next xs x (next y s))

pub left_end : {A S : Type 0} (next : A → S → S) (xs : List A) (x : A) (s : S) → left next (xs ++ x ∷ []) s ≡ next x (left next xs s)
left_end next [] x s = refl
left_end next (y ∷ xs) x s = left_end next xs x (next y s)

-- the same for the first items
pub swept_more : {A B S : Type 0} (give : A → S → B) (next : A → S → S) (xs : List A) (i : ℕ) (x : A) (s : S) → i < length xs → x ≡ get_or xs i x
    → swept give next (take (i + 1) xs) s ≡ swept give next (take i xs) s ++ give x (left next (take i xs) s) ∷ []
swept_more give next xs i x s lt is =
    ap (λ (l : List _). swept give next l s) (take_more xs i x lt ∙ ap (λ (y : _). take i xs ++ y ∷ []) (sym is))
    ∙ swept_end give next (take i xs) x s

pub left_more : {A S : Type 0} (next : A → S → S) (xs : List A) (i : ℕ) (x : A) (s : S) → i < length xs → x ≡ get_or xs i x
    → left next (take (i + 1) xs) s ≡ next x (left next (take i xs) s)
left_more next xs i x s lt is =
    ap (λ (l : List _). left next l s) (take_more xs i x lt ∙ ap (λ (y : _). take i xs ++ y ∷ []) (sym is))
    ∙ left_end next (take i xs) x s

-- an item has what it needs once those before it took theirs
pub has_at : {A S : Type 0} (Has : A → S → Type 0) (next : A → S → S) (xs : List A) (i : ℕ) (x : A) (s : S) → EachHas Has next xs s → i < length xs → x ≡ get_or xs i x → Has x (left next (take i xs) s)
has_at Has next [] i x s each lt is = absurd (omega (arith, lt))
has_at Has next (y ∷ xs) zero x s each lt is = subst (λ (z : _). Has z s) (sym is) each.0
has_at Has next (y ∷ xs) (suc i) x s each lt is = has_at Has next xs i x (next y s) each.1 (omega (arith, lt)) is

pub length_swept : {A B S : Type 0} (give : A → S → B) (next : A → S → S) (xs : List A) (s : S) → length (swept give next xs s) ≡ length xs
length_swept give next [] s = refl
length_swept give next (x ∷ xs) s = ap suc (length_swept give next xs (next x s))

length_front : {A B S : Type 0} (give : A → S → B) (next : A → S → S) (xs : List A) (i : ℕ) (s : S) → i < length xs → length (swept give next (take i xs) s) ≡ i
length_front give next xs i s lt = length_swept give next (take i xs) s ∙ length-take-le i xs (omega (arith, lt))

-- the item at the place of a loop that writes over a list is the list's own
pub item_over : {A S : Type 0} (give : A → S → A) (next : A → S → S) (xs ys : List A) (i : ℕ) (x : A) (s : S) → i < length xs
    → ys ≡ swept give next (take i xs) s ++ drop i xs → x ≡ get_or ys i x → x ≡ get_or xs i x
item_over give next xs ys i x s lt whole is =
    is ∙ ap (λ (l : List _). get_or l i x) whole
    ∙ get_or-append_right (swept give next (take i xs) s) (drop i xs) i i x (length_front give next xs i s lt) (omega arith)
    ∙ ap (λ (k : ℕ). get_or (drop i xs) k x) (let e : i - i ≡ 0 = omega arith in e)
    ∙ get_or-drop i xs 0 x
    ∙ ap (λ (k : ℕ). get_or xs k x) (let e : i + 0 ≡ i = omega arith in e)

-- a loop that writes over a list what each item gives
pub swept_over : {A S : Type 0} (give : A → S → A) (next : A → S → S) (xs ys : List A) (i : ℕ) (x : A) (s : S) → i < length xs
    → ys ≡ swept give next (take i xs) s ++ drop i xs → x ≡ get_or ys i x
    → set ys i (give x (left next (take i xs) s)) ≡ swept give next (take (i + 1) xs) s ++ drop (i + 1) xs
swept_over give next xs ys i x s lt whole is =
    let own = item_over give next xs ys i x s lt whole is in
    let new = give x (left next (take i xs) s) in
    ap (λ (l : List _). set l i new) whole
    ∙ set-append_right (swept give next (take i xs) s) (drop i xs) i i new (length_front give next xs i s lt) (omega arith)
    ∙ ap (λ (k : ℕ). swept give next (take i xs) s ++ set (drop i xs) k new) (let e : i - i ≡ 0 = omega arith in e)
    ∙ ap (λ (l : List _). swept give next (take i xs) s ++ set l 0 new) (drop_more xs i x lt)
    ∙ sym (append_assoc (swept give next (take i xs) s) (new ∷ []) (drop (i + 1) xs))
    ∙ ap (λ (l : List _). l ++ drop (i + 1) xs) (sym (swept_more give next xs i x s lt own))

-- such a list stays as long as it was
pub length_over : {A S : Type 0} (give : A → S → A) (next : A → S → S) (xs ys : List A) (i : ℕ) (s : S) → ys ≡ swept give next (take i xs) s ++ drop i xs → length ys ≡ length xs
length_over give next xs ys i s whole =
    ap length whole
    ∙ length-append (swept give next (take i xs) s) (drop i xs)
    ∙ ap (λ (n : ℕ). n + length (drop i xs)) (length_swept give next (take i xs) s)
    ∙ sym (length-append (take i xs) (drop i xs))
    ∙ ap length (take-append-drop i xs)
