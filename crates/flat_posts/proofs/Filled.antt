-- Buffers that are filled item by item: what one item more does, and what is passed over.
use Rattle.std.proofs.Common.{◌≡◌, ℕ, zero, suc, ◌+◌, ◌-◌, ◌<◌, ◌≤◌, List, [], ◌∷◌, ◌++◌, length, take, drop, get_or, refl, ap, sym, ◌∙◌, subst, append_assoc, arith, length-append, length-drop, slice_set}
use Rattle.std.proofs.lemmas.List.{append-nil, length-take, take_all, drop-append-le, drop_more, set_at}
use Rattle.flat_posts.specs.Pages.{IsPage}
use Rattle.flat_posts.specs.inner.Filling.{IsFilling}

-- nothing has come
pub filling-none : {A : Type 0} (first : ℕ) (old : List A) → IsFilling first [] old first 0 old
filling-none first old = record { passed = omega arith; page = record { many = omega arith; items = refl } }

-- the buffer keeps its length
filled_length : {A : Type 0} (first : ℕ) (all old new : List A) (count : ℕ) → IsPage first all old new count → length new ≡ length old
filled_length first all old new count page =
    let many = page.many in
    let taken = length-take count (drop first all) in
    let left = length-drop first all in
    let kept = length-drop count old in
    let both = length-append (take count (drop first all)) (drop count old) in
    let is = ap length page.items in
    omega (arith, many, taken, left, kept, both, is)

-- an item that is written
pub filling-written : {A : Type 0} (first : ℕ) (all old new : List A) (ahead count : ℕ) (x : A) → ahead ≤ 0 → count < length new
    → IsFilling first all old ahead count new → IsFilling first (all ++ x ∷ []) old ahead (count + 1) (slice_set new count x)
filling-written {A} first all old new ahead count x none room filling =
    let passed = filling.passed in
    let many = filling.page.many in
    let same = filled_length first all old new count filling.page in
    let left = length-drop first all in
    let grown = length-append all (x ∷ []) in
    let here : first ≤ length all = omega (arith, passed, none) in
    let lt : count < length old = omega (arith, same, room) in
    let front : length (drop first all) ≡ count = omega (arith, left, many, lt) in
    let items : new ≡ drop first all ++ get_or old count x ∷ drop (count + 1) old =
    filling.page.items ∙ ap (λ (l : List A). l ++ drop count old) (take_all count (drop first all) (omega (arith, front)))
    ∙ ap (λ (l : List A). drop first all ++ l) (drop_more old count x lt) in
    let after : drop first (all ++ x ∷ []) ≡ drop first all ++ x ∷ [] = drop-append-le first all (x ∷ []) here in
    let longer : length (drop first all ++ x ∷ []) ≤ count + 1 = let e = length-append (drop first all) (x ∷ []) in omega (arith, e, front) in
    record {
      passed = omega (arith, passed, none, grown);
      page = record {
        many = omega (arith, grown, many, lt, here, left, front);
        items = ap (λ (l : List A). slice_set l count x) items
            ∙ set_at (drop first all) (get_or old count x) (drop (count + 1) old) x count front
            ∙ sym (append_assoc (drop first all) (x ∷ []) (drop (count + 1) old))
            ∙ ap (λ (l : List A). l ++ drop (count + 1) old) (sym (take_all (count + 1) (drop first all ++ x ∷ []) longer) ∙ ap (λ (l : List A). take (count + 1) l) (sym after));
      };
    }

-- items that are passed over
passed_some : {A : Type 0} (first : ℕ) (all xs old new : List A) (ahead count : ℕ) → 0 < ahead → length xs ≤ ahead → IsFilling first all old ahead count new
    → IsFilling first (all ++ xs) old (ahead - length xs) count new
passed_some {A} first all xs old new ahead count some few filling =
    let passed = filling.passed in
    let many = filling.page.many in
    let grown = length-append all xs in
    let none : count ≡ 0 = omega (arith, many, passed, some) in
    let items : (list : List A) → old ≡ take count list ++ drop count old = λ list. subst (λ n. old ≡ take n list ++ drop n old) (sym none) refl in
    record {
      passed = omega (arith, passed, grown);
      page = record {
        many = omega (arith, none, passed, grown, few);
        items = filling.page.items ∙ sym (items (drop first all)) ∙ items (drop first (all ++ xs));
      };
    }

passed_none : {A : Type 0} (first : ℕ) (all xs old new : List A) (ahead count : ℕ) → length xs ≤ 0 → IsFilling first all old ahead count new
    → IsFilling first (all ++ xs) old ahead count new
passed_none {A} first all [] old new ahead count few filling = subst (λ (l : List A). IsFilling first l old ahead count new) (sym (append-nil all)) filling
passed_none first all (x ∷ xs) old new ahead count few filling = absurd (let e : suc (length xs) ≤ 0 = few in omega (arith, e))

pub filling-passed : {A : Type 0} (first : ℕ) (all xs old new : List A) (ahead count : ℕ) → length xs ≤ ahead → IsFilling first all old ahead count new
    → IsFilling first (all ++ xs) old (ahead - length xs) count new
filling-passed first all xs old new zero count few filling =
    let same : 0 ≡ 0 - length xs = omega arith in
    subst (λ n. IsFilling first (all ++ xs) old n count new) same (passed_none first all xs old new 0 count few filling)
filling-passed first all xs old new (suc ahead) count few filling = passed_some first all xs old new (suc ahead) count (omega arith) few filling
