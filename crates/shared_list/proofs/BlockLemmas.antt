-- Lists in blocks of 32 items: their length, their items, and an item replaced.
use Rattle.std.proofs.Common.{ℕ, zero, suc, ◌≡◌, ◌+◌, ◌*◌, ◌/◌, ◌%◌, ◌-◌, ◌^◌, ◌<◌, List, [], ◌∷◌, ◌++◌, length, map}
use Rattle.std.proofs.Common.{set, get_or, refl, ap, sym, subst, ◌∙◌, arith, Option, None, Some, option_map, length-append}
use Rattle.std.specs.Borrow.{MutBor}
use Rattle.std.specs.Fn.{Once}
use Rattle.std.specs.List.{All, AllZip, flat_map, slice_get}
use Rattle.std.specs.Prelude.{IfNone, IfSome}
use Rattle.std.proofs.lemmas.List.{set-append_left, set-append_right, append_assoc, append-nil, get_or-append-add}
use Rattle.std.proofs.lemmas.List.{get_or-map, length-set, length-map, map-set, set-get_or}
use Rattle.std.proofs.lemmas.List.Concat.{flat_map-cons}
use Rattle.std.proofs.lemmas.List.Elements.{All-set, All-push}
use Rattle.std.proofs.lemmas.Grind.{flat_map-append}
use Rattle.std.proofs.lemmas.Option.{slice_get_within, slice_get-get_or, slice_get-map, get_or_from_slice_get}
use Rattle.shared_list.specs.Changing.{IsChangedBy}
use Rattle.shared_list.specs.inner.Blocks.{AreBlocks, in_blocks}
use Rattle.nav_types.proofs.Items.{slice_get-append_left}

module _ {A : Type 0} where
  -- the item at a place of a list that stands behind another
  behind : (xs ys : List A) (k at : ℕ) (a : A) → at ≡ length xs + k → slice_get ys k ≡ Some a
      → slice_get (xs ++ ys) at ≡ Some a
  behind xs ys k at a is here =
      let low = slice_get_within ys k a here in
      let long = length-append xs ys in
      let got : get_or (xs ++ ys) at a ≡ a = ap (λ (n : ℕ). get_or (xs ++ ys) n a) is ∙ get_or-append-add xs ys k a
      ∙ get_or_from_slice_get ys k a a here in
      slice_get-get_or (xs ++ ys) at a (omega (arith, long, low, is)) ∙ ap (λ (x : A). Some x) got

  abbrev all_of : List (List A) → List A
  all_of blocks = flat_map (λ block. block) blocks

  abbrev Whole : List (List A) → Type 0
  Whole blocks = All (λ block. length block ≡ 32) blocks

  joined : (x : List A) (xs : List (List A)) → all_of (x ∷ xs) ≡ x ++ all_of xs
  joined x xs = flat_map-cons (λ (block : List A). block) x xs

  first_whole : (x : List A) (xs : List (List A)) → Whole (x ∷ xs) → length x ≡ 32
  first_whole x xs whole = whole 0 x (omega arith)

  others_whole : (x : List A) (xs : List (List A)) → Whole (x ∷ xs) → Whole xs
  others_whole x xs whole = λ k d low. whole (suc k) d (omega (arith, low))

  length_blocks : (xs : List (List A)) → Whole xs → length (all_of xs) ≡ 32 * length xs
  length_blocks [] whole = refl
  length_blocks (x ∷ xs) whole =
      let first = first_whole x xs whole in
      let rest = length_blocks xs (others_whole x xs whole) in
      let one : length (all_of (x ∷ xs)) ≡ length x + length (all_of xs) = ap length (joined x xs)
      ∙ length-append x (all_of xs) in
      omega (arith, one, first, rest)

  in_block : (xs : List (List A)) (i j at : ℕ) (x : List A) (a : A) → Whole xs → at ≡ 32 * i + j
      → slice_get xs i ≡ Some x → slice_get x j ≡ Some a
      → slice_get (all_of xs) at ≡ Some a
  in_block [] i j at x a whole is block item = absurd (let low = slice_get_within [] i x block in omega (arith, low))
  in_block (y ∷ ys) zero j at x a whole is block item =
      let same : y ≡ x = get_or_from_slice_get (y ∷ ys) 0 x x block in
      let at_is : at ≡ j = omega (arith, is) in
      ap (λ (xs : List A). slice_get xs at) (joined y ys)
      ∙ slice_get-append_left y (all_of ys) at a
      (subst (λ (n : ℕ). slice_get y n ≡ Some a) (sym at_is) (subst (λ (b : List A). slice_get b j ≡ Some a)
      (sym same) item))
  in_block (y ∷ ys) (suc i) j at x a whole is block item =
      let first = first_whole y ys whole in
      let low = slice_get_within (y ∷ ys) (suc i) x block in
      let next : slice_get ys i ≡ Some x =
      slice_get-get_or ys i x (omega (arith, low))
      ∙ ap (λ (b : List A). Some b) (get_or_from_slice_get (y ∷ ys) (suc i) x x block) in
      ap (λ (xs : List A). slice_get xs at) (joined y ys)
      ∙ behind y (all_of ys) (32 * i + j) at a (omega (arith, first, is)) (in_block ys i j (32 * i + j) x a
      (others_whole y ys whole) refl next item)

  set_block : (xs : List (List A)) (i j at : ℕ) (new : List A) (a : A) → Whole xs → i < length xs → j < 32
      → at ≡ 32 * i + j
      → ((d : List A) → new ≡ set (get_or xs i d) j a) → set (all_of xs) at a ≡ all_of (set xs i new)
  set_block [] i j at new a whole low few is made = absurd (omega (arith, low))
  set_block (y ∷ ys) zero j at new a whole low few is made =
      let first = first_whole y ys whole in
      let at_is : at ≡ j = omega (arith, is) in
      ap (λ (xs : List A). set xs at a) (joined y ys) ∙ ap (λ (n : ℕ). set (y ++ all_of ys) n a) at_is
      ∙ set-append_left y (all_of ys) j a (omega (arith, first, few))
      ∙ ap (λ (xs : List A). xs ++ all_of ys) (sym (made y))
      ∙ sym (joined new ys)
  set_block (y ∷ ys) (suc i) j at new a whole low few is made =
      let first = first_whole y ys whole in
      let down : at - 32 ≡ 32 * i + j = omega (arith, is) in
      ap (λ (xs : List A). set xs at a) (joined y ys)
      ∙ set-append_right y (all_of ys) 32 at a first (omega (arith, is))
      ∙ ap (λ (n : ℕ). y ++ set (all_of ys) n a) down
      ∙ ap (λ (xs : List A). y ++ xs) (set_block ys i j (32 * i + j) new a (others_whole y ys whole) (omega
      (arith, low)) few refl (λ d. made d))
      ∙ sym (joined y (set ys i new))

  -- the length of the whole list
  pub blocks_length : (blocks : List (List A)) (rest : List A) → AreBlocks blocks rest
      → length (in_blocks blocks rest) ≡ 32 * length blocks + length rest
  blocks_length blocks rest are =
      let whole = length_blocks blocks are.whole in
      length-append (all_of blocks) rest ∙ ap (λ (n : ℕ). n + length rest) whole

  -- an item of a block, and one behind the blocks
  pub block_item : (blocks : List (List A)) (rest : List A) (at : ℕ) (block : List A) (a : A)
      → AreBlocks blocks rest → slice_get blocks (at / 32) ≡ Some block
      → slice_get block (at % 32) ≡ Some a → slice_get (in_blocks blocks rest) at ≡ Some a
  block_item blocks rest at block a are here item =
      slice_get-append_left (all_of blocks) rest at a (in_block blocks (at / 32) (at % 32) at block a are.whole (omega arith)
      here item)

  pub rest_item : (blocks : List (List A)) (rest : List A) (at k : ℕ) (a : A) → AreBlocks blocks rest
      → at ≡ 32 * length blocks + k
      → slice_get rest k ≡ Some a → slice_get (in_blocks blocks rest) at ≡ Some a
  rest_item blocks rest at k a are is item =
      let whole = length_blocks blocks are.whole in
      behind (all_of blocks) rest k at a (omega (arith, whole, is)) item

  -- an item replaced in its block, or behind the blocks
  pub block_set : (blocks : List (List A)) (rest : List A) (at : ℕ) (new : List A) (a : A) → AreBlocks blocks rest
      → at / 32 < length blocks
      → ((d : List A) → new ≡ set (get_or blocks (at / 32) d) (at % 32) a)
      → in_blocks (set blocks (at / 32) new) rest ≡ set (in_blocks blocks rest) at a
  block_set blocks rest at new a are low made =
      let whole = length_blocks blocks are.whole in
      sym (set-append_left (all_of blocks) rest at a (omega (arith, whole, low))
      ∙ ap (λ (xs : List A). xs ++ rest) (set_block blocks (at / 32) (at % 32) at new a are.whole low (omega
      arith) (omega arith) made))

  pub rest_set : (blocks : List (List A)) (rest new : List A) (at k : ℕ) (a : A) → AreBlocks blocks rest
      → at ≡ 32 * length blocks + k
      → new ≡ set rest k a → in_blocks blocks new ≡ set (in_blocks blocks rest) at a
  rest_set blocks rest new at k a are is made =
      let down : at - 32 * length blocks ≡ k = omega (arith, is) in
      ap (λ (xs : List A). all_of blocks ++ xs) (made ∙ ap (λ (n : ℕ). set rest n a) (sym down))
      ∙ sym (set-append_right (all_of blocks) rest (32 * length blocks) at a (length_blocks blocks are.whole)
      (omega (arith, is)))

  -- the blocks stay whole
  pub set_whole : (blocks : List (List A)) (rest : List A) (i j : ℕ) (new : List A) (a : A) → AreBlocks blocks rest
      → i < length blocks
      → ((d : List A) → new ≡ set (get_or blocks i d) j a) → AreBlocks (set blocks i new) rest
  set_whole blocks rest i j new a are low made = record {
    whole = All-set (λ (block : List A). length block ≡ 32) blocks i new
        (ap length (made new) ∙ length-set (get_or blocks i new) j a ∙ are.whole i new low) are.whole;
    behind = are.behind;
    few = omega (arith, length-set blocks i new, are.few);
  }

  -- a block more, of what stood behind the blocks and an item
  pub block_more : (blocks : List (List A)) (rest new : List A) (a : A) → new ≡ rest ++ a ∷ []
      → in_blocks (blocks ++ new ∷ []) [] ≡ in_blocks blocks rest ++ a ∷ []
  block_more blocks rest new a made =
      append-nil (all_of (blocks ++ new ∷ [])) ∙ flat_map-append (λ (block : List A). block) blocks (new ∷ [])
      ∙ ap (λ (xs : List A). all_of blocks ++ xs) (joined new [] ∙ append-nil new ∙ made)
      ∙ sym (append_assoc (all_of blocks) rest (a ∷ []))

  pub more_whole : (blocks : List (List A)) (rest new : List A) (a : A) → AreBlocks blocks rest
      → new ≡ rest ++ a ∷ [] → length rest ≡ 31
      → length blocks < 2 ^ 27 → AreBlocks (blocks ++ new ∷ []) []
  more_whole blocks rest new a are made full few = record {
    whole = All-push (λ (block : List A). length block ≡ 32) blocks new (are.whole) (let long = length-append
        rest (a ∷ []) in let same = ap length made in omega (arith, long, same, full));
    behind = omega arith;
    few = omega (arith, length-append blocks (new ∷ []), few);
  }

  -- a block by the holder that the list has of it: its length, and what it becomes
  pub block_long : {B : Type 0} (f : B → List A) (xs : List B) (rest : List A) (k : ℕ) (x : B)
      → AreBlocks (map f xs) rest → k < length xs
      → x ≡ get_or xs k x → length (f x) ≡ 32
  block_long {B} f xs rest k x are low is =
      ap (λ (y : B). length (f y)) is ∙ sym (ap length (get_or-map f xs k x (f x) low))
      ∙ are.whole k (f x) (omega (arith, low, length-map xs f))

  pub block_made : {B : Type 0} (f : B → List A) (xs : List B) (k j : ℕ) (x : B) (new : List A) (a : A)
      → k < length xs → x ≡ get_or xs k x
      → new ≡ set (f x) j a → (d : List A) → new ≡ set (get_or (map f xs) k d) j a
  block_made f xs k j x new a low is made d = made ∙ ap (λ (ys : List A). set ys j a) (ap f is
      ∙ sym (get_or-map f xs k x d low))

  pub held_set : {B : Type 0} (f : B → List A) (xs ys : List B) (k : ℕ) (y : B) (new : List A) → ys ≡ set xs k y
      → f y ≡ new
      → map f ys ≡ set (map f xs) k new
  held_set f xs ys k y new replaced held = ap (λ zs. map f zs) replaced ∙ map-set f xs k y
      ∙ ap (λ z. set (map f xs) k z) held

-- ---- an item that a function changes
module _ {A F R : Type 0} (function : Once F (MutBor A × Unit {0}) (R × (MutBor A × Unit {0}))) (f : F) where
  -- a list is as long as before
  pub changed_long : (place : ℕ) (given : Option R) (before after : List A)
      → IfSome given (λ one. IsChangedBy function f place one before after) → IfNone given (after ≡ before)
      → length after ≡ length before
  changed_long place None before after changed kept = ap length kept
  changed_long place (Some one) before after changed kept = ap length changed.set ∙ length-set before place changed.new

  -- the list of all blocks changes as what stands behind the blocks does
  pub changed_behind : (blocks : List (List A)) (rest after : List A) (at k : ℕ) (given : Option R) → AreBlocks blocks rest
      → at ≡ 32 * length blocks + k → IfSome given (λ one. IsChangedBy function f k one rest after)
      → IfSome given (λ one. IsChangedBy function f at one (in_blocks blocks rest) (in_blocks blocks after))
  changed_behind blocks rest after at k None are is changed = tt
  changed_behind blocks rest after at k (Some one) are is changed = record {
    old = changed.old;
    new = changed.new;
    here = rest_item blocks rest at k changed.old are is changed.here;
    gives = changed.gives;
    set = rest_set blocks rest after at k changed.new are is changed.set;
  }

module _ {A B F R : Type 0} (value : B → List A) (function : Once F (MutBor A × Unit {0}) (R × (MutBor A × Unit {0}))) (f : F) where
  -- and as one block does
  pub changed_in_block : (xs : List B) (rest : List A) (at : ℕ) (x y : B) (given : Option R) → AreBlocks (map value xs) rest
      → at / 32 < length xs → x ≡ get_or xs (at / 32) x
      → IfSome given (λ one. IsChangedBy function f (at % 32) one (value x) (value y))
      → IfSome given (λ one. IsChangedBy function f at one (in_blocks (map value xs) rest)
      (in_blocks (map value (set xs (at / 32) y)) rest))
  changed_in_block xs rest at x y None are low is changed = tt
  changed_in_block xs rest at x y (Some one) are low is changed = record {
    old = changed.old;
    new = changed.new;
    here = block_item (map value xs) rest at (value x) changed.old are
        (slice_get-map value xs (at / 32) ∙ ap (λ o. option_map value o) (slice_get-get_or xs (at / 32) x low
        ∙ ap (λ (b : B). Some b) (sym is))) changed.here;
    gives = changed.gives;
    set = ap (λ bs. in_blocks bs rest) (map-set value xs (at / 32) y)
        ∙ block_set (map value xs) rest at (value y) changed.new are (omega (arith, low, length-map xs value))
        (block_made value xs (at / 32) (at % 32) x (value y) changed.new low is changed.set);
  }

module _ {A B : Type 0} (value : B → List A) (xs : List B) (rest : List A) (k : ℕ) (x y : B) (is : x ≡ get_or xs k x)
    (low : k < length xs) where
  -- a block of the same length keeps the blocks whole
  pub long_whole : AreBlocks (map value xs) rest → length (value y) ≡ length (value x) → AreBlocks (map value (set xs k y)) rest
  long_whole are same =
      let long : length (value x) ≡ 32 = block_long value xs rest k x are low is in
      subst (λ bs. AreBlocks bs rest) (sym (map-set value xs k y)) (record {
        whole = All-set (λ (block : List A). length block ≡ 32) (map value xs) k (value y) (same ∙ long) are.whole;
        behind = are.behind;
        few = let few = are.few in omega (arith, length-set (map value xs) k (value y), few);
      })

  -- the same block changes nothing
  pub same_block : value y ≡ value x → in_blocks (map value (set xs k y)) rest ≡ in_blocks (map value xs) rest
  same_block same =
      let was : get_or (map value xs) k (value x) ≡ value x = get_or-map value xs k x (value x) low ∙ ap value (sym is) in
      ap (λ bs. in_blocks bs rest) (map-set value xs k y
      ∙ ap (λ (b : List A). set (map value xs) k b) (same ∙ sym was) ∙ set-get_or (map value xs) k (value x))

-- what a value is followed by where there is none
pub none_then : {R : Type 0} {P Q : Type 0} (given : Option R) → (P → Q) → IfNone given P → IfNone given Q
none_then None goes is = goes is
none_then (Some one) goes is = tt

-- clones of items that others may hold have their values
pub cloned : {A B : Type 0} (f : A → B) (xs ys : List A) → AllZip (λ x y. f y ≡ f x) xs ys → map f ys ≡ map f xs
cloned f [] [] same = refl
cloned f [] (y ∷ ys) same = absurd same
cloned f (x ∷ xs) [] same = absurd same
cloned f (x ∷ xs) (y ∷ ys) same = λ i. same.0 i ∷ cloned f xs ys same.1 i
