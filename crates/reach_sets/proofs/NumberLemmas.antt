-- Trees are numbered in the order of their roots.
use Rattle.std.proofs.Common.{◌≡◌, ◌≢◌, ℕ, ◌+◌, ◌<◌, ◌≤◌, List, [], ◌∷◌, ◌++◌, length, get_or, set, take, refl, sym, ap, ◌∙◌, subst, inl, inr, arith, length-append}
use Rattle.std.specs.Prelude.{Contains}
use Rattle.std.proofs.lemmas.Grind.{take-set_at}
use Rattle.std.proofs.lemmas.List.{get_or_append_left, get_or_push, get_or-set_other, get_or-take, length-set, length-take-le}
use Rattle.std.proofs.lemmas.List.Elements.{Contains-append_left, Contains-get_or, Contains-push, Contains-push_cases}
use Rattle.std.proofs.lemmas.List.Quantifiers.{all_pairs_push}
use Rattle.std.proofs.lemmas.Bool.{cases_lt}
use Rattle.reach_sets.specs.inner.Forests.{IsForest, HasParent, AreInOneTree, IsRootNumber, AreRootNumbers}
use Rattle.nav_types.proofs.Items.{slice_get-append_left, slice_get-push_last}
use Rattle.reach_sets.proofs.ChainLemmas.{chained_self, chained_on}
use Rattle.reach_sets.proofs.ForestLemmas.{to_parent}

pub none_numbered : (parents : List ℕ) → AreRootNumbers parents [] 0
none_numbered parents =
    record {
      roots = [];
      count_is = refl;
      rising = λ i j d low high. absurd (omega arith);
      each_root = λ k has. absurd (omega (arith, has.1));
      all_roots = λ k low root. absurd (omega arith);
      numbers_are = λ k low. absurd (omega arith);
      same = λ k low. absurd (omega arith);
    }

-- what holds of the numbers so far and of one more
numbers_push : (numbers : List ℕ) (number : ℕ) (P : ℕ → ℕ → Type 0) → ((k : ℕ) → k < length numbers → P k (get_or numbers k 0)) → P (length numbers) number → (k : ℕ) → k < length (numbers ++ number ∷ []) → P k (get_or (numbers ++ number ∷ []) k 0)
numbers_push numbers number P before here k low =
    let long = length-append numbers (number ∷ []) in
    elim (cases_lt k (length numbers)) [
      | inl earlier ↦ let Q : ℕ → Type 0 = λ y. P k y in subst Q (sym (get_or_append_left numbers (number ∷ []) 0 k earlier)) (before k earlier)
      | inr last ↦
          let at : length numbers ≡ k = omega (arith, long) in
          let Q : ℕ → Type 0 = λ y. P y (get_or (numbers ++ number ∷ []) y 0) in
          let R : ℕ → Type 0 = λ y. P (length numbers) y in
          subst Q at (subst R (sym (get_or_push numbers number 0 (length numbers) refl)) here)
    ]

-- a root is numbered after all others
pub root_numbered : (parents numbers : List ℕ) (count : ℕ) → IsForest parents → length numbers < length parents → get_or parents (length numbers) 0 ≡ length numbers → AreRootNumbers parents numbers count → AreRootNumbers parents (numbers ++ (count + 1) ∷ []) (count + 1)
root_numbered parents numbers count forest inside root so_far =
    let here = length numbers in
    let roots = so_far.roots in let more = roots ++ here ∷ [] in
    let longer = length-append numbers ((count + 1) ∷ []) in
    let now = numbers ++ (count + 1) ∷ [] in
    let kept : (k number : ℕ) → IsRootNumber parents roots k number → IsRootNumber parents more k number = λ k number is. record {
      place = is.place;
      root = is.root;
      at = slice_get-append_left roots (here ∷ []) is.place is.root is.at;
      number_is = is.number_is;
      below = is.below;
      own = is.own;
      joined = is.joined;
    } in
    let last : IsRootNumber parents more here (count + 1) = record {
      place = length roots;
      root = here;
      at = slice_get-push_last roots here;
      number_is = omega (arith, so_far.count_is);
      below = omega arith;
      own = λ _. refl;
      joined = chained_self (HasParent parents) here;
    } in
    record {
      roots = more;
      count_is = omega (arith, so_far.count_is, length-append roots (here ∷ []));
      rising = all_pairs_push ◌<◌ roots here so_far.rising (λ k d low. (so_far.each_root (get_or roots k d) (Contains-get_or roots k d low)).0);
      each_root = λ k has. elim (Contains-push_cases roots here k has) [
        | inl old ↦ let r = so_far.each_root k old in (omega (arith, r.0, longer), r.1)
        | inr same ↦ (omega (arith, longer), ap (λ y. get_or parents y 0) (sym same) ∙ root ∙ same)
      ];
      all_roots = λ k low is. elim (cases_lt k here) [
        | inl earlier ↦ Contains-append_left roots (here ∷ []) k (so_far.all_roots k earlier is)
        | inr later ↦
            let at : here ≡ k = omega (arith, longer) in
            let P : ℕ → Type 0 = λ y. Contains more y in
            subst P at (Contains-push roots here)
      ];
      numbers_are = numbers_push numbers (count + 1) (λ k number. IsRootNumber parents more k number)
          (λ k low. kept k (get_or numbers k 0) (so_far.numbers_are k low)) last;
      same = numbers_push numbers (count + 1) (λ k number. get_or now (get_or parents k 0) 0 ≡ number)
          (λ k low.
          let parent = forest k (omega arith) in
          get_or_append_left numbers ((count + 1) ∷ []) 0 (get_or parents k 0) (omega arith) ∙ so_far.same k low)
          (ap (λ y. get_or now y 0) root ∙ get_or_push numbers (count + 1) 0 here refl);
    }

-- another place has its parent's number
pub child_numbered : (parents numbers : List ℕ) (count up : ℕ) → IsForest parents → length numbers < length parents → get_or parents (length numbers) 0 ≡ up → up ≢ length numbers → AreRootNumbers parents numbers count → AreRootNumbers parents (numbers ++ get_or numbers up 0 ∷ []) count
child_numbered parents numbers count up forest inside is_up apart so_far =
    let here = length numbers in
    let number = get_or numbers up 0 in let now = numbers ++ number ∷ [] in
    let longer = length-append numbers (number ∷ []) in
    let low : up < here = let h = forest here inside in omega arith in
    let above = so_far.numbers_are up low in
    let last : IsRootNumber parents so_far.roots here number = record {
      place = above.place;
      root = above.root;
      at = above.at;
      number_is = above.number_is;
      below = omega (arith, above.below);
      own = λ root. absurd (apart (sym is_up ∙ root));
      joined =
          let P : ℕ → Type 0 = λ y. AreInOneTree parents here y in
          chained_on (HasParent parents) here up above.root (subst P is_up (to_parent parents here inside)) above.joined;
    } in
    record {
      roots = so_far.roots;
      count_is = so_far.count_is;
      rising = so_far.rising;
      each_root = λ k has. let r = so_far.each_root k has in (omega (arith, r.0, longer), r.1);
      all_roots = λ k within is. elim (cases_lt k here) [
        | inl earlier ↦ so_far.all_roots k earlier is
        | inr later ↦
            let at : k ≡ here = omega (arith, longer) in
            absurd (apart (sym is_up ∙ ap (λ y. get_or parents y 0) (sym at) ∙ is ∙ at))
      ];
      numbers_are = numbers_push numbers number (λ k n. IsRootNumber parents so_far.roots k n) so_far.numbers_are last;
      same = numbers_push numbers number (λ k n. get_or now (get_or parents k 0) 0 ≡ n)
          (λ k within.
          let parent = forest k (omega arith) in
          get_or_append_left numbers (number ∷ []) 0 (get_or parents k 0) (omega arith) ∙ so_far.same k within)
          (ap (λ y. get_or now y 0) is_up ∙ get_or_append_left numbers (number ∷ []) 0 up low);
    }

-- what a turn of the loop leaves at a root
pub root_turn : (parents numbers made : List ℕ) (count fresh place : ℕ) → IsForest parents → place < length parents → length numbers ≡ place → count ≤ place → AreRootNumbers parents numbers count → get_or parents place 0 ≡ place → made ≡ numbers ++ (count + 1) ∷ [] → fresh ≡ count + 1 → (length made ≡ place + 1) × ((fresh ≤ place + 1) × AreRootNumbers parents made fresh)
root_turn parents numbers made count fresh place forest inside long few so_far root is_made is_fresh =
    let P : ℕ → Type 0 = λ y. get_or parents y 0 ≡ y in
    let Q : List ℕ → Type 0 = λ ns. AreRootNumbers parents ns fresh in
    let R : ℕ → Type 0 = λ n. AreRootNumbers parents (numbers ++ (count + 1) ∷ []) n in (
      omega (arith, ap length is_made, length-append numbers ((count + 1) ∷ [])),
      (
        omega arith,
        subst Q (sym is_made) (subst R (sym is_fresh)
            (root_numbered parents numbers count forest (omega arith) (subst P (sym long) root) so_far)),
      ),
    )

-- and at another place
pub child_turn : (parents numbers made : List ℕ) (count fresh place number : ℕ) → IsForest parents → place < length parents → length numbers ≡ place → count ≤ place → AreRootNumbers parents numbers count → get_or parents place 0 ≢ place → number ≡ get_or numbers (get_or parents place 0) 0 → made ≡ numbers ++ number ∷ [] → fresh ≡ count → (length made ≡ place + 1) × ((fresh ≤ place + 1) × AreRootNumbers parents made fresh)
child_turn parents numbers made count fresh place number forest inside long few so_far apart read is_made is_fresh =
    let up = get_or parents place 0 in
    let P : ℕ → Type 0 = λ y. get_or parents y 0 ≡ up in
    let Q : List ℕ → Type 0 = λ ns. AreRootNumbers parents ns fresh in
    let R : ℕ → Type 0 = λ n. AreRootNumbers parents (numbers ++ get_or numbers up 0 ∷ []) n in
    let S : ℕ → Type 0 = λ n. AreRootNumbers parents (numbers ++ n ∷ []) fresh in (
      omega (arith, ap length is_made, length-append numbers (number ∷ [])),
      (
        omega arith,
        subst Q (sym is_made) (subst S (sym read) (subst R (sym is_fresh)
            (child_numbered parents numbers count up forest (omega arith) (subst P (sym long) refl) (λ e. apart (e ∙ long)) so_far))),
      ),
    )

-- the parents stand in the places from this one on
abbrev pub AreLeft : List ℕ → List ℕ → ℕ → Type 0
AreLeft parents places place = (k : ℕ) → place ≤ k → k < length places → get_or places k 0 ≡ get_or parents k 0

still_left : (parents places made : List ℕ) (place number : ℕ) → AreLeft parents places place → made ≡ set places place number → AreLeft parents made (place + 1)
still_left parents places made place number left put = λ k above within.
    let wide : length made ≡ length places = ap (λ (l : List ℕ). length l) put ∙ length-set places place number in
    ap (λ (l : List ℕ). get_or l k 0) put ∙ get_or-set_other places place k number 0 (λ same. omega (arith, same, above))
    ∙ left k (omega (arith, above)) (omega (arith, within, wide))

-- what a turn leaves at a root, where numbers are put in the places of parents
pub root_in_place : (parents places made : List ℕ) (count fresh place : ℕ) → IsForest parents → length places ≡ length parents → place < length places
    → count ≤ place → AreRootNumbers parents (take place places) count → AreLeft parents places place
    → get_or places place 0 ≡ place → made ≡ set places place (count + 1) → fresh ≡ count + 1
    → (fresh ≤ place + 1) × (AreRootNumbers parents (take (place + 1) made) fresh × AreLeft parents made (place + 1))
root_in_place parents places made count fresh place forest wide inside few so_far left root put is_fresh =
    let long : length (take place places) ≡ place = length-take-le place places (omega (arith, inside)) in
    let begun : take (place + 1) made ≡ take place places ++ (count + 1) ∷ [] =
    ap (λ (l : List ℕ). take (place + 1) l) put ∙ take-set_at places place (place + 1) (count + 1) refl inside in
    let turn = root_turn parents (take place places) (take (place + 1) made) count fresh place forest (omega (arith, wide, inside)) long few so_far
    (sym (left place (omega arith) inside) ∙ root) begun is_fresh in
    (turn.1.0, (turn.1.1, still_left parents places made place (count + 1) left put))

-- and at another place
pub child_in_place : (parents places made : List ℕ) (count fresh place number : ℕ) → IsForest parents → length places ≡ length parents → place < length places
    → count ≤ place → AreRootNumbers parents (take place places) count → AreLeft parents places place
    → get_or places place 0 ≢ place → number ≡ get_or places (get_or places place 0) 0 → made ≡ set places place number → fresh ≡ count
    → (fresh ≤ place + 1) × (AreRootNumbers parents (take (place + 1) made) fresh × AreLeft parents made (place + 1))
child_in_place parents places made count fresh place number forest wide inside few so_far left apart read put is_fresh =
    let long : length (take place places) ≡ place = length-take-le place places (omega (arith, inside)) in
    let begun : take (place + 1) made ≡ take place places ++ number ∷ [] =
    ap (λ (l : List ℕ). take (place + 1) l) put ∙ take-set_at places place (place + 1) number refl inside in
    let within : place < length parents = omega (arith, wide, inside) in
    let at : get_or places place 0 ≡ get_or parents place 0 = left place (omega arith) inside in
    let other : get_or parents place 0 ≢ place = λ same. apart (at ∙ same) in
    let low : get_or parents place 0 < place = let up = forest place within in omega (arith, up, other) in
    let known : number ≡ get_or (take place places) (get_or parents place 0) 0 =
    read ∙ ap (λ (k : ℕ). get_or places k 0) at ∙ sym (get_or-take place places (get_or parents place 0) 0 low) in
    let turn = child_turn parents (take place places) (take (place + 1) made) count fresh place number forest within long few so_far
    other known begun is_fresh in
    (turn.1.0, (turn.1.1, still_left parents places made place number left put))
