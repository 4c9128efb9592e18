-- The texts of JSON values, piece by piece.
use Rattle.std.proofs.Common.{◌≡◌, ℕ, zero, suc, ◌+◌, ◌/◌, ◌%◌, ◌<◌, ◌≤◌, ◌==◌, ◌&&◌, ◌||◌, List, [], ◌∷◌, ◌++◌, length, map, take, drop, min, Bool, true, false, not, cond, Some, nat_le, nat_lt, ℤ, decimal, Result, Ok, Err, OnOk, refl, ap, sym, subst, ◌∙◌, append_assoc, append-nil, arith, le-leb}
use Rattle.std.specs.Prelude.{unsigned_abs, flat_map, All}
use Rattle.std.proofs.Math.ListN.{drop_of_length-le}
use Rattle.std.proofs.lemmas.List.{take-append-drop, length-drop}
use Rattle.std.proofs.lemmas.List.Elements.{All-same, All-append}
use Rattle.nav_types.specs.declared.cells.Rect.{Rect}
use Rattle.std.specs.Char.{is_ascii_digit, is_ascii_alphanumeric}
use Rattle.std.specs.Fmt.{digits, digits_onto, digit_glyph}
use Rattle.std.specs.Int.{is_negative}
use Rattle.std.specs.List.{list_all}
use Rattle.std.specs.Str.{all_ascii_digits}
use Rattle.std.proofs.lemmas.Bool.{and_parts, ne_eqb, leb-true, and_from, both_ways}
use Rattle.std.proofs.lemmas.Bool.Decides.{leb_tells, eqb_tells}
use Rattle.std.proofs.lemmas.List.Folds.{list_all-append}
use Rattle.serde_json.specs.Data.{string}
use Rattle.serde_json.specs.View.{items_of}
use Rattle.serde_json.specs.Written.{compact_text, items_text, comma_if}
use Rattle.serde_json.proofs.OnLiterals.{serde_json_on_literals}
use Rattle.fixed_point.specs.Text.{fixed_text, fraction_digits, fraction_text}
use Rattle.fixed_point.proofs.ReadsBack.{all_fraction_digits}
use Rattle.class_config.specs.Forms.{is_class_name}
use Rattle.class_config.specs.Classes.{name_at, clearance_at}
use Rattle.class_config.specs.declared.table.PassabilityClass.{PassabilityClass}
use Rattle.script_text.specs.inner.Plain.{is_plain}
use Rattle.script_text.specs.Table.{member_text}
use Rattle.script_text.specs.Canon.{class_json, line, base_json, pieces, canon_base}

-- ---- plain bytes

plain_if : (c : ℕ) → 32 ≤ c → (c ≡ 34 → ⊥) → (c ≡ 92 → ⊥) → is_plain c ≡ true
plain_if c low quote slash =
    and_from (nat_le 32 c && not (c == 34)) (not (c == 92))
    (and_from (nat_le 32 c) (not (c == 34)) (le-leb 32 c low) (ap not (ne_eqb c 34 quote))) (ap not (ne_eqb c 92 slash))

digit_range : (c : ℕ) → is_ascii_digit c ≡ true → (48 ≤ c) × (c ≤ 57)
digit_range c h = let s = and_parts (nat_le 48 c) (nat_le c 57) h in (leb-true 48 c s.0, leb-true c 57 s.1)

plain_digit : (c : ℕ) → is_ascii_digit c ≡ true → is_plain c ≡ true
plain_digit c h = let r = digit_range c h in plain_if c (omega (arith, r.0)) (λ e. omega (arith, r.0, e)) (λ e. omega (arith, r.1, e))

plain_digits : (cs : List ℕ) → all_ascii_digits cs ≡ true → list_all is_plain cs ≡ true
plain_digits [] h = refl
plain_digits (c ∷ cs) h =
    let s = and_parts (is_ascii_digit c) (all_ascii_digits cs) h in and_from (is_plain c) (list_all is_plain cs) (plain_digit c s.0) (plain_digits cs s.1)

plain_glyph : (d : ℕ) → d < 10 → is_plain (digit_glyph false d) ≡ true
plain_glyph d small =
    let e : nat_lt d 10 ≡ true = le-leb (suc d) 10 (omega (arith, small)) in
    ap (λ b. is_plain (cond b (48 + d) (87 + d))) e ∙ plain_if (48 + d) (omega arith) (λ h. omega (arith, h)) (λ h. omega (arith, h, small))

plain_onto : (k n : ℕ) (acc : List ℕ) → list_all is_plain acc ≡ true → list_all is_plain (digits_onto k 10 false n acc) ≡ true
plain_onto zero n acc h = h
plain_onto (suc k) n acc h =
    let d = digit_glyph false (n % 10) in
    let more : list_all is_plain (d ∷ acc) ≡ true = and_from (is_plain d) (list_all is_plain acc) (plain_glyph (n % 10) (omega arith)) h in
    by_last (n / 10 == 0) (d ∷ acc) (digits_onto k 10 false (n / 10) (d ∷ acc)) more (plain_onto k (n / 10) (d ∷ acc) more)
  where
    by_last : (b : Bool) (xs ys : List ℕ) → list_all is_plain xs ≡ true → list_all is_plain ys ≡ true → list_all is_plain (cond b xs ys) ≡ true
    by_last true xs ys h k = h
    by_last false xs ys h k = k

pub plain-decimal : (n : ℕ) → list_all is_plain (decimal n) ≡ true
unfolding digits
plain-decimal n = plain_onto 64 n [] refl

plain_both : (xs ys : List ℕ) → list_all is_plain xs ≡ true → list_all is_plain ys ≡ true → list_all is_plain (xs ++ ys) ≡ true
plain_both xs ys h k = list_all-append is_plain xs ys ∙ and_from (list_all is_plain xs) (list_all is_plain ys) h k

plain_sign : (negative : Bool) → list_all is_plain (cond negative (45 ∷ []) []) ≡ true
plain_sign true = refl
plain_sign false = refl

plain_fraction : (n : ℕ) → n < 65536 → list_all is_plain (fraction_text n) ≡ true
plain_fraction n small = by_zero (n == 0) (fraction_digits 16 n) (plain_digits (fraction_digits 16 n) (all_fraction_digits 16 n small))
  where
    by_zero : (none : Bool) (xs : List ℕ) → list_all is_plain xs ≡ true → list_all is_plain (cond none [] (46 ∷ xs)) ≡ true
    by_zero true xs h = refl
    by_zero false xs h = h

-- a canonical text of a fixed-point number needs no escape
pub plain-fixed_text : (raw : ℤ) → list_all is_plain (fixed_text raw) ≡ true
unfolding fixed_text
plain-fixed_text raw =
    let m : ℕ = unsigned_abs raw in let sign : List ℕ = cond (is_negative raw) (45 ∷ []) [] in
    plain_both (sign ++ decimal (m / 65536)) (fraction_text (m % 65536))
    (plain_both sign (decimal (m / 65536)) (plain_sign (is_negative raw)) (plain-decimal (m / 65536))) (plain_fraction (m % 65536) (remainder m))
  where
    remainder : (n : ℕ) → n % 65536 < 65536
    remainder n = omega arith

-- no byte of a class name needs an escape
name_byte : (c : ℕ) → (is_ascii_alphanumeric c || c == 45 || c == 95) ≡ true → is_plain c ≡ true
name_byte c h = plain_if c (low c h) (λ e. let t : (is_ascii_alphanumeric 34 || 34 == 45 || 34 == 95) ≡ true = subst (λ b. (is_ascii_alphanumeric b || b == 45 || b == 95) ≡ true) e h in absurd (cc))
    (λ e. let t : (is_ascii_alphanumeric 92 || 92 == 45 || 92 == 95) ≡ true = subst (λ b. (is_ascii_alphanumeric b || b == 45 || b == 95) ≡ true) e h in absurd (cc))
  where
    low : (c : ℕ) → (is_ascii_alphanumeric c || c == 45 || c == 95) ≡ true → 32 ≤ c
    low c h = grind (arith, leb_tells, eqb_tells)

names_plain : (cs : List ℕ) → list_all (λ c. is_ascii_alphanumeric c || c == 45 || c == 95) cs ≡ true → list_all is_plain cs ≡ true
names_plain [] h = refl
names_plain (c ∷ cs) h =
    let s = and_parts (is_ascii_alphanumeric c || c == 45 || c == 95) (list_all (λ d. is_ascii_alphanumeric d || d == 45 || d == 95) cs) h in
    and_from (is_plain c) (list_all is_plain cs) (name_byte c s.0) (names_plain cs s.1)

pub plain-name : (name : List ℕ) → is_class_name name ≡ true → list_all is_plain name ≡ true
plain-name name h =
    names_plain name (and_parts (nat_le 1 (length name) && nat_le (length name) 64) (list_all (λ c. is_ascii_alphanumeric c || c == 45 || c == 95) name) h).1

-- ---- strings

abbrev tail_of : List ℕ → List ℕ
tail_of [] = []
tail_of (x ∷ xs) = xs

-- one plain byte more in front
plain_more : (c : ℕ) (cs : List ℕ) → is_plain c ≡ true → compact_text (string cs) ≡ 34 ∷ (cs ++ 34 ∷ []) → compact_text (string (c ∷ cs)) ≡ 34 ∷ ((c ∷ cs) ++ 34 ∷ [])
unfolding serde_json_on_literals
plain_more c cs plain rest =
    let s = and_parts (nat_le 32 c && not (c == 34)) (not (c == 92)) plain in
    let t = and_parts (nat_le 32 c) (not (c == 34)) s.0 in
    let low : 32 ≤ c = leb-true 32 c t.0 in
    let quote : (c == 34) ≡ false = is_false (c == 34) t.1 in
    let slash : (c == 92) ≡ false = is_false (c == 92) s.1 in
    let e8 : (c == 8) ≡ false = ne_eqb c 8 (λ e. omega (arith, e, low)) in
    let e12 : (c == 12) ≡ false = ne_eqb c 12 (λ e. omega (arith, e, low)) in
    let e10 : (c == 10) ≡ false = ne_eqb c 10 (λ e. omega (arith, e, low)) in
    let e13 : (c == 13) ≡ false = ne_eqb c 13 (λ e. omega (arith, e, low)) in
    let e9 : (c == 9) ≡ false = ne_eqb c 9 (λ e. omega (arith, e, low)) in
    let control : nat_lt c 32 ≡ false = not_lt c low in
    rw (quote, slash, e8, e12, e10, e13, e9, control) (ap (λ xs. 34 ∷ c ∷ xs) (ap tail_of rest))
  where
    is_false : (b : Bool) → not b ≡ true → b ≡ false
    is_false true h = absurd (cc)
    is_false false h = refl

    not_lt : (c : ℕ) → 32 ≤ c → nat_lt c 32 ≡ false
    not_lt c low = grind (arith, leb_tells)

pub quoted-plain : (cs : List ℕ) → list_all is_plain cs ≡ true → compact_text (string cs) ≡ 34 ∷ (cs ++ 34 ∷ [])
quoted-plain [] h = refl
quoted-plain (c ∷ cs) h = let s = and_parts (is_plain c) (list_all is_plain cs) h in plain_more c cs s.0 (quoted-plain cs s.1)

pub quoted-done : (text opened inner closed cs : List ℕ) → opened ≡ text ++ 34 ∷ [] → inner ≡ opened ++ cs → closed ≡ inner ++ 34 ∷ [] → list_all is_plain cs ≡ true
    → closed ≡ text ++ compact_text (string cs)
quoted-done text opened inner closed cs first second third plain =
    third ∙ ap (λ t. t ++ 34 ∷ []) (second ∙ ap (λ t. t ++ cs) first)
    ∙ append_assoc (text ++ 34 ∷ []) cs (34 ∷ []) ∙ append_assoc text (34 ∷ []) (cs ++ 34 ∷ []) ∙ ap (λ t. text ++ t) (sym (quoted-plain cs plain))

-- ---- a key as it stands behind another

-- it is a comma, a string and a colon
member-quoted : (key : List ℕ) → list_all is_plain key ≡ true → member_text key ≡ 44 ∷ (compact_text (string key) ++ 58 ∷ [])
member-quoted key plain = ap (λ (t : List ℕ). 44 ∷ t) (sym (ap (λ (t : List ℕ). t ++ 58 ∷ []) (quoted-plain key plain) ∙ ap (λ (t : List ℕ). 34 ∷ t) (append_assoc key (34 ∷ []) (58 ∷ []))))

pub later-key : {T E : Type 0} (result : Result T E) (later : Bool) (text member now key : List ℕ) → later ≡ true → member ≡ member_text key
    → list_all is_plain key ≡ true → OnOk result (now ≡ text ++ member) → OnOk result (now ≡ text ++ (comma_if later ++ (compact_text (string key) ++ 58 ∷ [])))
later-key (Ok done) later text member now key is holds plain last =
    last ∙ ap (λ (t : List ℕ). text ++ t) (holds ∙ member-quoted key plain) ∙ ap (λ (b : Bool). text ++ (comma_if b ++ (compact_text (string key) ++ 58 ∷ []))) (sym is)
later-key (Err refused) later text member now key is holds plain last = tt

pub first-key : {T E : Type 0} (result : Result T E) (later : Bool) (text member first now key : List ℕ) → later ≡ false → member ≡ member_text key → first ≡ drop 1 member
    → list_all is_plain key ≡ true → OnOk result (now ≡ text ++ first) → OnOk result (now ≡ text ++ (comma_if later ++ (compact_text (string key) ++ 58 ∷ [])))
first-key (Ok done) later text member first now key is holds rest plain last =
    last ∙ ap (λ (t : List ℕ). text ++ t) (rest ∙ ap (λ (t : List ℕ). drop 1 t) (holds ∙ member-quoted key plain))
    ∙ ap (λ (b : Bool). text ++ (comma_if b ++ (compact_text (string key) ++ 58 ∷ []))) (sym is)
first-key (Err refused) later text member first now key is holds rest plain last = tt

-- ---- pieces of an object

-- a key with its quotes and its colon, of plain bytes
abbrev pub key_text : List ℕ → List ℕ
key_text key = 34 ∷ (key ++ 34 ∷ 58 ∷ [])

pub two_pieces : (t a b z : List ℕ) → ((t ++ a) ++ b) ++ z ≡ t ++ (a ++ (b ++ z))
two_pieces t a b z = append_assoc (t ++ a) b z ∙ append_assoc t a (b ++ z)

-- two values of an array, and what follows it
pub pair_pieces : (x z r : List ℕ) → x ++ 44 ∷ (z ++ 93 ∷ r) ≡ (x ++ 44 ∷ (z ++ 93 ∷ [])) ++ r
pair_pieces x z r = sym (append_assoc x (44 ∷ (z ++ 93 ∷ [])) r ∙ ap (λ y. x ++ 44 ∷ y) (append_assoc z (93 ∷ []) r))

-- ---- classes

class_at : (classes : List PassabilityClass) (i : ℕ) (name : List ℕ) (clearance : ℤ) → Some name ≡ name_at classes i → Some clearance ≡ clearance_at classes i
    → drop i classes ≡ record { name = name; clearance = clearance } ∷ drop (i + 1) classes
class_at [] i name clearance n c = absurd (cc)
class_at (class ∷ classes) zero name clearance n c =
    let e : name ≡ class.name = cc in let f : clearance ≡ class.clearance = cc in
    let made = λ (x : List ℕ) (y : ℤ). let p : PassabilityClass = record { name = x; clearance = y } in p ∷ classes in
    sym (ap (λ x. made x clearance) e ∙ ap (λ y. made class.name y) f)
class_at (class ∷ classes) (suc i) name clearance n c =
    class_at classes i name clearance n c ∙ ap (λ k. let p : PassabilityClass = record { name = name; clearance = clearance } in p ∷ drop k (class ∷ classes)) (next i)
  where
    next : (k : ℕ) → suc (k + 1) ≡ suc k + 1
    next k = omega arith

-- one class more
pub class-more : (classes : List PassabilityClass) (i : ℕ) (name : List ℕ) (clearance : ℤ) (later : Bool) (now comma after all : List ℕ)
    → Some name ≡ name_at classes i → Some clearance ≡ clearance_at classes i → comma ≡ now ++ comma_if later
    → after ≡ comma ++ compact_text (class_json (record { name = name; clearance = clearance }))
    → now ++ items_text later (items_of (map class_json (drop i classes))) ≡ all → after ++ items_text true (items_of (map class_json (drop (i + 1) classes))) ≡ all
class-more classes i name clearance later now comma after all n c first second so_far =
    let class : PassabilityClass = record { name = name; clearance = clearance } in
    more later now comma after all (compact_text (class_json class)) (items_text true (items_of (map class_json (drop (i + 1) classes)))) first second
    (ap (λ xs. now ++ items_text later (items_of (map class_json xs))) (sym (class_at classes i name clearance n c)) ∙ so_far)
  where
    more : (later : Bool) (now comma after all x rest : List ℕ) → comma ≡ now ++ comma_if later → after ≡ comma ++ x → now ++ (comma_if later ++ (x ++ rest)) ≡ all → after ++ rest ≡ all
    more later now comma after all x rest first second so_far = ap (λ t. t ++ rest) (second ∙ ap (λ t. t ++ x) first) ∙ two_pieces now (comma_if later) x rest ∙ so_far

-- ---- base lines

take_all : {X : Type 0} (xs : List X) (n : ℕ) → length xs ≤ n → take n xs ≡ xs
take_all xs n h = sym (append-nil (take n xs)) ∙ ap (λ r. take n xs ++ r) (sym (drop_of_length-le xs h)) ∙ take-append-drop n xs

take_min : {X : Type 0} (xs : List X) (n : ℕ) → take (min (length xs) n) xs ≡ take n xs
take_min xs n = by_order (nat_le n (length xs)) (leb-true n (length xs)) refl
  where
    by_order : (b : Bool) → (b ≡ true → n ≤ length xs) → nat_le n (length xs) ≡ b → take (min (length xs) n) xs ≡ take n xs
    by_order true tells e = let low : n ≤ length xs = tells refl in let same : min (length xs) n ≡ n = omega arith in ap (λ k. take k xs) same
    by_order false tells e =
        let high : length xs ≤ n = grind (arith, leb_tells) in let same : min (length xs) n ≡ length xs = omega arith in
        ap (λ k. take k xs) same ∙ take_all xs (length xs) (omega arith) ∙ sym (take_all xs n high)

drop_min : {X : Type 0} (xs : List X) (n : ℕ) → drop (min (length xs) n) xs ≡ drop n xs
drop_min xs n = by_order (nat_le n (length xs)) (leb-true n (length xs)) refl
  where
    by_order : (b : Bool) → (b ≡ true → n ≤ length xs) → nat_le n (length xs) ≡ b → drop (min (length xs) n) xs ≡ drop n xs
    by_order true tells e = let low : n ≤ length xs = tells refl in let same : min (length xs) n ≡ n = omega arith in ap (λ k. drop k xs) same
    by_order false tells e =
        let high : length xs ≤ n = grind (arith, leb_tells) in
        drop_of_length-le xs {i = min (length xs) n} (omega arith) ∙ sym (drop_of_length-le xs {i = n} high)

shorter : {X : Type 0} (size n : ℕ) (x : X) (xs : List X) → 0 < size → length (x ∷ xs) ≤ suc n → length (drop size (x ∷ xs)) ≤ n
shorter size n x xs some h = omega (arith, length-drop size (x ∷ xs))

-- more turns than pieces give no more
pieces-enough : {X : Type 0} (size : ℕ) → 0 < size → (n m : ℕ) (xs : List X) → length xs ≤ n → length xs ≤ m → pieces n size xs ≡ pieces m size xs
pieces-enough size some zero zero xs h k = refl
pieces-enough size some zero (suc m) [] h k = refl
pieces-enough size some zero (suc m) (x ∷ xs) h k = absurd (omega (arith, h))
pieces-enough size some (suc n) zero [] h k = refl
pieces-enough size some (suc n) zero (x ∷ xs) h k = absurd (omega (arith, k))
pieces-enough size some (suc n) (suc m) [] h k = refl
pieces-enough size some (suc n) (suc m) (x ∷ xs) h k =
    ap (λ ps. take size (x ∷ xs) ∷ ps)
    (pieces-enough size some n m (drop size (x ∷ xs)) (shorter size n x xs some h) (shorter size m x xs some k))

base_step : (rects : List (Rect × ℕ)) → (rects ≡ [] → ⊥) → canon_base rects ≡ line (base_json (take 65536 rects)) ++ canon_base (drop 65536 rects)
unfolding canon_base
base_step [] some = absurd (some refl)
base_step (rect ∷ rects) some =
    let others = drop 65536 (rect ∷ rects) in
    let less = shorter 65536 (length rects) rect rects (omega arith) (omega arith) in
    ap (λ ps. line (base_json (take 65536 (rect ∷ rects))) ++ flat_map (λ piece. line (base_json piece)) ps)
    (pieces-enough 65536 (omega arith) (length rects) (length others) others less (omega arith))

-- one base line more
pub base-more : (rects piece others : List (Rect × ℕ)) (now based lined all : List ℕ) (n : ℕ) (empty : Bool) → empty ≡ (length rects == 0) → empty ≡ false → n ≡ min (length rects) 65536
    → piece ≡ take n rects → others ≡ drop n rects → based ≡ now ++ compact_text (base_json piece) → lined ≡ based ++ 10 ∷ []
    → now ++ canon_base rects ≡ all → lined ++ canon_base others ≡ all
unfolding line
base-more rects piece others now based lined all n empty tells full size front back first second so_far =
    let some : rects ≡ [] → ⊥ = λ none. both_ways empty full (tells ∙ ap (λ r. length r == 0) none) in
    let p : piece ≡ take 65536 rects = front ∙ ap (λ k. take k rects) size ∙ take_min rects 65536 in
    let q : others ≡ drop 65536 rects = back ∙ ap (λ k. drop k rects) size ∙ drop_min rects 65536 in
    let text = compact_text (base_json (take 65536 rects)) in
    ap (λ t. t ++ canon_base others) (second ∙ ap (λ t. t ++ 10 ∷ []) (first ∙ ap (λ r. now ++ compact_text (base_json r)) p))
    ∙ ap (λ r. ((now ++ text) ++ 10 ∷ []) ++ canon_base r) q
    ∙ append_assoc (now ++ text) (10 ∷ []) (canon_base (drop 65536 rects)) ∙ append_assoc now text (10 ∷ canon_base (drop 65536 rects))
    ∙ ap (λ t. now ++ t) (sym (append_assoc text (10 ∷ []) (canon_base (drop 65536 rects))) ∙ sym (base_step rects some)) ∙ so_far

-- what holds of the elements of both parts of a list that is cut holds of all
pub all-cut : {X : Type 0} (P : X → Type 0) (xs front back : List X) (n : ℕ) → front ≡ take n xs → back ≡ drop n xs → All P front → All P back → All P xs
all-cut P xs front back n first second before behind =
    All-same P xs (front ++ back) (sym (ap (λ f. f ++ back) first ∙ ap (λ b. take n xs ++ b) second ∙ take-append-drop n xs)) (All-append P front back before behind)
