-- Bytes up to a newline, and the part of a buffer that is held.
use Rattle.std.proofs.Common.{◌≡◌, ◌≢◌, ℕ, ◌+◌, ◌<◌, ◌≤◌, ◌==◌, ◌⊎◌, List, [], ◌∷◌, ◌++◌, length, take, drop, get_or, cond, ltb, Bool, true, false, Option, Some, None, position, refl, ap, sym, inl, inr, ◌∙◌, arith, length-drop, length-take}
use Rattle.std.specs.List.{position_or_len}
use Rattle.std.proofs.lemmas.List.{drop_all, drop_more, get_or-take, take-append-drop}
use Rattle.std.proofs.lemmas.List.Elements.{All-from_get_or}
use Rattle.std.proofs.lemmas.List.Quantifiers.{position-Some}
use Rattle.std.proofs.lemmas.List.Sums.{fails_before_first, position_or_len_is}
use Rattle.std.proofs.lemmas.Bool.{eqb-true, eqb-false, ltb-false, eq-eqb, ne_eqb}
use Rattle.memchr.specs.Find.{IsFirstByte, is_byte}
use Rattle.input_lines.specs.Lines.{IsPlain}

abbrev pub is_newline : ℕ → Bool
is_newline byte = byte == 10

-- what is held is empty exactly where it ends where it begins
pub held-nil : (xs : List ℕ) (from to : ℕ) → to ≤ length xs → from ≡ to → drop from (take to xs) ≡ []
held-nil xs from to high same = drop_all from (take to xs) (omega (arith, length-take to xs))

pub nil-held : (xs : List ℕ) (from to : ℕ) → from ≤ to → to ≤ length xs → drop from (take to xs) ≡ [] → from ≡ to
nil-held xs from to low high e = omega (arith, ap length e, length-drop from (take to xs), length-take to xs)

-- the bytes before the first newline, and those behind it
plain_before : (bs : List ℕ) (at : ℕ) → ((k : ℕ) → k < at → is_newline (get_or bs k 0) ≡ false) → IsPlain (take at bs)
plain_before bs at h = All-from_get_or (λ byte. byte ≢ 10) (take at bs) 0 (λ i low.
    let within : i < at = omega (arith, length-take at bs) in
    rw (get_or-take at bs i 0 within) (eqb-false (get_or bs i 0) 10 (h i within)))

pub at_newline : (bs : List ℕ) (at : ℕ) → position is_newline bs ≡ Some at → (bs ≡ take at bs ++ 10 ∷ drop (at + 1) bs) × IsPlain (take at bs)
at_newline bs at e =
    let s = position-Some is_newline bs at 0 e in
    let here : get_or bs at 0 ≡ 10 = eqb-true (get_or bs at 0) 10 s.1 in
    let rest : drop at bs ≡ 10 ∷ drop (at + 1) bs = drop_more bs at 0 s.0 ∙ ap (λ byte. byte ∷ drop (at + 1) bs) here in
    (sym (take-append-drop at bs) ∙ ap (λ more. take at bs ++ more) rest, plain_before bs at s.2)

not_below : (b : Bool) (n : ℕ) → cond b (Some n) None ≡ None → b ≡ false
not_below true n e = cc
not_below false n e = refl

pub no_newline : (bs : List ℕ) → position is_newline bs ≡ None → IsPlain bs
no_newline bs e =
    let past : length bs ≤ position_or_len is_newline bs = ltb-false _ _ (not_below (ltb (position_or_len is_newline bs) (length bs)) _ e) in
    All-from_get_or (λ byte. byte ≢ 10) bs 0 (λ i low. eqb-false (get_or bs i 0) 10 (fails_before_first is_newline bs i 0 (omega arith)))

-- an answer that is the first place of a newline
first_place : (bs : List ℕ) (at : ℕ) (b : Bool) → position_or_len is_newline bs ≡ at → ltb at (length bs) ≡ b → cond b (Some at) None ≡ position is_newline bs
first_place bs at b e low = sym (ap (λ n. cond (ltb n (length bs)) (Some n) None) e ∙ ap (λ t. cond t (Some at) None) low)

pub found_newline : (bs : List ℕ) (found : Option ℕ) → IsFirstByte (is_byte 10) bs found → found ≡ position is_newline bs
found_newline bs None none =
    first_place bs (length bs) false
    (position_or_len_is is_newline bs (length bs) 0 (omega arith) (λ k low. ne_eqb _ 10 (λ e. none k (omega arith) low (eq-eqb _ 10 e))) (λ low. absurd (omega arith)))
    (grind arith)
found_newline bs (Some at) first =
    let before = first.0 in
    first_place bs at true
    (position_or_len_is is_newline bs at 0 (omega (arith, before.high)) (λ k low. ne_eqb _ 10 (λ e. before.before k (omega arith) low (eq-eqb _ 10 e))) (λ low. first.1))
    (grind (arith, before.high))

-- a list of bytes has a newline, behind plain bytes, or none
pub cut_at_newline : (bs : List ℕ) → IsPlain bs ⊎ ((part : List ℕ) × (more : List ℕ) × IsPlain part × (bs ≡ part ++ 10 ∷ more))
cut_at_newline bs = by_position bs (position is_newline bs) refl
  where
    by_position : (bs : List ℕ) (found : Option ℕ) → position is_newline bs ≡ found → IsPlain bs ⊎ ((part : List ℕ) × (more : List ℕ) × IsPlain part × (bs ≡ part ++ 10 ∷ more))
    by_position bs None e = inl (no_newline bs e)
    by_position bs (Some at) e = let s = at_newline bs at e in inr (take at bs, drop (at + 1) bs, s.1, s.0)
