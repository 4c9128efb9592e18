-- What stands in a line and nests nothing, and lines of white space.
use Rattle.std.proofs.Common.{◌≡◌, ℕ, ◌+◌, ◌-◌, ◌≤◌, ◌&&◌, ◌||◌, ◌==◌, List, [], ◌∷◌, ◌++◌, Bool, true, false, not, cond, nat_le, nat_lt, refl, ap, ◌∙◌, arith, append_assoc}
use Rattle.std.specs.Char.{is_ascii_digit}
use Rattle.std.specs.List.{list_all}
use Rattle.std.proofs.lemmas.Bool.{and_parts, leb-true, ne_eqb}
use Rattle.std.proofs.lemmas.Bool.Decides.{Decides-eqb}
use Rattle.json.specs.Print.{quoted}
use Rattle.script_text.specs.declared.nesting.StringState.{StringState}
use Rattle.script_text.specs.declared.nesting.StringState.TheVariants.{Outside, InString, BehindBackslash}
use Rattle.script_text.specs.Nesting.{opens, closes, fits, fits_in_string, fits_behind_backslash, is_shallow}
use Rattle.script_text.specs.Causes.{is_white, is_blank}
use Rattle.script_text.specs.inner.Plain.{is_plain}
use Rattle.script_text.proofs.CanonTexts.{quoted-plain}

-- the bytes that are left fit where a look along a line stands
abbrev pub fits_at : StringState → ℕ → List ℕ → Bool
fits_at Outside depth bytes = fits depth bytes
fits_at InString depth bytes = fits_in_string depth bytes
fits_at BehindBackslash depth bytes = fits_behind_backslash depth bytes

-- ---- digits

passed_by : (a b q : Bool) (x y z w : Bool) → a ≡ false → b ≡ false → q ≡ false → cond a x (cond b y (cond q z w)) ≡ w
passed_by a b q x y z w no_a no_b no_q =
    ap (λ t. cond t x (cond b y (cond q z w))) no_a ∙ ap (λ t. cond t y (cond q z w)) no_b ∙ ap (λ t. cond t z w) no_q

neither : (a b : Bool) → a ≡ false → b ≡ false → (a || b) ≡ false
neither a b no_a no_b = ap (λ t. t || b) no_a ∙ no_b

digit_passed : (c depth : ℕ) (rest : List ℕ) → is_ascii_digit c ≡ true → fits depth (c ∷ rest) ≡ fits depth rest
digit_passed c depth rest digit =
    let s = and_parts (nat_le 48 c) (nat_le c 57) digit in
    let low : 48 ≤ c = leb-true 48 c s.0 in let high : c ≤ 57 = leb-true c 57 s.1 in
    let no_open : opens c ≡ false = neither (c == 91) (c == 123) (ne_eqb c 91 (λ e. omega (arith, e, high))) (ne_eqb c 123 (λ e. omega (arith, e, high))) in
    let no_close : closes c ≡ false = neither (c == 93) (c == 125) (ne_eqb c 93 (λ e. omega (arith, e, high))) (ne_eqb c 125 (λ e. omega (arith, e, high))) in
    passed_by (opens c) (closes c) (c == 34) (nat_lt depth 8 && fits (depth + 1) rest) (fits (depth - 1) rest) (fits_in_string depth rest) (fits depth rest)
    no_open no_close (ne_eqb c 34 (λ e. omega (arith, e, low)))

pub digits_passed : (cs : List ℕ) (depth : ℕ) (rest : List ℕ) → list_all is_ascii_digit cs ≡ true → fits depth (cs ++ rest) ≡ fits depth rest
digits_passed [] depth rest digits = refl
digits_passed (c ∷ cs) depth rest digits =
    let s = and_parts (is_ascii_digit c) (list_all is_ascii_digit cs) digits in
    digit_passed c depth (cs ++ rest) s.0 ∙ digits_passed cs depth rest s.1

-- ---- strings

inside_by : (q b : Bool) (x y z : Bool) → q ≡ false → b ≡ false → cond q x (cond b y z) ≡ z
inside_by q b x y z no_q no_b = ap (λ t. cond t x (cond b y z)) no_q ∙ ap (λ t. cond t y z) no_b

plain_passed : (cs : List ℕ) (depth : ℕ) (rest : List ℕ) → list_all is_plain cs ≡ true → fits_in_string depth (cs ++ 34 ∷ rest) ≡ fits depth rest
plain_passed [] depth rest plain = refl
plain_passed (c ∷ cs) depth rest plain =
    let p = and_parts (is_plain c) (list_all is_plain cs) plain in
    let s = and_parts (nat_le 32 c && not (c == 34)) (not (c == 92)) p.0 in
    let t = and_parts (nat_le 32 c) (not (c == 34)) s.0 in
    let after = cs ++ 34 ∷ rest in
    inside_by (c == 34) (c == 92) (fits depth after) (fits_behind_backslash depth after) (fits_in_string depth after) (is_false (c == 34) t.1) (is_false (c == 92) s.1)
    ∙ plain_passed cs depth rest p.1
  where
    is_false : (b : Bool) → not b ≡ true → b ≡ false
    is_false true h = absurd (cc)
    is_false false h = refl

pub quoted_passed : (cs : List ℕ) (depth : ℕ) (rest : List ℕ) → list_all is_plain cs ≡ true → fits depth (quoted cs ++ rest) ≡ fits depth rest
quoted_passed cs depth rest plain =
    ap (λ text. fits depth (text ++ rest)) (quoted-plain cs plain) ∙ ap (fits_in_string depth) (append_assoc cs (34 ∷ []) rest) ∙ plain_passed cs depth rest plain

-- ---- commas

pub comma_passed : (later : Bool) (depth : ℕ) (rest : List ℕ) → fits depth (cond later (44 ∷ []) [] ++ rest) ≡ fits depth rest
comma_passed true depth rest = refl
comma_passed false depth rest = refl

-- ---- white space

white_passed : (byte depth : ℕ) (rest : List ℕ) → is_white byte ≡ true → fits depth (byte ∷ rest) ≡ fits depth rest
white_passed byte depth rest white = by_byte (byte == 32) (byte == 9) (byte == 10) (byte == 13) refl refl refl refl white
  where
    by_byte : (a b c e : Bool) → (byte == 32) ≡ a → (byte == 9) ≡ b → (byte == 10) ≡ c → (byte == 13) ≡ e → (a || b || c || e) ≡ true
        → fits depth (byte ∷ rest) ≡ fits depth rest
    by_byte true b c e is_a is_b is_c is_e h = ap (λ n. fits depth (n ∷ rest)) ((Decides-eqb byte 32).0 is_a)
    by_byte false true c e is_a is_b is_c is_e h = ap (λ n. fits depth (n ∷ rest)) ((Decides-eqb byte 9).0 is_b)
    by_byte false false true e is_a is_b is_c is_e h = ap (λ n. fits depth (n ∷ rest)) ((Decides-eqb byte 10).0 is_c)
    by_byte false false false true is_a is_b is_c is_e h = ap (λ n. fits depth (n ∷ rest)) ((Decides-eqb byte 13).0 is_e)
    by_byte false false false false is_a is_b is_c is_e h = absurd (cc)

white_fits : (line : List ℕ) → list_all is_white line ≡ true → is_shallow line ≡ true
white_fits [] white = refl
white_fits (byte ∷ line) white =
    let s = and_parts (is_white byte) (list_all is_white line) white in white_passed byte 0 line s.0 ∙ white_fits line s.1

pub blank_shallow : (line : List ℕ) → is_blank line ≡ true → is_shallow line ≡ true
blank_shallow line blank = white_fits line blank
