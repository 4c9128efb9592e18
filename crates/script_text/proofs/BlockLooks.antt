-- What the counts of a block say of how deep a line leads.
use Rattle.std.proofs.Common.{◌≡◌, ℕ, zero, suc, ◌+◌, ◌-◌, ◌%◌, ◌≤◌, ◌<◌, ◌&&◌, ◌||◌, ◌==◌, List, [], ◌∷◌, ◌++◌, Bool, true, false, not, cond, nat_lt, refl, ap, sym, subst, ◌∙◌, arith}
use Rattle.std.specs.List.{count_by}
use Rattle.std.proofs.lemmas.List.Sums.{sum_by-cons}
use Rattle.std.proofs.lemmas.Bool.{and_parts, and_from, ltb-true, lt-ltb, eqb-true, false_from_ne_true}
use Rattle.script_text.specs.declared.nesting.StringState.{StringState}
use Rattle.script_text.specs.declared.nesting.StringState.TheVariants.{Outside, InString, BehindBackslash}
use Rattle.script_text.specs.Nesting.{opens, closes, fits, fits_in_string, fits_behind_backslash}
use Rattle.script_text.specs.inner.Blocks.{fits_from, turned}
use Rattle.script_text.proofs.ShallowTexts.{fits_at}

-- ---- kinds of bytes

data Kind (opening closing quote : Bool) : Type 0 where
  is_opening : opening ≡ true → closing ≡ false → quote ≡ false → Kind opening closing quote
  is_closing : opening ≡ false → closing ≡ true → quote ≡ false → Kind opening closing quote
  is_quote : opening ≡ false → closing ≡ false → quote ≡ true → Kind opening closing quote
  is_other : opening ≡ false → closing ≡ false → quote ≡ false → Kind opening closing quote

kind_of : (byte : ℕ) → Kind (opens byte) (closes byte) (byte == 34)
kind_of byte = by_tests (byte == 91) (byte == 123) (byte == 93) (byte == 125) (byte == 34) refl refl refl refl refl
  where
    at : (n : ℕ) → (byte == n) ≡ true → Kind (opens n) (closes n) (n == 34) → Kind (opens byte) (closes byte) (byte == 34)
    at n is k = subst (λ m. Kind (opens m) (closes m) (m == 34)) (sym (eqb-true byte n is)) k

    by_tests : (a b c e q : Bool) → (byte == 91) ≡ a → (byte == 123) ≡ b → (byte == 93) ≡ c → (byte == 125) ≡ e → (byte == 34) ≡ q
        → Kind (opens byte) (closes byte) (byte == 34)
    by_tests true b c e q is_a is_b is_c is_e is_q = at 91 is_a (is_opening refl refl refl)
    by_tests false true c e q is_a is_b is_c is_e is_q = at 123 is_b (is_opening refl refl refl)
    by_tests false false true e q is_a is_b is_c is_e is_q = at 93 is_c (is_closing refl refl refl)
    by_tests false false false true q is_a is_b is_c is_e is_q = at 125 is_e (is_closing refl refl refl)
    by_tests false false false false true is_a is_b is_c is_e is_q = at 34 is_q (is_quote refl refl refl)
    by_tests false false false false false is_a is_b is_c is_e is_q =
        is_other (ap (λ t. t || (byte == 123)) is_a ∙ is_b) (ap (λ t. t || (byte == 125)) is_c ∙ is_e) is_q

-- ---- a line by its first byte

fits_opening : (byte depth : ℕ) (bytes : List ℕ) → opens byte ≡ true → fits depth (byte ∷ bytes) ≡ (nat_lt depth 8 && fits (depth + 1) bytes)
fits_opening byte depth bytes o = ap
    (λ t. cond t (nat_lt depth 8 && fits (depth + 1) bytes) (cond (closes byte) (fits (depth - 1) bytes) (cond (byte == 34) (fits_in_string depth bytes) (fits depth bytes)))) o

fits_no_opening : (byte depth : ℕ) (bytes : List ℕ) → opens byte ≡ false
    → fits depth (byte ∷ bytes) ≡ cond (closes byte) (fits (depth - 1) bytes) (cond (byte == 34) (fits_in_string depth bytes) (fits depth bytes))
fits_no_opening byte depth bytes o = ap
    (λ t. cond t (nat_lt depth 8 && fits (depth + 1) bytes) (cond (closes byte) (fits (depth - 1) bytes) (cond (byte == 34) (fits_in_string depth bytes) (fits depth bytes)))) o

fits_closing : (byte depth : ℕ) (bytes : List ℕ) → opens byte ≡ false → closes byte ≡ true → fits depth (byte ∷ bytes) ≡ fits (depth - 1) bytes
fits_closing byte depth bytes o c = fits_no_opening byte depth bytes o ∙ ap (λ t. cond t (fits (depth - 1) bytes) (cond (byte == 34) (fits_in_string depth bytes) (fits depth bytes))) c

fits_neither : (byte depth : ℕ) (bytes : List ℕ) → opens byte ≡ false → closes byte ≡ false → fits depth (byte ∷ bytes) ≡ cond (byte == 34) (fits_in_string depth bytes) (fits depth bytes)
fits_neither byte depth bytes o c = fits_no_opening byte depth bytes o ∙ ap (λ t. cond t (fits (depth - 1) bytes) (cond (byte == 34) (fits_in_string depth bytes) (fits depth bytes))) c

fits_quote : (byte depth : ℕ) (bytes : List ℕ) → opens byte ≡ false → closes byte ≡ false → (byte == 34) ≡ true → fits depth (byte ∷ bytes) ≡ fits_in_string depth bytes
fits_quote byte depth bytes o c q = fits_neither byte depth bytes o c ∙ ap (λ t. cond t (fits_in_string depth bytes) (fits depth bytes)) q

fits_other : (byte depth : ℕ) (bytes : List ℕ) → opens byte ≡ false → closes byte ≡ false → (byte == 34) ≡ false → fits depth (byte ∷ bytes) ≡ fits depth bytes
fits_other byte depth bytes o c q = fits_neither byte depth bytes o c ∙ ap (λ t. cond t (fits_in_string depth bytes) (fits depth bytes)) q

inside_quote : (byte depth : ℕ) (bytes : List ℕ) → (byte == 34) ≡ true → fits_in_string depth (byte ∷ bytes) ≡ fits depth bytes
inside_quote byte depth bytes q = ap (λ t. cond t (fits depth bytes) (cond (byte == 92) (fits_behind_backslash depth bytes) (fits_in_string depth bytes))) q

inside_other : (byte depth : ℕ) (bytes : List ℕ) → (byte == 34) ≡ false → (byte == 92) ≡ false → fits_in_string depth (byte ∷ bytes) ≡ fits_in_string depth bytes
inside_other byte depth bytes q b = ap (λ t. cond t (fits depth bytes) (cond (byte == 92) (fits_behind_backslash depth bytes) (fits_in_string depth bytes))) q
    ∙ ap (λ t. cond t (fits_behind_backslash depth bytes) (fits_in_string depth bytes)) b

opening_fits : (byte depth : ℕ) (bytes : List ℕ) → opens byte ≡ true → depth < 8 → fits (depth + 1) bytes ≡ true → fits depth (byte ∷ bytes) ≡ true
opening_fits byte depth bytes o deep h = fits_opening byte depth bytes o ∙ and_from (nat_lt depth 8) (fits (depth + 1) bytes) (lt-ltb depth 8 deep) h

-- what holds of all three ways out of a byte in a string holds of it
inside_each : (q b : Bool) (x y z x' y' z' : Bool) → (x ≡ true → x' ≡ true) → (y ≡ true → y' ≡ true) → (z ≡ true → z' ≡ true)
    → cond q x (cond b y z) ≡ true → cond q x' (cond b y' z') ≡ true
inside_each true b x y z x' y' z' f g k h = f h
inside_each false true x y z x' y' z' f g k h = g h
inside_each false false x y z x' y' z' f g k h = k h

inside_all : (q b : Bool) (x y z : Bool) → x ≡ true → y ≡ true → z ≡ true → cond q x (cond b y z) ≡ true
inside_all true b x y z f g k = f
inside_all false true x y z f g k = g
inside_all false false x y z f g k = k

-- ---- bytes that fit at a depth fit at each smaller one

lower_step : (byte : ℕ) (bytes : List ℕ) → ((s : StringState) (low high : ℕ) → low ≤ high → fits_at s high bytes ≡ true → fits_at s low bytes ≡ true)
    → (s : StringState) (low high : ℕ) → low ≤ high → Kind (opens byte) (closes byte) (byte == 34) → fits_at s high (byte ∷ bytes) ≡ true → fits_at s low (byte ∷ bytes) ≡ true
lower_step byte bytes ih Outside low high le (is_opening o c q) h =
    let p = and_parts (nat_lt high 8) (fits (high + 1) bytes) (sym (fits_opening byte high bytes o) ∙ h) in
    let deep : high < 8 = ltb-true high 8 p.0 in
    opening_fits byte low bytes o (omega arith) (ih Outside (low + 1) (high + 1) (omega arith) p.1)
lower_step byte bytes ih Outside low high le (is_closing o c q) h =
    fits_closing byte low bytes o c ∙ ih Outside (low - 1) (high - 1) (omega arith) (sym (fits_closing byte high bytes o c) ∙ h)
lower_step byte bytes ih Outside low high le (is_quote o c q) h =
    fits_quote byte low bytes o c q ∙ ih InString low high le (sym (fits_quote byte high bytes o c q) ∙ h)
lower_step byte bytes ih Outside low high le (is_other o c q) h =
    fits_other byte low bytes o c q ∙ ih Outside low high le (sym (fits_other byte high bytes o c q) ∙ h)
lower_step byte bytes ih InString low high le kind h = inside_each (byte == 34) (byte == 92)
    (fits high bytes) (fits_behind_backslash high bytes) (fits_in_string high bytes) (fits low bytes) (fits_behind_backslash low bytes) (fits_in_string low bytes)
    (ih Outside low high le) (ih BehindBackslash low high le) (ih InString low high le) h
lower_step byte bytes ih BehindBackslash low high le kind h = ih InString low high le h

lower : (bytes : List ℕ) (s : StringState) (low high : ℕ) → low ≤ high → fits_at s high bytes ≡ true → fits_at s low bytes ≡ true
lower [] Outside low high le h = refl
lower [] InString low high le h = refl
lower [] BehindBackslash low high le h = refl
lower (byte ∷ bytes) s low high le h = lower_step byte bytes (lower bytes) s low high le (kind_of byte) h

lower_from : (bytes : List ℕ) (s : Bool) (low high : ℕ) → low ≤ high → fits_from s high bytes ≡ true → fits_from s low bytes ≡ true
lower_from bytes true low high le h = lower bytes InString low high le h
lower_from bytes false low high le h = lower bytes Outside low high le h

-- ---- counts by their first byte

count_cons : (p : ℕ → Bool) (byte : ℕ) (bytes : List ℕ) → count_by p (byte ∷ bytes) ≡ cond (p byte) 1 0 + count_by p bytes
count_cons p byte bytes = sum_by-cons (λ x. cond (p x) 1 0) byte bytes

count_yes : (p : ℕ → Bool) (byte : ℕ) (bytes : List ℕ) → p byte ≡ true → count_by p (byte ∷ bytes) ≡ 1 + count_by p bytes
count_yes p byte bytes held = count_cons p byte bytes ∙ ap (λ t. cond t 1 0 + count_by p bytes) held

count_no : (p : ℕ → Bool) (byte : ℕ) (bytes : List ℕ) → p byte ≡ false → count_by p (byte ∷ bytes) ≡ count_by p bytes
count_no p byte bytes fails =
    let e : count_by p (byte ∷ bytes) ≡ 0 + count_by p bytes = count_cons p byte bytes ∙ ap (λ t. cond t 1 0 + count_by p bytes) fails in omega (arith, e)

count_more : (p : ℕ → Bool) (byte : ℕ) (bytes : List ℕ) → count_by p bytes ≤ count_by p (byte ∷ bytes)
count_more p byte bytes = let e = count_cons p byte bytes in omega (arith, e)

-- ---- few openings lead nowhere deep

few_step : (byte : ℕ) (bytes : List ℕ) → ((s : StringState) (depth : ℕ) → depth + count_by opens bytes ≤ 8 → fits_at s depth bytes ≡ true)
    → (s : StringState) (depth : ℕ) → depth + count_by opens (byte ∷ bytes) ≤ 8 → Kind (opens byte) (closes byte) (byte == 34) → fits_at s depth (byte ∷ bytes) ≡ true
few_step byte bytes ih Outside depth le (is_opening o c q) =
    let e = count_yes opens byte bytes o in opening_fits byte depth bytes o (omega (arith, e, le)) (ih Outside (depth + 1) (omega (arith, e, le)))
few_step byte bytes ih Outside depth le (is_closing o c q) =
    let e = count_more opens byte bytes in fits_closing byte depth bytes o c ∙ ih Outside (depth - 1) (omega (arith, e, le))
few_step byte bytes ih Outside depth le (is_quote o c q) =
    let e = count_more opens byte bytes in fits_quote byte depth bytes o c q ∙ ih InString depth (omega (arith, e, le))
few_step byte bytes ih Outside depth le (is_other o c q) =
    let e = count_more opens byte bytes in fits_other byte depth bytes o c q ∙ ih Outside depth (omega (arith, e, le))
few_step byte bytes ih InString depth le kind =
    let e = count_more opens byte bytes in let less : depth + count_by opens bytes ≤ 8 = omega (arith, e, le) in
    inside_all (byte == 34) (byte == 92) (fits depth bytes) (fits_behind_backslash depth bytes) (fits_in_string depth bytes)
    (ih Outside depth less) (ih BehindBackslash depth less) (ih InString depth less)
few_step byte bytes ih BehindBackslash depth le kind = let e = count_more opens byte bytes in ih InString depth (omega (arith, e, le))

few : (bytes : List ℕ) (s : StringState) (depth : ℕ) → depth + count_by opens bytes ≤ 8 → fits_at s depth bytes ≡ true
few [] Outside depth le = refl
few [] InString depth le = refl
few [] BehindBackslash depth le = refl
few (byte ∷ bytes) s depth le = few_step byte bytes (few bytes) s depth le (kind_of byte)

pub few_from : (bytes : List ℕ) (s : Bool) (depth : ℕ) → depth + count_by opens bytes ≤ 8 → fits_from s depth bytes ≡ true
few_from bytes true depth le = few bytes InString depth le
few_from bytes false depth le = few bytes Outside depth le

-- ---- a block without quotes, outside of strings

block_step : (byte : ℕ) (bytes rest : List ℕ)
    → ((depth : ℕ) → depth + count_by opens bytes ≤ 8 → count_by (λ b. b == 34) bytes ≡ 0 → fits (count_by opens bytes + (depth - count_by closes bytes)) rest ≡ true → fits depth (bytes ++ rest) ≡ true)
    → (depth : ℕ) → depth + count_by opens (byte ∷ bytes) ≤ 8 → count_by (λ b. b == 34) (byte ∷ bytes) ≡ 0
    → fits (count_by opens (byte ∷ bytes) + (depth - count_by closes (byte ∷ bytes))) rest ≡ true → Kind (opens byte) (closes byte) (byte == 34) → fits depth (byte ∷ (bytes ++ rest)) ≡ true
block_step byte bytes rest ih depth le none h (is_opening o c q) =
    let e = count_yes opens byte bytes o in let f = count_no closes byte bytes c in let g = count_no (λ b. b == 34) byte bytes q in
    opening_fits byte depth (bytes ++ rest) o (omega (arith, e, le))
    (ih (depth + 1) (omega (arith, e, le)) (omega (arith, g, none))
    (lower rest Outside (count_by opens bytes + (depth + 1 - count_by closes bytes)) (count_by opens (byte ∷ bytes) + (depth - count_by closes (byte ∷ bytes))) (omega (arith, e, f)) h))
block_step byte bytes rest ih depth le none h (is_closing o c q) =
    let e = count_no opens byte bytes o in let f = count_yes closes byte bytes c in let g = count_no (λ b. b == 34) byte bytes q in
    fits_closing byte depth (bytes ++ rest) o c
    ∙ ih (depth - 1) (omega (arith, e, le)) (omega (arith, g, none))
    (lower rest Outside (count_by opens bytes + (depth - 1 - count_by closes bytes)) (count_by opens (byte ∷ bytes) + (depth - count_by closes (byte ∷ bytes))) (omega (arith, e, f)) h)
block_step byte bytes rest ih depth le none h (is_quote o c q) = let g = count_yes (λ b. b == 34) byte bytes q in absurd (omega (arith, g, none))
block_step byte bytes rest ih depth le none h (is_other o c q) =
    let e = count_no opens byte bytes o in let f = count_no closes byte bytes c in let g = count_no (λ b. b == 34) byte bytes q in
    fits_other byte depth (bytes ++ rest) o c q
    ∙ ih depth (omega (arith, e, le)) (omega (arith, g, none))
    (lower rest Outside (count_by opens bytes + (depth - count_by closes bytes)) (count_by opens (byte ∷ bytes) + (depth - count_by closes (byte ∷ bytes))) (omega (arith, e, f)) h)

pub block_passed : (bytes rest : List ℕ) (depth : ℕ) → depth + count_by opens bytes ≤ 8 → count_by (λ b. b == 34) bytes ≡ 0
    → fits (count_by opens bytes + (depth - count_by closes bytes)) rest ≡ true → fits depth (bytes ++ rest) ≡ true
block_passed [] rest depth le none h = lower rest Outside depth (0 + (depth - 0)) (omega arith) h
block_passed (byte ∷ bytes) rest depth le none h = block_step byte bytes rest (block_passed bytes rest) depth le none h (kind_of byte)

-- ---- a block without backslashes

-- the bytes that are left, with as many quotes as there are, at a depth that is no larger
moved : (rest : List ℕ) (s : Bool) (quotes as_many low high : ℕ) → quotes ≡ as_many → low ≤ high → fits_from (turned quotes s) high rest ≡ true → fits_from (turned as_many s) low rest ≡ true
moved rest s quotes as_many low high same le h = lower_from rest (turned as_many s) low high le (subst (λ n. fits_from (turned n s) high rest ≡ true) same h)

no_backslash : (byte : ℕ) (bytes : List ℕ) → count_by (λ b. b == 92) (byte ∷ bytes) ≡ 0 → (byte == 92) ≡ false
no_backslash byte bytes none = false_from_ne_true (byte == 92) (λ held. let k = count_yes (λ b. b == 92) byte bytes held in omega (arith, k, none))

in_string_step : (byte : ℕ) (bytes rest : List ℕ)
    → ((depth : ℕ) → depth + count_by opens bytes ≤ 8 → count_by (λ b. b == 92) bytes ≡ 0
    → fits_from (turned (count_by (λ b. b == 34) bytes) true) (depth + count_by opens bytes) rest ≡ true → fits_in_string depth (bytes ++ rest) ≡ true)
    → (depth : ℕ) → depth + count_by opens (byte ∷ bytes) ≤ 8 → count_by (λ b. b == 92) (byte ∷ bytes) ≡ 0
    → fits_from (turned (count_by (λ b. b == 34) (byte ∷ bytes)) true) (depth + count_by opens (byte ∷ bytes)) rest ≡ true
    → (byte == 34) ≡ false → fits_in_string depth (byte ∷ (bytes ++ rest)) ≡ true
in_string_step byte bytes rest ih depth le none h q =
    let e = count_more opens byte bytes in let g = count_no (λ b. b == 34) byte bytes q in let k = count_more (λ b. b == 92) byte bytes in
    inside_other byte depth (bytes ++ rest) q (no_backslash byte bytes none)
    ∙ ih depth (omega (arith, e, le)) (omega (arith, k, none))
    (moved rest true (count_by (λ b. b == 34) (byte ∷ bytes)) (count_by (λ b. b == 34) bytes) (depth + count_by opens bytes) (depth + count_by opens (byte ∷ bytes)) g (omega (arith, e)) h)

quoted_step : (byte : ℕ) (bytes rest : List ℕ)
    → ((s : Bool) (depth : ℕ) → depth + count_by opens bytes ≤ 8 → count_by (λ b. b == 92) bytes ≡ 0
    → fits_from (turned (count_by (λ b. b == 34) bytes) s) (depth + count_by opens bytes) rest ≡ true → fits_from s depth (bytes ++ rest) ≡ true)
    → (s : Bool) (depth : ℕ) → depth + count_by opens (byte ∷ bytes) ≤ 8 → count_by (λ b. b == 92) (byte ∷ bytes) ≡ 0
    → fits_from (turned (count_by (λ b. b == 34) (byte ∷ bytes)) s) (depth + count_by opens (byte ∷ bytes)) rest ≡ true
    → Kind (opens byte) (closes byte) (byte == 34) → fits_from s depth (byte ∷ (bytes ++ rest)) ≡ true
quoted_step byte bytes rest ih false depth le none h (is_opening o c q) =
    let e = count_yes opens byte bytes o in let g = count_no (λ b. b == 34) byte bytes q in let k = count_more (λ b. b == 92) byte bytes in
    opening_fits byte depth (bytes ++ rest) o (omega (arith, e, le))
    (ih false (depth + 1) (omega (arith, e, le)) (omega (arith, k, none))
    (moved rest false (count_by (λ b. b == 34) (byte ∷ bytes)) (count_by (λ b. b == 34) bytes) (depth + 1 + count_by opens bytes) (depth + count_by opens (byte ∷ bytes)) g (omega (arith, e)) h))
quoted_step byte bytes rest ih false depth le none h (is_closing o c q) =
    let e = count_no opens byte bytes o in let g = count_no (λ b. b == 34) byte bytes q in let k = count_more (λ b. b == 92) byte bytes in
    fits_closing byte depth (bytes ++ rest) o c
    ∙ ih false (depth - 1) (omega (arith, e, le)) (omega (arith, k, none))
    (moved rest false (count_by (λ b. b == 34) (byte ∷ bytes)) (count_by (λ b. b == 34) bytes) (depth - 1 + count_by opens bytes) (depth + count_by opens (byte ∷ bytes)) g (omega (arith, e)) h)
quoted_step byte bytes rest ih s depth le none h (is_quote o c q) = by_side s h
  where
    e : count_by opens (byte ∷ bytes) ≡ count_by opens bytes
    e = count_no opens byte bytes o

    k : count_by (λ b. b == 92) bytes ≤ count_by (λ b. b == 92) (byte ∷ bytes)
    k = count_more (λ b. b == 92) byte bytes

    g : count_by (λ b. b == 34) (byte ∷ bytes) ≡ suc (count_by (λ b. b == 34) bytes)
    g = let f = count_yes (λ b. b == 34) byte bytes q in omega (arith, f)

    after : (t : Bool) → fits_from (turned (count_by (λ b. b == 34) (byte ∷ bytes)) t) (depth + count_by opens (byte ∷ bytes)) rest ≡ true → fits_from (not t) depth (bytes ++ rest) ≡ true
    after t held = ih (not t) depth (omega (arith, e, le)) (omega (arith, k, none))
        (moved rest t (count_by (λ b. b == 34) (byte ∷ bytes)) (suc (count_by (λ b. b == 34) bytes)) (depth + count_by opens bytes) (depth + count_by opens (byte ∷ bytes)) g (omega (arith, e)) held)

    by_side : (t : Bool) → fits_from (turned (count_by (λ b. b == 34) (byte ∷ bytes)) t) (depth + count_by opens (byte ∷ bytes)) rest ≡ true → fits_from t depth (byte ∷ (bytes ++ rest)) ≡ true
    by_side false held = fits_quote byte depth (bytes ++ rest) o c q ∙ after false held
    by_side true held = inside_quote byte depth (bytes ++ rest) q ∙ after true held
quoted_step byte bytes rest ih false depth le none h (is_other o c q) =
    let e = count_no opens byte bytes o in let g = count_no (λ b. b == 34) byte bytes q in let k = count_more (λ b. b == 92) byte bytes in
    fits_other byte depth (bytes ++ rest) o c q
    ∙ ih false depth (omega (arith, e, le)) (omega (arith, k, none))
    (moved rest false (count_by (λ b. b == 34) (byte ∷ bytes)) (count_by (λ b. b == 34) bytes) (depth + count_by opens bytes) (depth + count_by opens (byte ∷ bytes)) g (omega (arith, e)) h)
quoted_step byte bytes rest ih true depth le none h (is_opening o c q) = in_string_step byte bytes rest (ih true) depth le none h q
quoted_step byte bytes rest ih true depth le none h (is_closing o c q) = in_string_step byte bytes rest (ih true) depth le none h q
quoted_step byte bytes rest ih true depth le none h (is_other o c q) = in_string_step byte bytes rest (ih true) depth le none h q

pub quoted_block_passed : (bytes rest : List ℕ) (s : Bool) (depth : ℕ) → depth + count_by opens bytes ≤ 8 → count_by (λ b. b == 92) bytes ≡ 0
    → fits_from (turned (count_by (λ b. b == 34) bytes) s) (depth + count_by opens bytes) rest ≡ true → fits_from s depth (bytes ++ rest) ≡ true
quoted_block_passed [] rest s depth le none h = lower_from rest s depth (depth + 0) (omega arith) h
quoted_block_passed (byte ∷ bytes) rest s depth le none h = quoted_step byte bytes rest (quoted_block_passed bytes rest) s depth le none h (kind_of byte)

-- ---- quotes by pairs

twice : (s : Bool) → not (not s) ≡ s
twice true = refl
twice false = refl

pub turned_odd : (quotes : ℕ) (s : Bool) → quotes % 2 ≡ 1 → turned quotes s ≡ not s
turned_odd zero s odd = absurd (omega (arith, odd))
turned_odd (suc zero) s odd = refl
turned_odd (suc (suc quotes)) s odd = turned_odd quotes (not (not s)) (omega (arith, odd)) ∙ ap not (twice s)

pub turned_even : (quotes : ℕ) (s : Bool) → (quotes % 2 ≡ 1 → ⊥) → turned quotes s ≡ s
turned_even zero s even = refl
turned_even (suc zero) s even = absurd (even refl)
turned_even (suc (suc quotes)) s even = turned_even quotes (not (not s)) (λ odd. even (omega (arith, odd))) ∙ twice s

-- ---- over a block, from its counts

pub over_plain : (bytes rest : List ℕ) (s : Bool) (depth opened closed quotes less most : ℕ) → not s ≡ true → opened ≡ count_by opens bytes → closed ≡ count_by closes bytes
    → quotes ≡ count_by (λ b. b == 34) bytes → quotes ≡ 0 → most ≡ depth + opened → most ≤ 8 → less ≡ depth - closed
    → fits (opened + less) rest ≡ true → fits_from s depth (bytes ++ rest) ≡ true
over_plain bytes rest true depth opened closed quotes less most outside o c q none sum few_open down h = absurd (cc)
over_plain bytes rest false depth opened closed quotes less most outside o c q none sum few_open down h =
    let same : opened + less ≡ count_by opens bytes + (depth - count_by closes bytes) = omega (arith, o, c, down) in
    block_passed bytes rest depth (omega (arith, o, sum, few_open)) (omega (arith, q, none)) (subst (λ n. fits n rest ≡ true) same h)

pub over_quotes : (bytes rest : List ℕ) (s : Bool) (depth opened quotes backslashes most : ℕ) (after : Bool) → opened ≡ count_by opens bytes
    → quotes ≡ count_by (λ b. b == 34) bytes → backslashes ≡ count_by (λ b. b == 92) bytes → backslashes ≤ 0 → most ≡ depth + opened → most ≤ 8 → after ≡ turned quotes s
    → fits_from after most rest ≡ true → fits_from s depth (bytes ++ rest) ≡ true
over_quotes bytes rest s depth opened quotes backslashes most after o q b none sum few_open is_after h =
    quoted_block_passed bytes rest s depth (omega (arith, o, sum, few_open)) (omega (arith, b, none))
    (moved rest s quotes (count_by (λ byte. byte == 34) bytes) (depth + count_by opens bytes) most q (omega (arith, o, sum)) (subst (λ t. fits_from t most rest ≡ true) is_after h))
