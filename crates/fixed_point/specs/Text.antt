-- Fixed-point text: an optional `-`, then one to five digits, then perhaps a point and one to sixteen digits.
-- The first digit is 0 only where it is the only one before the point. Texts are lists of ASCII bytes.
use Rattle.std.specs.Prelude.{◌≡◌, ◌≢◌, ◌-◌, ℕ, zero, suc, ◌+◌, ◌*◌, ◌/◌, ◌%◌, ◌^◌, Bool, true, not, ◌&&◌, ◌||◌, List, [], ◌∷◌, ◌++◌, length, drop, take_while, Option, Some, None, ℤ, pos, neg_ℤ, unsigned_abs, ◌==◌, nat_le, slice_index, if◌then◌else◌, decimal}
use Rattle.std.specs.Char.{is_ascii_digit}
use Rattle.std.specs.Int.{is_negative}
use Rattle.std.specs.Str.{all_ascii_digits}
use Rattle.std.specs.Str.Parse.{digits_value, starts_with_minus}
use Rattle.fixed_point.specs.Raw.{is_in_range}

-- ---- reading

-- the text after its sign
abbrev pub unsigned_text : List ℕ → List ℕ
unsigned_text text = if starts_with_minus text then drop 1 text else text

-- the digits at the front of an unsigned text: its whole part
abbrev pub whole_digits : List ℕ → List ℕ
whole_digits unsigned = take_while is_ascii_digit unsigned

-- what follows them: nothing, or the point and what stands after it
abbrev pub from_point : List ℕ → List ℕ
from_point unsigned = drop (length (whole_digits unsigned)) unsigned

-- what stands after the point
abbrev pub decimals : List ℕ → List ℕ
decimals unsigned = drop 1 (from_point unsigned)

-- one digit or more, but at most `most`
abbrev pub is_digits : ℕ → List ℕ → Bool
is_digits most text = all_ascii_digits text && nat_le 1 (length text) && nat_le (length text) most

-- one to five digits without a leading zero (48), or the single digit 0
abbrev pub is_whole_part : List ℕ → Bool
is_whole_part text = is_digits 5 text && (length text == 1 || not (slice_index text 0 == 48))

-- nothing, or a point (46) with one to sixteen digits after it
abbrev pub is_fraction_part : List ℕ → Bool
is_fraction_part [] = true
is_fraction_part (first ∷ rest) = first == 46 && is_digits 16 rest

-- a whole part, and perhaps a fraction part after it
abbrev pub is_magnitude : List ℕ → Bool
is_magnitude unsigned = is_whole_part (whole_digits unsigned) && is_fraction_part (from_point unsigned)

-- the text is in the grammar: perhaps a sign, and a magnitude
unfoldable pub is_fixed_text : List ℕ → Bool
is_fixed_text text = is_magnitude (unsigned_text text)

-- the magnitude that digits before and after the point write, as a raw number that is cut towards zero
abbrev pub cut : List ℕ → List ℕ → ℕ
cut whole fraction = let places = length fraction in
    (digits_value 10 whole * 10 ^ places + digits_value 10 fraction) * 65536 / 10 ^ places

-- the magnitude of an unsigned text in the grammar
abbrev pub magnitude_of : List ℕ → ℕ
magnitude_of unsigned = cut (whole_digits unsigned) (decimals unsigned)

-- a magnitude with the sign before it
abbrev pub signed : Bool → ℕ → ℤ
signed negative magnitude = if negative then neg_ℤ (pos magnitude) else pos magnitude

-- the raw number of a text in the grammar
abbrev pub raw_of : List ℕ → ℤ
raw_of text = signed (starts_with_minus text) (magnitude_of (unsigned_text text))

-- a value where the test holds, and else none
abbrev pub some_if : {T : Type 0} → Bool → T → Option T
some_if test value = if test then Some value else None

-- the value of a fixed-point text, as a raw number: a text in the grammar has one where its raw number is in range
unfoldable pub fixed_value : List ℕ → Option ℤ
fixed_value text = some_if (is_fixed_text text && is_in_range (raw_of text)) (raw_of text)

-- ---- writing

-- the exact decimal digits of n/65536 by long division, at most `most` of them and none after the last that is not 0
abbrev pub fraction_digits : ℕ → ℕ → List ℕ
fraction_digits zero n = []
fraction_digits (suc most) n =
    if n == 0 then [] else (48 + n * 10 / 65536) ∷ fraction_digits most (n * 10 % 65536)

-- nothing for no fraction, and else a point and the digits of n/65536, of which there are at most sixteen
abbrev pub fraction_text : ℕ → List ℕ
fraction_text n = if n == 0 then [] else 46 ∷ fraction_digits 16 n

-- the canonical text of a raw number: `-` where it is negative, the whole part of its magnitude, and its fraction
unfoldable pub fixed_text : ℤ → List ℕ
fixed_text raw = let magnitude = unsigned_abs raw in
    (if is_negative raw then 45 ∷ [] else []) ++ decimal (magnitude / 65536) ++ fraction_text (magnitude % 65536)

-- the text writes a raw number's magnitude exactly: its digits over ten to the places are the magnitude over 65536
abbrev pub WritesExactly : ℤ → List ℕ → Type 0
WritesExactly raw text = let unsigned = unsigned_text text in let fraction = decimals unsigned in
    (digits_value 10 (whole_digits unsigned) * 10 ^ length fraction + digits_value 10 fraction) * 65536
    ≡ unsigned_abs raw * 10 ^ length fraction

-- the last digit, where there is one, is not 0 (48)
abbrev pub EndsInNoZero : List ℕ → Type 0
EndsInNoZero digits = digits ≢ [] → slice_index digits (length digits - 1) ≢ 48
