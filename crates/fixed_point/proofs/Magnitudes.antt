-- The magnitude of an unsigned text from its two parts.
use Rattle.std.proofs.Common.{◌≡◌, ℕ, ◌+◌, ◌*◌, ◌^◌, Bool, true, false, ◌&&◌, List, length, take, drop, Some, sym, ap, ◌∙◌, arith, length-take}
use Rattle.std.proofs.lemmas.List.Sums.{prefix_len-le-length}
use Rattle.std.specs.Char.{is_ascii_digit}
use Rattle.std.specs.List.{prefix_len}
use Rattle.std.specs.Str.Parse.{digits_value}
use Rattle.fixed_point.specs.Text.{some_if, whole_digits, from_point, is_whole_part, is_fraction_part, is_magnitude, magnitude_of, cut}
use Rattle.fixed_point.specs.inner.Decimals.{raw_decimals}
use Rattle.fixed_point.proofs.Decimals.{cut_is, tens}

-- the two parts make a magnitude where both are there
pub both_parts : (first second : Bool) (v u w f m : ℕ) → Some w ≡ some_if first v → Some f ≡ some_if second u → m ≡ v * 65536 + u
    → Some (w * 65536 + f) ≡ some_if (first && second) m
both_parts true true v u w f m whole fraction sum =
    let same_whole : w ≡ v = cc in
    let same_fraction : f ≡ u = cc in
    let same : w * 65536 + f ≡ m = omega arith in
    cc
both_parts true false v u w f m whole fraction sum = cc
both_parts false second v u w f m whole fraction sum = cc

-- what follows the digits stands right after them
pub from_point_is : (text : List ℕ) → from_point text ≡ drop (prefix_len is_ascii_digit text) text
from_point_is text =
    let inside = prefix_len-le-length is_ascii_digit text in
    let len : length (whole_digits text) ≡ prefix_len is_ascii_digit text = omega (arith, length-take {A = ℕ}) in
    ap (λ n. drop n text) len

pub magnitude_is : (text whole rest : List ℕ) (n w f : ℕ) → n ≡ prefix_len is_ascii_digit text → whole ≡ take n text → rest ≡ drop n text
    → Some w ≡ some_if (is_whole_part whole) (digits_value 10 whole) → Some f ≡ some_if (is_fraction_part rest) (raw_decimals (drop 1 rest))
    → Some (w * 65536 + f) ≡ some_if (is_magnitude text) (magnitude_of text)
magnitude_is text whole rest n w f count front back whole_value rest_value =
    let front_is : whole ≡ whole_digits text = front ∙ ap (λ k. take k text) count in
    let back_is : rest ≡ from_point text = back ∙ ap (λ k. drop k text) count ∙ sym (from_point_is text) in
    let digits = drop 1 rest in
    let joined = cut_is (digits_value 10 whole) (digits_value 10 digits) (10 ^ length digits) (tens (length digits)) in
    both_parts (is_whole_part whole) (is_fraction_part rest) (digits_value 10 whole) (raw_decimals digits) w f (cut whole digits)
    whole_value rest_value joined
    ∙ ap (λ p. some_if (is_whole_part p && is_fraction_part rest) (cut p (drop 1 rest))) front_is
    ∙ ap (λ p. some_if (is_whole_part (whole_digits text) && is_fraction_part p) (cut (whole_digits text) (drop 1 p))) back_is
