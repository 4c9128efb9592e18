-- What is told of a line that is no JSON value, by its bytes, is true of them.
use Rattle.std.proofs.Common.{◌≡◌, ℕ, ◌+◌, ◌&&◌, List, [], ◌∷◌, Bool, true, false, not, cond, Option, Some, None, refl, ap, sym, ◌∙◌, nat_lt}
use Rattle.std.specs.Bool.{⊤}
use Rattle.std.specs.Str.{IsUtf8, is_utf8}
use Rattle.std.specs.Str.Lossy.{utf8_valid_len}
use Rattle.std.proofs.lemmas.Str.{IsUtf8-from_is_utf8, is_utf8-from_IsUtf8}
use Rattle.script_text.specs.declared.causes.Cause.{Cause}
use Rattle.script_text.specs.declared.causes.Cause.TheVariants.{TooDeep, NotUtf8, NoJsonAt, EndsInString, EndsInValue, NumberTooLarge, NotJson}
use Rattle.script_text.specs.declared.causes.mistakes.Look.{Look}
use Rattle.script_text.specs.declared.causes.line_states.LineState.{LineState}
use Rattle.script_text.specs.declared.causes.line_states.LineState.TheVariants.{Outside, InWord, InNumber, InString, InEscape}
use Rattle.script_text.specs.declared.causes.mistakes.Mistake.{Mistake}
use Rattle.script_text.specs.Nesting.{is_shallow}
use Rattle.script_text.specs.Mistakes.{behind, mistake_at, ending_by, ending, told_at, broken_from, mistake_cause, at_start}
use Rattle.script_text.specs.LargeNumbers.{starts_number, is_too_large, large_from, or_number, broken_cause}
use Rattle.script_text.specs.Causes.{is_too_deep, text_cause}

-- ---- the code

by_tests : (text shallow : Bool) (deep broken no_text : Cause) → text ≡ true → shallow ≡ true → broken ≡ cond (text && not shallow) deep (cond text broken no_text)
by_tests true true deep broken no_text e f = refl
by_tests true false deep broken no_text e f = absurd (cc)
by_tests false shallow deep broken no_text e f = absurd (cc)

pub broken-text : (line : List ℕ) (shallow : Bool) → IsUtf8 line → shallow ≡ is_shallow line → shallow ≡ true → broken_cause line ≡ text_cause line
broken-text line shallow text same whole =
    by_tests (is_utf8 line) (is_shallow line) TooDeep (broken_cause line) (NotUtf8 (utf8_valid_len line + 1)) (is_utf8-from_IsUtf8 line text) (sym same ∙ whole)

pub deep-text : (line : List ℕ) (shallow : Bool) → IsUtf8 line → shallow ≡ is_shallow line → shallow ≡ false → TooDeep ≡ text_cause line
deep-text line shallow text same deep = by_deep (is_utf8 line) (is_shallow line) (is_utf8-from_IsUtf8 line text) (sym same ∙ deep)
  where
    by_deep : (text shallow : Bool) → text ≡ true → shallow ≡ false → TooDeep ≡ cond (text && not shallow) TooDeep (cond text (broken_cause line) (NotUtf8 (utf8_valid_len line + 1)))
    by_deep true false e f = refl
    by_deep true true e f = absurd (cc)
    by_deep false shallow e f = absurd (cc)

pub no-text : (line : List ℕ) (n : ℕ) → (IsUtf8 line → ⊥) → n ≡ utf8_valid_len line → NotUtf8 (n + 1) ≡ text_cause line
no-text line n none same = by_text (is_utf8 line) refl
  where
    by_text : (text : Bool) → is_utf8 line ≡ text → NotUtf8 (n + 1) ≡ cond (text && not (is_shallow line)) TooDeep (cond text (broken_cause line) (NotUtf8 (utf8_valid_len line + 1)))
    by_text true e = absurd (none (IsUtf8-from_is_utf8 line e))
    by_text false e = ap (λ m. NotUtf8 (m + 1)) same

-- ---- what is told of the bytes of a line in UTF-8

-- a cause of a line whose bytes were looked at
abbrev pub IsBroken : Cause → Type 0
IsBroken (NoJsonAt place mistake) = ⊤
IsBroken EndsInString = ⊤
IsBroken EndsInValue = ⊤
IsBroken (NumberTooLarge place) = ⊤
IsBroken NotJson = ⊤
IsBroken found = ⊥

broken-ending : (look : Look) → IsBroken (ending look)
broken-ending look = by_standing look.standing look.depth
  where
    by_depth : (some : Bool) → IsBroken (cond some EndsInValue NotJson)
    by_depth true = tt
    by_depth false = tt

    by_standing : (standing : LineState) (depth : ℕ) → IsBroken (ending_by standing depth)
    by_standing Outside depth = by_depth (nat_lt 0 depth)
    by_standing InWord depth = by_depth (nat_lt 0 depth)
    by_standing (InNumber seen) depth = by_depth (nat_lt 0 depth)
    by_standing InString depth = tt
    by_standing (InEscape seen) depth = tt

broken-from : (look : Look) (before : ℕ) (bytes : List ℕ) → IsBroken (broken_from look before bytes)
broken-from look before [] = broken-ending look
broken-from look before (byte ∷ bytes) = by_mistake (mistake_at look byte) (broken-from (behind look byte) (before + 1) bytes)
  where
    by_mistake : (found : Option Mistake) → IsBroken (broken_from (behind look byte) (before + 1) bytes) → IsBroken (told_at found (before + 1) (broken_from (behind look byte) (before + 1) bytes))
    by_mistake None later = later
    by_mistake (Some mistake) later = tt

large-is : (look : Look) (before : ℕ) (bytes : List ℕ) → IsBroken (large_from look before bytes)
large-is look before [] = tt
large-is look before (byte ∷ bytes) = by_test (starts_number look.standing byte && is_too_large (byte ∷ bytes)) (large-is (behind look byte) (before + 1) bytes)
  where
    by_test : (b : Bool) → IsBroken (large_from (behind look byte) (before + 1) bytes) → IsBroken (cond b (NumberTooLarge (before + 1)) (large_from (behind look byte) (before + 1) bytes))
    by_test true later = tt
    by_test false later = later

or-broken : (line : List ℕ) (found : Cause) → IsBroken found → IsBroken (or_number found line)
or-broken line NotJson h = large-is at_start 0 line
or-broken line (NoJsonAt place mistake) h = h
or-broken line EndsInString h = h
or-broken line EndsInValue h = h
or-broken line (NumberTooLarge place) h = h
or-broken line found h = absurd h

pub broken-is : (line : List ℕ) → IsBroken (broken_cause line)
broken-is line = or-broken line (mistake_cause line) (broken-from at_start 0 line)

-- what is told of the text of a line: it nests too deep, or is broken or not in UTF-8
pub text-causes : (P : Cause → Type 0) (line : List ℕ) → (is_too_deep line ≡ true → P TooDeep) → (is_too_deep line ≡ false → is_utf8 line ≡ true → P (broken_cause line))
    → (is_utf8 line ≡ false → P (NotUtf8 (utf8_valid_len line + 1))) → P (text_cause line)
text-causes P line deep broken no_text = by_deep (is_too_deep line) refl (is_utf8 line) refl
  where
    by_deep : (b : Bool) → is_too_deep line ≡ b → (text : Bool) → is_utf8 line ≡ text → P (cond b TooDeep (cond text (broken_cause line) (NotUtf8 (utf8_valid_len line + 1))))
    by_deep true is text e = deep is
    by_deep false is true e = broken is e
    by_deep false is false e = no_text e
