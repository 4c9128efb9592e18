-- What a cause says of the bytes of a line without a reading is true of them.
use Rattle.std.proofs.Common.{◌≡◌, ◌≢◌, ℕ, zero, suc, ◌+◌, ◌<◌, ◌≤◌, ◌&&◌, ◌||◌, ◌==◌, List, [], ◌∷◌, ◌++◌, length, take, Bool, true, false, not, cond, Option, Some, None, refl, ap, sym, subst, ◌∙◌, arith, nat_lt}
use Rattle.std.specs.Str.{IsUtf8, is_utf8, IsValidUpTo}
use Rattle.std.specs.Str.Lossy.{valid_len_up_to, utf8_valid_len}
use Rattle.std.proofs.lemmas.Bool.{false≢true, ltb-true, ltb-false}
use Rattle.std.proofs.lemmas.Bool.Decides.{Decides-eqb}
use Rattle.std.proofs.lemmas.List.{take_all}
use Rattle.std.proofs.lemmas.Str.{IsUtf8-from_is_utf8, is_utf8-from_IsUtf8, utf8_valid_len_le}
use Rattle.json.specs.Word.{is_space}
use Rattle.script_text.specs.declared.parts.Part.{Part}
use Rattle.script_text.specs.declared.causes.Cause.{Cause}
use Rattle.script_text.specs.declared.causes.Cause.TheVariants.{BlankLine, ByteOrderMark, NoJsonAt, EndsInString, EndsInValue, NumberTooLarge, NotJson}
use Rattle.script_text.specs.declared.causes.mistakes.Look.{Look}
use Rattle.script_text.specs.declared.causes.line_states.LineState.{LineState}
use Rattle.script_text.specs.declared.causes.line_states.LineState.TheVariants.{Outside, InWord, InNumber, InString, InEscape}
use Rattle.script_text.specs.declared.causes.line_states.NumberState.{NumberState}
use Rattle.script_text.specs.declared.causes.line_states.NumberState.TheVariants.{BehindMinus, BehindZero}
use Rattle.script_text.specs.declared.causes.line_states.EscapeState.{EscapeState}
use Rattle.script_text.specs.declared.causes.line_states.EscapeState.TheVariants.{Begun, Code, CodeD, Digits, FirstHalf, Pair, PairBackslash, PairCode, PairCodeD}
use Rattle.script_text.specs.declared.causes.mistakes.Mistake.{Mistake}
use Rattle.script_text.specs.declared.causes.mistakes.Mistake.TheVariants.{Comment, SingleQuote, NoNumber, NumberStart, LeadingZero, WrongNumber, BareWord, Control, HexDigit, HalfPair, TrailingComma, WrongBracket, MissingComma, NoKey, NumberAsKey, NoColon, StrayColon, NoValue, BehindValue}
use Rattle.script_text.specs.Nesting.{closes}
use Rattle.script_text.specs.Script.{reading_of}
use Rattle.script_text.specs.Causes.{is_blank, has_mark, text_cause, unread_cause, reading_cause, cause}
use Rattle.script_text.specs.LineStates.{is_digit, is_of_number, is_of_word, is_escape, is_hex, is_d, number_behind, is_number, hex_from, digits_behind, half_behind, escape_behind}
use Rattle.script_text.specs.Mistakes.{at_start, behind, look_from, mistake_by, mistake_at, mistake_outside, comma_mistake, colon_mistake, is_mismatch, closing_mistake, key_mistake, value_mistake, innermost, wants_key, ends_key, strange_byte, begins_value, ends_value, is_control, wrong_number, number_mistake, wrong_escape, escape_mistake, ending_by, told_at, broken_from, mistake_cause}
use Rattle.script_text.specs.LargeNumbers.{starts_number, is_too_large, large_from, or_number}
use Rattle.script_text.specs.TrueBytes.{HasNoMistake, HasNoLargeNumber, IsOutside, Says, IsInString, IsTrueOfBytes}
use Rattle.script_text.proofs.BrokenLines.{text-causes}

-- ---- one byte

says : (found mistake : Mistake) (look : Look) (byte : ℕ) → Some found ≡ Some mistake → Says found look byte → Says mistake look byte
says found mistake look byte e is = let same : found ≡ mistake = cc in subst (λ m. Says m look byte) same is

comma-begins : (byte : ℕ) → byte ≡ 44 → begins_value byte ≡ false
comma-begins byte e = ap begins_value e

closing-begins : (byte : ℕ) → closes byte ≡ true → begins_value byte ≡ false
closing-begins byte e = by_byte (byte == 93) refl (byte == 125) refl e
  where
    by_byte : (a : Bool) → (byte == 93) ≡ a → (b : Bool) → (byte == 125) ≡ b → (a || b) ≡ true → begins_value byte ≡ false
    by_byte true is b other h = ap begins_value ((Decides-eqb byte 93).0 is)
    by_byte false nay true is h = ap begins_value ((Decides-eqb byte 125).0 is)
    by_byte false nay false other h = absurd (cc)

comma-says : (look : Look) (byte : ℕ) (mistake : Mistake) → IsOutside look.standing → is_space byte ≡ false → byte ≡ 44 → comma_mistake look ≡ Some mistake → Says mistake look byte
comma-says look byte mistake out no_space is e = by_tests (ends_value look.last) refl (look.depth == 0) refl (ends_key look) refl e
  where
    by_tests : (a : Bool) → ends_value look.last ≡ a → (b : Bool) → (look.depth == 0) ≡ b → (k : Bool) → ends_key look ≡ k
        → cond (not a) (Some NoValue) (cond b (Some BehindValue) (cond k (Some NoColon) None)) ≡ Some mistake → Says mistake look byte
    by_tests false ends b depth k key h = says NoValue mistake look byte h (out, comma-begins byte is, ends)
    by_tests true ends true depth k key h = says BehindValue mistake look byte h (out, no_space, ends, (Decides-eqb look.depth 0).0 depth)
    by_tests true ends false depth true key h = says NoColon mistake look byte h (out, ap (λ b. b == 44 || closes b) is, key)
    by_tests true ends false depth false key h = absurd (cc)

colon-says : (look : Look) (byte : ℕ) (mistake : Mistake) → IsOutside look.standing → is_space byte ≡ false → byte ≡ 58 → colon_mistake look ≡ Some mistake → Says mistake look byte
colon-says look byte mistake out no_space is e = by_tests (ends_value look.last) refl (look.depth == 0) refl (ends_key look) refl e
  where
    by_quote : (c : Bool) → ends_key look ≡ c → cond (not c) (Some StrayColon) None ≡ Some mistake → Says mistake look byte
    by_quote true quote h = absurd (cc)
    by_quote false quote h = says StrayColon mistake look byte h (out, is, quote)

    by_tests : (a : Bool) → ends_value look.last ≡ a → (b : Bool) → (look.depth == 0) ≡ b → (c : Bool) → ends_key look ≡ c
        → cond (a && b) (Some BehindValue) (cond (not c) (Some StrayColon) None) ≡ Some mistake → Says mistake look byte
    by_tests true ends true depth c quote h = says BehindValue mistake look byte h (out, no_space, ends, (Decides-eqb look.depth 0).0 depth)
    by_tests true ends false depth c quote h = by_quote c quote h
    by_tests false ends b depth c quote h = by_quote c quote h

closing-says : (look : Look) (byte : ℕ) (mistake : Mistake) → IsOutside look.standing → is_space byte ≡ false → closes byte ≡ true → closing_mistake look byte ≡ Some mistake → Says mistake look byte
closing-says look byte mistake out no_space is e = by_tests (look.depth == 0) refl (ends_value look.last) refl (look.last == 44) refl (look.last == 58) refl e
  where
    either-true : (a b : Bool) → b ≡ true → (a || b) ≡ true
    either-true true b h = refl
    either-true false b h = h

    by_bracket : (w : Bool) → is_mismatch (innermost look) byte ≡ w → cond w (Some WrongBracket) None ≡ Some mistake → Says mistake look byte
    by_bracket true wrong h = says WrongBracket mistake look byte h (out, wrong)
    by_bracket false right h = absurd (cc)

    by_key : (k : Bool) → ends_key look ≡ k → cond k (Some NoColon) (cond (is_mismatch (innermost look) byte) (Some WrongBracket) None) ≡ Some mistake → Says mistake look byte
    by_key true key h = says NoColon mistake look byte h (out, either-true (byte == 44) (closes byte) is, key)
    by_key false key h = by_bracket (is_mismatch (innermost look) byte) refl h

    by_tests : (b : Bool) → (look.depth == 0) ≡ b → (a : Bool) → ends_value look.last ≡ a → (c : Bool) → (look.last == 44) ≡ c → (f : Bool) → (look.last == 58) ≡ f
        → cond b (Some (cond a BehindValue NoValue)) (cond c (Some TrailingComma) (cond f (Some NoValue) (cond (ends_key look) (Some NoColon)
        (cond (is_mismatch (innermost look) byte) (Some WrongBracket) None)))) ≡ Some mistake → Says mistake look byte
    by_tests true depth true ends c comma f colon h = says BehindValue mistake look byte h (out, no_space, ends, (Decides-eqb look.depth 0).0 depth)
    by_tests true depth false ends c comma f colon h = says NoValue mistake look byte h (out, closing-begins byte is, ends)
    by_tests false depth a ends true comma f colon h = says TrailingComma mistake look byte h (out, is, (Decides-eqb look.last 44).0 comma)
    by_tests false depth a ends false comma true colon h = says NoValue mistake look byte h (out, closing-begins byte is, ap ends_value ((Decides-eqb look.last 58).0 colon))
    by_tests false depth a ends false comma false colon h = by_key (ends_key look) refl h

some-open : (depth : ℕ) → (depth == 0) ≡ false → 0 < depth
some-open zero h = absurd (cc)
some-open (suc n) h = omega arith

key-says : (look : Look) (byte : ℕ) (mistake : Mistake) → IsOutside look.standing → begins_value byte ≡ true → key_mistake look byte ≡ Some mistake → Says mistake look byte
key-says look byte mistake out is e = by_tests (byte == 34) refl (wants_key look) refl (is_digit byte) refl (look.last == 44) refl e
  where
    by_tests : (q : Bool) → (byte == 34) ≡ q → (k : Bool) → wants_key look ≡ k → (d : Bool) → is_digit byte ≡ d → (c : Bool) → (look.last == 44) ≡ c
        → cond (q || not k) None (Some (cond (d && c) NumberAsKey NoKey)) ≡ Some mistake → Says mistake look byte
    by_tests true quote k key d digit c comma h = absurd (cc)
    by_tests false quote false key d digit c comma h = absurd (cc)
    by_tests false quote true key true digit true comma h = says NumberAsKey mistake look byte h (out, digit, (Decides-eqb look.last 44).0 comma, key)
    by_tests false quote true key true digit false comma h = says NoKey mistake look byte h (out, is, quote, key)
    by_tests false quote true key false digit c comma h = says NoKey mistake look byte h (out, is, quote, key)

value-says : (look : Look) (byte : ℕ) (mistake : Mistake) → IsOutside look.standing → is_space byte ≡ false → begins_value byte ≡ true → value_mistake look byte ≡ Some mistake → Says mistake look byte
value-says look byte mistake out no_space is e = by_tests (ends_value look.last) refl (look.depth == 0) refl e
  where
    by_tests : (a : Bool) → ends_value look.last ≡ a → (b : Bool) → (look.depth == 0) ≡ b → cond (not a) (key_mistake look byte) (cond b (Some BehindValue) (Some MissingComma)) ≡ Some mistake → Says mistake look byte
    by_tests false ends b depth h = key-says look byte mistake out is h
    by_tests true ends true depth h = says BehindValue mistake look byte h (out, no_space, ends, (Decides-eqb look.depth 0).0 depth)
    by_tests true ends false depth h = says MissingComma mistake look byte h (out, is, ends, some-open look.depth depth)

strange-says : (look : Look) (byte : ℕ) → IsOutside look.standing → begins_value byte ≡ false → closes byte ≡ false → is_space byte ≡ false → Says (strange_byte byte) look byte
strange-says look byte out no_value no_close no_space =
    by_tests (is_control byte) refl (byte == 47 || byte == 35) refl (byte == 39) refl (byte == 78 || byte == 73) refl (byte == 43 || byte == 46) refl
  where
    by_tests : (k : Bool) → is_control byte ≡ k → (c : Bool) → (byte == 47 || byte == 35) ≡ c → (q : Bool) → (byte == 39) ≡ q → (n : Bool) → (byte == 78 || byte == 73) ≡ n
        → (s : Bool) → (byte == 43 || byte == 46) ≡ s → Says (cond k Control (cond c Comment (cond q SingleQuote (cond n NoNumber (cond s NumberStart BareWord))))) look byte
    by_tests true is c ec q eq n en s es = is
    by_tests false nay true is q eq n en s es = (out, is)
    by_tests false nay false nc true is n en s es = (out, (Decides-eqb byte 39).0 is)
    by_tests false nay false nc false nq true is s es = (out, is)
    by_tests false nay false nc false nq false nn true is = (out, is)
    by_tests false nay false nc false nq false nn false ns = (out, no_value, no_close, no_space)

outside-says : (look : Look) (byte : ℕ) (mistake : Mistake) → IsOutside look.standing → mistake_outside look byte ≡ Some mistake → Says mistake look byte
outside-says look byte mistake out e = by_tests (is_space byte) refl (byte == 44) refl (byte == 58) refl (closes byte) refl (begins_value byte) refl e
  where
    by_tests : (w : Bool) → is_space byte ≡ w → (c : Bool) → (byte == 44) ≡ c → (f : Bool) → (byte == 58) ≡ f → (s : Bool) → closes byte ≡ s → (v : Bool) → begins_value byte ≡ v
        → cond w None (cond c (comma_mistake look) (cond f (colon_mistake look) (cond s (closing_mistake look byte) (cond v (value_mistake look byte) (Some (strange_byte byte)))))) ≡ Some mistake
        → Says mistake look byte
    by_tests true space c comma f colon s close v value h = absurd (cc)
    by_tests false space true comma f colon s close v value h = comma-says look byte mistake out space ((Decides-eqb byte 44).0 comma) h
    by_tests false space false comma true colon s close v value h = colon-says look byte mistake out space ((Decides-eqb byte 58).0 colon) h
    by_tests false space false comma false colon true close v value h = closing-says look byte mistake out space close h
    by_tests false space false comma false colon false close true value h = value-says look byte mistake out space value h
    by_tests false space false comma false colon false close false value h = says (strange_byte byte) mistake look byte h (strange-says look byte out value close space)

-- ---- a byte in a number or an escape

wrong-number : (look : Look) (byte : ℕ) (seen : NumberState) → look.standing ≡ InNumber seen → number_behind seen byte ≡ None
    → (is_of_number byte || not (is_number seen)) ≡ true → Says (wrong_number seen byte) look byte
wrong-number look byte BehindZero at stops is = by_digit (is_digit byte) refl
  where
    by_digit : (b : Bool) → is_digit byte ≡ b → Says (cond b LeadingZero WrongNumber) look byte
    by_digit true digit = (at, digit)
    by_digit false other = (BehindZero, at, stops, is)
wrong-number look byte BehindMinus at stops is = by_word (byte == 78 || byte == 73) refl
  where
    by_word : (b : Bool) → (byte == 78 || byte == 73) ≡ b → Says (cond b NoNumber WrongNumber) look byte
    by_word true word = (subst IsOutside (sym at) tt, word)
    by_word false other = (BehindMinus, at, stops, is)
wrong-number look byte seen at stops is = (seen, at, stops, is)

number-says : (look : Look) (byte : ℕ) (mistake : Mistake) (seen : NumberState) → look.standing ≡ InNumber seen
    → number_mistake seen (number_behind seen byte) look byte ≡ Some mistake → Says mistake look byte
number-says look byte mistake seen at e = by_next (number_behind seen byte) refl e
  where
    by_test : number_behind seen byte ≡ None → (b : Bool) → (is_of_number byte || not (is_number seen)) ≡ b
        → cond b (Some (wrong_number seen byte)) (mistake_outside look byte) ≡ Some mistake → Says mistake look byte
    by_test stops true is h = says (wrong_number seen byte) mistake look byte h (wrong-number look byte seen at stops is)
    by_test stops false nay h = outside-says look byte mistake (subst IsOutside (sym at) tt) h

    by_next : (next : Option NumberState) → number_behind seen byte ≡ next → number_mistake seen next look byte ≡ Some mistake → Says mistake look byte
    by_next (Some next) goes h = absurd (cc)
    by_next None stops h = by_test stops (is_of_number byte || not (is_number seen)) refl h

no-hex : (next : LineState) (byte : ℕ) → hex_from next byte ≡ None → is_hex byte ≡ false
no-hex next byte stops = by_digit (is_hex byte) refl stops
  where
    by_digit : (b : Bool) → is_hex byte ≡ b → cond b (Some next) None ≡ None → is_hex byte ≡ false
    by_digit true digit h = absurd (cc)
    by_digit false other h = other

no-code : (byte : ℕ) → escape_behind Code byte ≡ None → is_hex byte ≡ false
no-code byte stops = by_d (is_d byte) stops
  where
    by_d : (b : Bool) → cond b (Some (InEscape CodeD)) (hex_from (InEscape (Digits 3)) byte) ≡ None → is_hex byte ≡ false
    by_d true h = absurd (cc)
    by_d false h = no-hex (InEscape (Digits 3)) byte h

no-escape : (byte : ℕ) → escape_behind Begun byte ≡ None → is_escape byte ≡ false
no-escape byte stops = by_tests (byte == 117) (is_escape byte) refl stops
  where
    by_tests : (u b : Bool) → is_escape byte ≡ b → cond u (Some (InEscape Code)) (cond b (Some InString) None) ≡ None → is_escape byte ≡ false
    by_tests true b is h = absurd (cc)
    by_tests false true is h = absurd (cc)
    by_tests false false is h = is

wrong-escape : (look : Look) (byte : ℕ) (seen : EscapeState) → look.standing ≡ InEscape seen → escape_behind seen byte ≡ None → Says (wrong_escape seen byte) look byte
wrong-escape look byte Begun at stops = (at, no-escape byte stops)
wrong-escape look byte Code at stops = (Code, at, tt, no-code byte stops)
wrong-escape look byte CodeD at stops = by_digit (is_hex byte) refl
  where
    by_digit : (b : Bool) → is_hex byte ≡ b → Says (cond b HalfPair HexDigit) look byte
    by_digit true digit = (CodeD, at, tt, stops)
    by_digit false other = (CodeD, at, tt, other)
wrong-escape look byte (Digits left) at stops = (Digits left, at, tt, no-hex (digits_behind left) byte stops)
wrong-escape look byte (FirstHalf left) at stops = (FirstHalf left, at, tt, no-hex (half_behind left) byte stops)
wrong-escape look byte Pair at stops = (Pair, at, tt, stops)
wrong-escape look byte PairBackslash at stops = (PairBackslash, at, tt, stops)
wrong-escape look byte PairCode at stops = (PairCode, at, tt, stops)
wrong-escape look byte PairCodeD at stops = (PairCodeD, at, tt, stops)

escape-says : (look : Look) (byte : ℕ) (mistake : Mistake) (seen : EscapeState) → look.standing ≡ InEscape seen
    → escape_mistake seen (escape_behind seen byte) byte ≡ Some mistake → Says mistake look byte
escape-says look byte mistake seen at e = by_next (escape_behind seen byte) refl e
  where
    by_next : (next : Option LineState) → escape_behind seen byte ≡ next → escape_mistake seen next byte ≡ Some mistake → Says mistake look byte
    by_next (Some next) goes h = absurd (cc)
    by_next None stops h = says (wrong_escape seen byte) mistake look byte h (wrong-escape look byte seen at stops)

-- what is wrong with a byte is true of it
says-at : (look : Look) (byte : ℕ) (mistake : Mistake) → mistake_at look byte ≡ Some mistake → Says mistake look byte
says-at look byte mistake e = by_standing look.standing refl e
  where
    in_word : (b : Bool) → IsOutside look.standing → cond b None (mistake_outside look byte) ≡ Some mistake → Says mistake look byte
    in_word true out h = absurd (cc)
    in_word false out h = outside-says look byte mistake out h

    in_string : (b : Bool) → is_control byte ≡ b → cond b (Some Control) None ≡ Some mistake → Says mistake look byte
    in_string true is h = says Control mistake look byte h is
    in_string false is h = absurd (cc)

    by_standing : (standing : LineState) → look.standing ≡ standing → mistake_by standing look byte ≡ Some mistake → Says mistake look byte
    by_standing Outside at h = outside-says look byte mistake (subst IsOutside (sym at) tt) h
    by_standing InWord at h = in_word (is_of_word byte) (subst IsOutside (sym at) tt) h
    by_standing (InNumber seen) at h = number-says look byte mistake seen at h
    by_standing InString at h = in_string (is_control byte) refl h
    by_standing (InEscape seen) at h = escape-says look byte mistake seen at h

-- ---- the bytes of a line

-- what the cause of bytes says of them, behind what was seen of so many before
abbrev IsTrueFrom : Look → ℕ → List ℕ → Cause → Type 0
IsTrueFrom look k bytes (NoJsonAt place mistake) = (before : List ℕ) × (byte : ℕ) × (after : List ℕ) × (bytes ≡ before ++ byte ∷ after) × (place ≡ k + length before + 1)
    × HasNoMistake look before × Says mistake (look_from look before) byte
IsTrueFrom look k bytes EndsInString = HasNoMistake look bytes × IsInString (look_from look bytes).standing
IsTrueFrom look k bytes EndsInValue = HasNoMistake look bytes × (0 < (look_from look bytes).depth)
IsTrueFrom look k bytes NotJson = HasNoMistake look bytes
IsTrueFrom look k bytes found = ⊥

one-more : (look : Look) (k byte : ℕ) (bytes : List ℕ) → mistake_at look byte ≡ None → (found : Cause) → IsTrueFrom (behind look byte) (k + 1) bytes found → IsTrueFrom look k (byte ∷ bytes) found
one-more look k byte bytes right (NoJsonAt place mistake) (before, other, after, parts, placed, none, wrong) =
    (byte ∷ before, other, after, ap (λ l. byte ∷ l) parts, omega (arith, placed), (right, none), wrong)
one-more look k byte bytes right EndsInString h = ((right, h.0), h.1)
one-more look k byte bytes right EndsInValue h = ((right, h.0), h.1)
one-more look k byte bytes right NotJson h = (right, h)
one-more look k byte bytes right found h = absurd h

true-ending : (look : Look) (k : ℕ) → IsTrueFrom look k [] (ending_by look.standing look.depth)
true-ending look k = by_standing look.standing refl
  where
    by_depth : (b : Bool) → nat_lt 0 look.depth ≡ b → IsTrueFrom look k [] (cond b EndsInValue NotJson)
    by_depth true some = (tt, ltb-true 0 look.depth some)
    by_depth false none = tt

    by_standing : (standing : LineState) → look.standing ≡ standing → IsTrueFrom look k [] (ending_by standing look.depth)
    by_standing Outside at = by_depth (nat_lt 0 look.depth) refl
    by_standing InWord at = by_depth (nat_lt 0 look.depth) refl
    by_standing (InNumber seen) at = by_depth (nat_lt 0 look.depth) refl
    by_standing InString at = (tt, subst IsInString (sym at) tt)
    by_standing (InEscape seen) at = (tt, subst IsInString (sym at) tt)

true-from : (look : Look) (k : ℕ) (bytes : List ℕ) → IsTrueFrom look k bytes (broken_from look k bytes)
true-from look k [] = true-ending look k
true-from look k (byte ∷ bytes) = by_mistake (true-from (behind look byte) (k + 1) bytes) (mistake_at look byte) refl
  where
    by_mistake : IsTrueFrom (behind look byte) (k + 1) bytes (broken_from (behind look byte) (k + 1) bytes) → (found : Option Mistake) → mistake_at look byte ≡ found
        → IsTrueFrom look k (byte ∷ bytes) (told_at found (k + 1) (broken_from (behind look byte) (k + 1) bytes))
    by_mistake later None right = one-more look k byte bytes right (broken_from (behind look byte) (k + 1) bytes) later
    by_mistake later (Some mistake) wrong = ([], byte, bytes, refl, omega arith, tt, says-at look byte mistake wrong)

-- ---- numbers that are too large

-- what is told of the numbers among bytes, behind what was seen of so many before
abbrev IsLargeFrom : Look → ℕ → List ℕ → Cause → Type 0
IsLargeFrom look k bytes (NumberTooLarge place) = (before : List ℕ) × (byte : ℕ) × (after : List ℕ) × (bytes ≡ before ++ byte ∷ after) × (place ≡ k + length before + 1)
    × (starts_number (look_from look before).standing byte ≡ true) × (is_too_large (byte ∷ after) ≡ true)
IsLargeFrom look k bytes NotJson = HasNoLargeNumber look bytes
IsLargeFrom look k bytes found = ⊥

large-more : (look : Look) (k byte : ℕ) (bytes : List ℕ) (found : Cause) → (starts_number look.standing byte && is_too_large (byte ∷ bytes)) ≡ false → IsLargeFrom (behind look byte) (k + 1) bytes found → IsLargeFrom look k (byte ∷ bytes) found
large-more look k byte bytes (NumberTooLarge place) fits (before, other, after, parts, placed, starts, large) =
    (byte ∷ before, other, after, ap (λ l. byte ∷ l) parts, omega (arith, placed), starts, large)
large-more look k byte bytes NotJson fits h = (fits, h)
large-more look k byte bytes found fits h = absurd h

large-from : (look : Look) (k : ℕ) (bytes : List ℕ) → IsLargeFrom look k bytes (large_from look k bytes)
large-from look k [] = tt
large-from look k (byte ∷ bytes) = by_tests (large-from (behind look byte) (k + 1) bytes) (starts_number look.standing byte) refl (is_too_large (byte ∷ bytes)) refl
  where
    both : starts_number look.standing byte ≡ true → is_too_large (byte ∷ bytes) ≡ false → (starts_number look.standing byte && is_too_large (byte ∷ bytes)) ≡ false
    both starts fits = ap (λ s. s && is_too_large (byte ∷ bytes)) starts ∙ fits

    by_tests : IsLargeFrom (behind look byte) (k + 1) bytes (large_from (behind look byte) (k + 1) bytes) → (s : Bool) → starts_number look.standing byte ≡ s
        → (b : Bool) → is_too_large (byte ∷ bytes) ≡ b → IsLargeFrom look k (byte ∷ bytes) (cond (s && b) (NumberTooLarge (k + 1)) (large_from (behind look byte) (k + 1) bytes))
    by_tests later true starts true large = ([], byte, bytes, refl, omega arith, starts, large)
    by_tests later true starts false fits = large-more look k byte bytes (large_from (behind look byte) (k + 1) bytes) (both starts fits) later
    by_tests later false other b large = large-more look k byte bytes (large_from (behind look byte) (k + 1) bytes) (ap (λ s. s && is_too_large (byte ∷ bytes)) other) later

true-large : (line : List ℕ) (found : Cause) → HasNoMistake at_start line → IsLargeFrom at_start 0 line found → IsTrueOfBytes line found
true-large line (NumberTooLarge place) none (before, byte, after, parts, placed, starts, large) =
    (none, record { before = before; byte = byte; after = after; parts = parts; placed = omega (arith, placed); starts = starts; large = large })
true-large line NotJson none h = (none, h)
true-large line found none h = absurd h

-- ---- what is told of the bytes of a line

true-broken : (line : List ℕ) (found : Cause) → IsTrueFrom at_start 0 line found → IsTrueOfBytes line (or_number found line)
true-broken line (NoJsonAt place mistake) (before, byte, after, parts, placed, none, wrong) =
    record { before = before; byte = byte; after = after; parts = parts; placed = omega (arith, placed); none_before = none; wrong = wrong }
true-broken line EndsInString h = h
true-broken line EndsInValue h = h
true-broken line NotJson h = true-large line (large_from at_start 0 line) h (large-from at_start 0 line)
true-broken line found h = absurd h

-- ---- lines that are not in UTF-8

text-front : (bs : List ℕ) (m : ℕ) → IsUtf8 (take (valid_len_up_to bs m) bs)
text-front bs zero = ([], (refl, refl))
text-front bs (suc m) = by_test (text-front bs m) (is_utf8 (take (suc m) bs)) refl
  where
    by_test : IsUtf8 (take (valid_len_up_to bs m) bs) → (b : Bool) → is_utf8 (take (suc m) bs) ≡ b → IsUtf8 (take (cond b (suc m) (valid_len_up_to bs m)) bs)
    by_test shorter true e = IsUtf8-from_is_utf8 (take (suc m) bs) e
    by_test shorter false e = shorter

text-longest : (bs : List ℕ) (m k : ℕ) → valid_len_up_to bs m < k → k ≤ m → is_utf8 (take k bs) ≡ true → ⊥
text-longest bs zero k more within text = absurd (omega (arith, more, within))
text-longest bs (suc m) k more within text = by_test (λ less below. text-longest bs m k less below text) (is_utf8 (take (suc m) bs)) refl more
  where
    by_place : (valid_len_up_to bs m < k → k ≤ m → ⊥) → (b : Bool) → (k == suc m) ≡ b → is_utf8 (take (suc m) bs) ≡ false → valid_len_up_to bs m < k → ⊥
    by_place shorter true same nay less = false≢true (sym nay ∙ subst (λ n. is_utf8 (take n bs) ≡ true) ((Decides-eqb k (suc m)).0 same) text)
    by_place shorter false other nay less =
        let apart : k ≢ suc m = λ e. absurd (false≢true (sym other ∙ (Decides-eqb k (suc m)).1 e)) in
        shorter less (omega (arith, within, apart))

    by_test : (valid_len_up_to bs m < k → k ≤ m → ⊥) → (b : Bool) → is_utf8 (take (suc m) bs) ≡ b → cond b (suc m) (valid_len_up_to bs m) < k → ⊥
    by_test shorter true e less = absurd (omega (arith, less, within))
    by_test shorter false e less = by_place shorter (k == suc m) refl e less

no-text-true : (line : List ℕ) → is_utf8 line ≡ false → IsValidUpTo line (utf8_valid_len line)
unfolding utf8_valid_len
no-text-true line nay = record { short = omega (arith, utf8_valid_len_le line, apart); front = text-front line (length line); longest = longest }
  where
    whole : (k : ℕ) → length line ≤ k → IsUtf8 (take k line) → ⊥
    whole k past text = false≢true (sym nay ∙ is_utf8-from_IsUtf8 line (subst IsUtf8 (take_all k line past) text))

    apart : utf8_valid_len line ≢ length line
    apart e = whole (utf8_valid_len line) (omega (arith, e)) (text-front line (length line))

    by_place : (k : ℕ) (b : Bool) → nat_lt (length line) k ≡ b → utf8_valid_len line < k → IsUtf8 (take k line) → ⊥
    by_place k true past less text = whole k (let p = ltb-true (length line) k past in omega (arith, p)) text
    by_place k false within less text = text-longest line (length line) k less (ltb-false (length line) k within) (is_utf8-from_IsUtf8 (take k line) text)

    longest : (k : ℕ) → utf8_valid_len line < k → IsUtf8 (take k line) → ⊥
    longest k less text = by_place k (nat_lt (length line) k) refl less text

-- ---- lines

true-unread : (line : List ℕ) → IsTrueOfBytes line (unread_cause line)
true-unread line = by_tests (is_blank line) refl (has_mark line) refl
  where
    by_tests : (blank : Bool) → is_blank line ≡ blank → (mark : Bool) → has_mark line ≡ mark → IsTrueOfBytes line (cond blank BlankLine (cond mark ByteOrderMark (text_cause line)))
    by_tests true is mark e = is
    by_tests false nay true is = is
    by_tests false nay false other =
        text-causes (IsTrueOfBytes line) line (λ deep. deep) (λ shallow text. true-broken line (mistake_cause line) (true-from at_start 0 line))
        (λ no_text. (utf8_valid_len line, refl, no-text-true line no_text))

pub unread_lines : (part : Part) (turn : ℕ) (line : List ℕ) (found : Cause) → reading_of line ≡ None → cause part turn line ≡ Some found → IsTrueOfBytes line found
unread_lines part turn line found unread e =
    let told : reading_cause part turn line None ≡ Some found = ap (reading_cause part turn line) (sym unread) ∙ e in
    let same : unread_cause line ≡ found = cc in
    subst (IsTrueOfBytes line) same (true-unread line)
