-- What a cause says of the bytes of a line that has no reading.
use Rattle.std.specs.Prelude.{ℕ, ◌≡◌, ◌+◌, ◌<◌, ◌==◌, ◌&&◌, ◌||◌, not, ⊤, List, [], ◌∷◌, ◌++◌, length, IsTrue, IsFalse, None}
use Rattle.std.specs.Str.{IsValidUpTo}
use Rattle.json.specs.Word.{is_space}
use Rattle.script_text.specs.declared.causes.Cause.{Cause}
use Rattle.script_text.specs.declared.causes.Cause.TheVariants.{BlankLine, ByteOrderMark, TooDeep, NotUtf8, NoJsonAt, EndsInString, EndsInValue, NumberTooLarge, NotJson}
use Rattle.script_text.specs.declared.causes.mistakes.Look.{Look}
use Rattle.script_text.specs.declared.causes.line_states.LineState.{LineState}
use Rattle.script_text.specs.declared.causes.line_states.LineState.TheVariants.{Outside, InWord, InNumber, InString, InEscape}
use Rattle.script_text.specs.declared.causes.line_states.NumberState.{NumberState}
use Rattle.script_text.specs.declared.causes.line_states.NumberState.TheVariants.{BehindZero}
use Rattle.script_text.specs.declared.causes.line_states.EscapeState.{EscapeState}
use Rattle.script_text.specs.declared.causes.line_states.EscapeState.TheVariants.{Begun, Code, CodeD, Digits, FirstHalf, Pair, PairBackslash, PairCode, PairCodeD}
use Rattle.script_text.specs.declared.causes.mistakes.Mistake.{Mistake}
use Rattle.script_text.specs.declared.causes.mistakes.Mistake.TheVariants.{Comment, SingleQuote, NoNumber, NumberStart, LeadingZero, WrongNumber, BareWord, Control, Escape, HexDigit, HalfPair, TrailingComma, WrongBracket, MissingComma, NoKey, NumberAsKey, NoColon, StrayColon, NoValue, BehindValue}
use Rattle.script_text.specs.Nesting.{closes}
use Rattle.script_text.specs.Causes.{is_blank, has_mark, is_too_deep}
use Rattle.script_text.specs.LineStates.{is_digit, is_of_number, is_escape, is_hex, number_behind, is_number, escape_behind}
use Rattle.script_text.specs.LargeNumbers.{starts_number, is_too_large}
use Rattle.script_text.specs.Mistakes.{at_start, behind, look_along, mistake_at, begins_value, ends_value, is_control, wants_key, ends_key, innermost, is_mismatch}

-- none of these bytes is a mistake behind what was seen before it
abbrev pub HasNoMistake : Look → List ℕ → Type 0
HasNoMistake look [] = ⊤
HasNoMistake look (byte ∷ bytes) = (mistake_at look byte ≡ None) × HasNoMistake (behind look byte) bytes

-- no string goes on
abbrev pub IsOutside : LineState → Type 0
IsOutside Outside = ⊤
IsOutside InWord = ⊤
IsOutside (InNumber seen) = ⊤
IsOutside InString = ⊥
IsOutside (InEscape seen) = ⊥

-- a digit of a code follows, behind `\u`
abbrev pub WantsDigit : EscapeState → Type 0
WantsDigit Code = ⊤
WantsDigit CodeD = ⊤
WantsDigit (Digits left) = ⊤
WantsDigit (FirstHalf left) = ⊤
WantsDigit other = ⊥

-- a half of a surrogate pair may be seen
abbrev pub IsOfPair : EscapeState → Type 0
IsOfPair CodeD = ⊤
IsOfPair Pair = ⊤
IsOfPair PairBackslash = ⊤
IsOfPair PairCode = ⊤
IsOfPair PairCodeD = ⊤
IsOfPair other = ⊥

-- What a mistake says of a byte, behind what was seen of the bytes before it: the slash or number sign of a comment, the
-- single quote, the letter N or I, the plus sign or point stand outside strings. So do the brackets, commas, colons and
-- values: `last` is the last byte before them that is no white space, and `depth` the number of arrays and objects that
-- are open; `innermost` is the byte that opened the last of these, and `key` says that the last string is a key. Of a number
-- and an escape it says that what was seen of it can't go on with the byte.
abbrev pub Says : Mistake → Look → ℕ → Type 0
Says Comment look byte = IsOutside look.standing × IsTrue (byte == 47 || byte == 35)
Says SingleQuote look byte = IsOutside look.standing × (byte ≡ 39)
Says NoNumber look byte = IsOutside look.standing × IsTrue (byte == 78 || byte == 73)
Says NumberStart look byte = IsOutside look.standing × IsTrue (byte == 43 || byte == 46)
Says LeadingZero look byte = (look.standing ≡ InNumber BehindZero) × IsTrue (is_digit byte)
Says WrongNumber look byte = (seen : NumberState) × (look.standing ≡ InNumber seen) × (number_behind seen byte ≡ None) × IsTrue (is_of_number byte || not (is_number seen))
Says BareWord look byte = IsOutside look.standing × IsFalse (begins_value byte) × IsFalse (closes byte) × IsFalse (is_space byte)
Says Control look byte = IsTrue (is_control byte)
Says Escape look byte = (look.standing ≡ InEscape Begun) × IsFalse (is_escape byte)
Says HexDigit look byte = (seen : EscapeState) × (look.standing ≡ InEscape seen) × WantsDigit seen × IsFalse (is_hex byte)
Says HalfPair look byte = (seen : EscapeState) × (look.standing ≡ InEscape seen) × IsOfPair seen × (escape_behind seen byte ≡ None)
Says TrailingComma look byte = IsOutside look.standing × IsTrue (closes byte) × (look.last ≡ 44)
Says MissingComma look byte = IsOutside look.standing × IsTrue (begins_value byte) × IsTrue (ends_value look.last) × (0 < look.depth)
Says WrongBracket look byte = IsOutside look.standing × IsTrue (is_mismatch (innermost look) byte)
Says NoKey look byte = IsOutside look.standing × IsTrue (begins_value byte) × IsFalse (byte == 34) × IsTrue (wants_key look)
Says NumberAsKey look byte = IsOutside look.standing × IsTrue (is_digit byte) × (look.last ≡ 44) × IsTrue (wants_key look)
Says NoColon look byte = IsOutside look.standing × IsTrue (byte == 44 || closes byte) × IsTrue (ends_key look)
Says StrayColon look byte = IsOutside look.standing × (byte ≡ 58) × IsFalse (ends_key look)
Says NoValue look byte = IsOutside look.standing × IsFalse (begins_value byte) × IsFalse (ends_value look.last)
Says BehindValue look byte = IsOutside look.standing × IsFalse (is_space byte) × IsTrue (ends_value look.last) × (look.depth ≡ 0)

-- The byte of this place, from 1, is what the mistake says, and no byte before it is a mistake.
pub record HasMistake (line : List ℕ) (place : ℕ) (mistake : Mistake) : Type 0 where
  pub before : List ℕ
  pub byte : ℕ
  pub after : List ℕ
  pub parts : line ≡ before ++ byte ∷ after
  pub placed : place ≡ length before + 1
  pub none_before : HasNoMistake at_start before
  pub wrong : Says mistake (look_along before) byte

-- The number that begins with the byte of this place, from 1, is beyond those of 64-bit floats.
pub record HasLargeNumber (line : List ℕ) (place : ℕ) : Type 0 where
  pub before : List ℕ
  pub byte : ℕ
  pub after : List ℕ
  pub parts : line ≡ before ++ byte ∷ after
  pub placed : place ≡ length before + 1
  pub starts : IsTrue (starts_number (look_along before).standing byte)
  pub large : IsTrue (is_too_large (byte ∷ after))

-- no number among these bytes is, behind what was seen before them
abbrev pub HasNoLargeNumber : Look → List ℕ → Type 0
HasNoLargeNumber look [] = ⊤
HasNoLargeNumber look (byte ∷ bytes) = IsFalse (starts_number look.standing byte && is_too_large (byte ∷ bytes)) × HasNoLargeNumber (behind look byte) bytes

-- the bytes before this place, from 1, are the longest front of the line that is UTF-8
abbrev pub IsTextUpTo : List ℕ → ℕ → Type 0
IsTextUpTo line place = (n : ℕ) × (place ≡ n + 1) × IsValidUpTo line n

-- a line without a mistake leaves a string open
abbrev pub IsInString : LineState → Type 0
IsInString Outside = ⊥
IsInString InWord = ⊥
IsInString (InNumber seen) = ⊥
IsInString InString = ⊤
IsInString (InEscape seen) = ⊤

-- what the cause of a line without a reading says of its bytes
abbrev pub IsTrueOfBytes : List ℕ → Cause → Type 0
IsTrueOfBytes line BlankLine = IsTrue (is_blank line)
IsTrueOfBytes line ByteOrderMark = IsTrue (has_mark line)
IsTrueOfBytes line TooDeep = IsTrue (is_too_deep line)
IsTrueOfBytes line (NotUtf8 place) = IsTextUpTo line place
IsTrueOfBytes line (NoJsonAt place mistake) = HasMistake line place mistake
IsTrueOfBytes line EndsInString = HasNoMistake at_start line × IsInString (look_along line).standing
IsTrueOfBytes line EndsInValue = HasNoMistake at_start line × (0 < (look_along line).depth)
IsTrueOfBytes line (NumberTooLarge place) = HasNoMistake at_start line × HasLargeNumber line place
IsTrueOfBytes line NotJson = HasNoMistake at_start line × HasNoLargeNumber at_start line
IsTrueOfBytes line found = ⊥
