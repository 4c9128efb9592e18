-- Where a look along a line stands, byte by byte, as JSON's grammar of strings and numbers has it (RFC 8259, sections 6 and 7).
use Rattle.std.specs.Prelude.{ℕ, ◌-◌, ◌&&◌, ◌||◌, ◌==◌, Bool, true, false, nat_le, nat_eq, if◌then◌else◌, Option, Some, None, codes}
use Rattle.std.specs.List.{list_any}
use Rattle.script_text.specs.declared.causes.line_states.LineState.{LineState}
use Rattle.script_text.specs.declared.causes.line_states.LineState.TheVariants.{Outside, InWord, InNumber, InString, InEscape}
use Rattle.script_text.specs.declared.causes.line_states.NumberState.{NumberState}
use Rattle.script_text.specs.declared.causes.line_states.NumberState.TheVariants.{BehindMinus, BehindZero, InWhole, BehindPoint, InFraction, BehindExponent, BehindSign, InExponent}
use Rattle.script_text.specs.declared.causes.line_states.EscapeState.{EscapeState}
use Rattle.script_text.specs.declared.causes.line_states.EscapeState.TheVariants.{Begun, Code, CodeD, Digits, FirstHalf, Pair, PairBackslash, PairCode, PairCodeD}

-- ---- bytes

abbrev pub is_digit : ℕ → Bool
is_digit byte = nat_le 48 byte && nat_le byte 57

-- a number may have the byte
abbrev pub is_of_number : ℕ → Bool
is_of_number byte = is_digit byte || list_any (nat_eq byte) (codes "+-.Ee")

-- true, false or null may have the byte
abbrev pub is_of_word : ℕ → Bool
is_of_word byte = list_any (nat_eq byte) (codes "aeflnrstu")

-- the byte may stand behind a backslash in a string
abbrev pub is_escape : ℕ → Bool
is_escape byte = list_any (nat_eq byte) (codes "\"\\/bfnrtu")

-- a hexadecimal digit
abbrev pub is_hex : ℕ → Bool
is_hex byte = is_digit byte || list_any (nat_eq byte) (codes "abcdefABCDEF")

-- The codes of surrogate pairs are `\ud800` to `\udfff`: they begin with d, and the second digit of the first half is 8 to
-- b, that of the second half c to f.
abbrev pub is_d : ℕ → Bool
is_d byte = byte == 100 || byte == 68

abbrev pub is_first : ℕ → Bool
is_first byte = list_any (nat_eq byte) (codes "89abAB")

abbrev pub is_second : ℕ → Bool
is_second byte = list_any (nat_eq byte) (codes "cdefCDEF")

-- ---- numbers

-- how a number goes on with one more byte; none where it can't
abbrev pub digit_from : NumberState → ℕ → Option NumberState
digit_from next byte = if is_digit byte then Some next else None

abbrev pub exponent_from : ℕ → Option NumberState
exponent_from byte = if byte == 101 || byte == 69 then Some BehindExponent else None

abbrev pub fraction_from : ℕ → Option NumberState
fraction_from byte = if byte == 46 then Some BehindPoint else exponent_from byte

abbrev pub number_behind : NumberState → ℕ → Option NumberState
number_behind BehindMinus byte = if byte == 48 then Some BehindZero else digit_from InWhole byte
number_behind BehindZero byte = fraction_from byte
number_behind InWhole byte = if is_digit byte then Some InWhole else fraction_from byte
number_behind BehindPoint byte = digit_from InFraction byte
number_behind InFraction byte = if is_digit byte then Some InFraction else exponent_from byte
number_behind BehindExponent byte = if byte == 43 || byte == 45 then Some BehindSign else digit_from InExponent byte
number_behind BehindSign byte = digit_from InExponent byte
number_behind InExponent byte = digit_from InExponent byte

-- what was seen is a number
abbrev pub is_number : NumberState → Bool
is_number BehindMinus = false
is_number BehindZero = true
is_number InWhole = true
is_number BehindPoint = false
is_number InFraction = true
is_number BehindExponent = false
is_number BehindSign = false
is_number InExponent = true

-- ---- escapes

-- how an escape goes on with one more byte; none where it can't
abbrev pub hex_from : LineState → ℕ → Option LineState
hex_from next byte = if is_hex byte then Some next else None

abbrev pub escape_if : Bool → EscapeState → Option LineState
escape_if test next = if test then Some (InEscape next) else None

-- behind one of so many digits that are left: the string goes on, or the second half of a surrogate pair follows
abbrev pub digits_behind : ℕ → LineState
digits_behind left = if nat_le left 1 then InString else InEscape (Digits (left - 1))

abbrev pub half_behind : ℕ → LineState
half_behind left = if nat_le left 1 then InEscape Pair else InEscape (FirstHalf (left - 1))

abbrev pub behind_d : ℕ → Option LineState
behind_d byte = if is_second byte then None else (if is_first byte then Some (InEscape (FirstHalf 2)) else hex_from (InEscape (Digits 2)) byte)

abbrev pub escape_behind : EscapeState → ℕ → Option LineState
escape_behind Begun byte = if byte == 117 then Some (InEscape Code) else (if is_escape byte then Some InString else None)
escape_behind Code byte = if is_d byte then Some (InEscape CodeD) else hex_from (InEscape (Digits 3)) byte
escape_behind CodeD byte = behind_d byte
escape_behind (Digits left) byte = hex_from (digits_behind left) byte
escape_behind (FirstHalf left) byte = hex_from (half_behind left) byte
escape_behind Pair byte = escape_if (byte == 92) PairBackslash
escape_behind PairBackslash byte = escape_if (byte == 117) PairCode
escape_behind PairCode byte = escape_if (is_d byte) PairCodeD
escape_behind PairCodeD byte = escape_if (is_second byte) (Digits 2)

-- ---- lines

-- no string goes on
abbrev pub is_outside : LineState → Bool
is_outside Outside = true
is_outside InWord = true
is_outside (InNumber seen) = true
is_outside InString = false
is_outside (InEscape seen) = false

-- Where a look stands behind one more byte. A quote begins a string, and the next quote outside an escape ends it.
abbrev pub standing_outside : ℕ → LineState
standing_outside byte = if byte == 34 then InString
    else (if byte == 45 then InNumber BehindMinus
    else (if byte == 48 then InNumber BehindZero
    else (if is_digit byte then InNumber InWhole
    else (if is_of_word byte then InWord else Outside))))

abbrev pub behind_number : Option NumberState → ℕ → LineState
behind_number (Some next) byte = InNumber next
behind_number None byte = standing_outside byte

abbrev pub behind_escape : Option LineState → LineState
behind_escape (Some next) = next
behind_escape None = InString

abbrev pub standing_behind : LineState → ℕ → LineState
standing_behind Outside byte = standing_outside byte
standing_behind InWord byte = standing_outside byte
standing_behind (InNumber seen) byte = behind_number (number_behind seen byte) byte
standing_behind InString byte = if byte == 34 then Outside else (if byte == 92 then InEscape Begun else InString)
standing_behind (InEscape seen) byte = behind_escape (escape_behind seen byte)
