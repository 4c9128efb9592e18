-- What a look along a bad line, byte by byte, finds first that no JSON value has.
use Rattle.std.specs.Prelude.{ℕ, ◌+◌, ◌-◌, ◌&&◌, ◌||◌, ◌==◌, List, [], ◌∷◌, slice_index, slice_set, replicate, Bool, false, not, nat_lt, if◌then◌else◌, Option, Some, None}
use Rattle.json.specs.Word.{is_space}
use Rattle.script_text.specs.declared.causes.Cause.{Cause}
use Rattle.script_text.specs.declared.causes.Cause.TheVariants.{NoJsonAt, EndsInString, EndsInValue, NotJson}
use Rattle.script_text.specs.declared.causes.mistakes.Look.{Look}
use Rattle.script_text.specs.declared.causes.mistakes.TheConstants.{TOLD_APART}
use Rattle.script_text.specs.declared.causes.line_states.LineState.{LineState}
use Rattle.script_text.specs.declared.causes.line_states.LineState.TheVariants.{Outside, InWord, InNumber, InString, InEscape}
use Rattle.script_text.specs.declared.causes.line_states.NumberState.{NumberState}
use Rattle.script_text.specs.declared.causes.line_states.NumberState.TheVariants.{BehindMinus, BehindZero}
use Rattle.script_text.specs.declared.causes.line_states.EscapeState.{EscapeState}
use Rattle.script_text.specs.declared.causes.line_states.EscapeState.TheVariants.{Begun, Code, CodeD, Digits, FirstHalf, Pair, PairBackslash, PairCode, PairCodeD}
use Rattle.script_text.specs.declared.causes.mistakes.Mistake.{Mistake}
use Rattle.script_text.specs.declared.causes.mistakes.Mistake.TheVariants.{Comment, SingleQuote, NoNumber, NumberStart, LeadingZero, WrongNumber, BareWord, Control, Escape, HexDigit, HalfPair, TrailingComma, WrongBracket, MissingComma, NoKey, NumberAsKey, NoColon, StrayColon, NoValue, BehindValue}
use Rattle.script_text.specs.Nesting.{opens, closes}
use Rattle.script_text.specs.LineStates.{is_digit, is_of_number, is_of_word, is_hex, number_behind, is_number, escape_behind, is_outside, standing_behind}

-- ---- bytes

-- a number, true, false or null may begin with the byte
abbrev pub begins_word : ℕ → Bool
begins_word byte = is_digit byte || byte == 45 || byte == 116 || byte == 102 || byte == 110

-- a value may begin with the byte
abbrev pub begins_value : ℕ → Bool
begins_value byte = opens byte || byte == 34 || begins_word byte

abbrev pub is_control : ℕ → Bool
is_control byte = nat_lt byte 32

-- A value ends with the byte, if none but white space stands behind it: it is no comma, no colon and opens none. A space
-- stands for no byte.
abbrev pub ends_value : ℕ → Bool
ends_value last = not (last == 32 || last == 44 || last == 58 || opens last)

-- ---- what was seen

-- how many arrays and objects are open behind one more byte
abbrev pub depth_outside : ℕ → ℕ → ℕ
depth_outside depth byte = if opens byte then depth + 1 else (if closes byte then depth - 1 else depth)

abbrev pub depth_behind : LineState → ℕ → ℕ → ℕ
depth_behind Outside depth byte = depth_outside depth byte
depth_behind InWord depth byte = depth_outside depth byte
depth_behind (InNumber seen) depth byte = depth_outside depth byte
depth_behind InString depth byte = depth
depth_behind (InEscape seen) depth byte = depth

-- the bytes that opened them, the outermost first, behind one more byte
abbrev pub opened_behind : Look → ℕ → List ℕ
opened_behind look byte = if is_outside look.standing && opens byte && nat_lt look.depth TOLD_APART then slice_set look.opened look.depth byte else look.opened

-- The byte that opened the array or object that goes on. A space stands for none, and for one that lies too deep in others.
abbrev pub innermost : Look → ℕ
innermost look = if look.depth == 0 || nat_lt TOLD_APART look.depth then 32 else slice_index look.opened (look.depth - 1)

-- an object goes on, and a key must stand next: behind a brace or a comma
abbrev pub wants_key : Look → Bool
wants_key look = innermost look == 123 && (look.last == 123 || look.last == 44)

-- a key has just ended
abbrev pub ends_key : Look → Bool
ends_key look = look.last == 34 && look.key

-- What was seen, with one more byte: the last byte is the last that is no white space, and a string is a key where it began
-- in the place of one.
abbrev pub behind : Look → ℕ → Look
behind look byte = record {
  standing = standing_behind look.standing byte;
  last = if is_space byte then look.last else byte;
  depth = depth_behind look.standing look.depth byte;
  opened = opened_behind look byte;
  key = if is_outside look.standing && byte == 34 then wants_key look else look.key;
}

-- before the first byte
abbrev pub at_start : Look
at_start = record { standing = Outside; last = 32; depth = 0; opened = replicate TOLD_APART 32; key = false }

-- what was seen of these bytes
abbrev pub look_from : Look → List ℕ → Look
look_from look [] = look
look_from look (byte ∷ bytes) = look_from (behind look byte) bytes

abbrev pub look_along : List ℕ → Look
look_along bytes = look_from at_start bytes

-- ---- mistakes

abbrev pub where_true : Bool → Mistake → Option Mistake
where_true test mistake = if test then Some mistake else None

-- a comma stands behind a value in an array or an object
abbrev pub comma_mistake : Look → Option Mistake
comma_mistake look = if not (ends_value look.last) then Some NoValue
    else (if look.depth == 0 then Some BehindValue else where_true (ends_key look) NoColon)

-- a colon stands behind a key
abbrev pub colon_mistake : Look → Option Mistake
colon_mistake look = if ends_value look.last && look.depth == 0 then Some BehindValue else where_true (not (ends_key look)) StrayColon

-- the byte closes an array that a brace opened, or an object that a bracket opened
abbrev pub is_mismatch : ℕ → ℕ → Bool
is_mismatch opened byte = opened == 91 && byte == 125 || opened == 123 && byte == 93

-- a bracket or brace closes what was opened last, and not behind a comma, a colon or a key
abbrev pub closing_mistake : Look → ℕ → Option Mistake
closing_mistake look byte = if look.depth == 0 then Some (if ends_value look.last then BehindValue else NoValue)
    else (if look.last == 44 then Some TrailingComma
    else (if look.last == 58 then Some NoValue
    else (if ends_key look then Some NoColon
    else where_true (is_mismatch (innermost look) byte) WrongBracket)))

-- only a string stands in the place of a key
abbrev pub key_mistake : Look → ℕ → Option Mistake
key_mistake look byte = if byte == 34 || not (wants_key look) then None else Some (if is_digit byte && look.last == 44 then NumberAsKey else NoKey)

-- a value or a key begins where none has ended just before
abbrev pub value_mistake : Look → ℕ → Option Mistake
value_mistake look byte = if not (ends_value look.last) then key_mistake look byte else (if look.depth == 0 then Some BehindValue else Some MissingComma)

-- a byte that begins no value, outside strings
abbrev pub strange_byte : ℕ → Mistake
strange_byte byte = if is_control byte then Control
    else (if byte == 47 || byte == 35 then Comment
    else (if byte == 39 then SingleQuote
    else (if byte == 78 || byte == 73 then NoNumber
    else (if byte == 43 || byte == 46 then NumberStart
    else BareWord))))

abbrev pub mistake_outside : Look → ℕ → Option Mistake
mistake_outside look byte = if is_space byte then None
    else (if byte == 44 then comma_mistake look
    else (if byte == 58 then colon_mistake look
    else (if closes byte then closing_mistake look byte
    else (if begins_value byte then value_mistake look byte
    else Some (strange_byte byte)))))

-- a byte with which a number can't go on: a digit behind a zero, a word that is no number, or another
abbrev pub wrong_number : NumberState → ℕ → Mistake
wrong_number BehindZero byte = if is_digit byte then LeadingZero else WrongNumber
wrong_number BehindMinus byte = if byte == 78 || byte == 73 then NoNumber else WrongNumber
wrong_number seen byte = WrongNumber

-- in a number, with how it goes on: where it can't, it is wrong, or ends before the byte
abbrev pub number_mistake : NumberState → Option NumberState → Look → ℕ → Option Mistake
number_mistake seen (Some next) look byte = None
number_mistake seen None look byte = if is_of_number byte || not (is_number seen) then Some (wrong_number seen byte) else mistake_outside look byte

-- a byte with which an escape can't go on
abbrev pub wrong_escape : EscapeState → ℕ → Mistake
wrong_escape Begun byte = Escape
wrong_escape Code byte = HexDigit
wrong_escape CodeD byte = if is_hex byte then HalfPair else HexDigit
wrong_escape (Digits left) byte = HexDigit
wrong_escape (FirstHalf left) byte = HexDigit
wrong_escape Pair byte = HalfPair
wrong_escape PairBackslash byte = HalfPair
wrong_escape PairCode byte = HalfPair
wrong_escape PairCodeD byte = HalfPair

abbrev pub escape_mistake : EscapeState → Option LineState → ℕ → Option Mistake
escape_mistake seen (Some next) byte = None
escape_mistake seen None byte = Some (wrong_escape seen byte)

-- what is wrong with a byte behind what was seen
abbrev pub mistake_by : LineState → Look → ℕ → Option Mistake
mistake_by Outside look byte = mistake_outside look byte
mistake_by InWord look byte = if is_of_word byte then None else mistake_outside look byte
mistake_by (InNumber seen) look byte = number_mistake seen (number_behind seen byte) look byte
mistake_by InString look byte = where_true (is_control byte) Control
mistake_by (InEscape seen) look byte = escape_mistake seen (escape_behind seen byte) byte

abbrev pub mistake_at : Look → ℕ → Option Mistake
mistake_at look byte = mistake_by look.standing look byte

-- ---- what is told of a line by its bytes

abbrev pub ending_by : LineState → ℕ → Cause
ending_by Outside depth = if nat_lt 0 depth then EndsInValue else NotJson
ending_by InWord depth = if nat_lt 0 depth then EndsInValue else NotJson
ending_by (InNumber seen) depth = if nat_lt 0 depth then EndsInValue else NotJson
ending_by InString depth = EndsInString
ending_by (InEscape seen) depth = EndsInString

-- where no byte is a mistake: how the line ends
abbrev pub ending : Look → Cause
ending look = ending_by look.standing look.depth

-- the mistake at a place, or the cause that is told of what follows
abbrev pub told_at : Option Mistake → ℕ → Cause → Cause
told_at None place later = later
told_at (Some mistake) place later = NoJsonAt place mistake

-- The cause of the bytes that follow so many others. Places count from 1.
abbrev pub broken_from : Look → ℕ → List ℕ → Cause
broken_from look before [] = ending look
broken_from look before (byte ∷ bytes) = told_at (mistake_at look byte) (before + 1) (broken_from (behind look byte) (before + 1) bytes)

-- the first mistake of a line by its place from 1, and where it has none, how it ends
abbrev pub mistake_cause : List ℕ → Cause
mistake_cause line = broken_from at_start 0 line
