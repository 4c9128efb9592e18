-- Numbers beyond those of 64-bit floats, in a line without another mistake, and why a line is no JSON value.
use Rattle.std.specs.Prelude.{ℕ, ◌+◌, ◌&&◌, ◌||◌, ◌==◌, List, [], ◌∷◌, drop, slice_index, Bool, true, false, not, if◌then◌else◌}
use Rattle.std.specs.Float.{binary64, float_is_finite}
use Rattle.fast_float.specs.Text.{minus, scan, nearest}
use Rattle.script_text.specs.declared.causes.Cause.{Cause}
use Rattle.script_text.specs.declared.causes.Cause.TheVariants.{NumberTooLarge, NotJson}
use Rattle.script_text.specs.declared.causes.mistakes.Look.{Look}
use Rattle.script_text.specs.declared.causes.line_states.LineState.{LineState}
use Rattle.script_text.specs.declared.causes.line_states.LineState.TheVariants.{Outside, InWord, InNumber, InString, InEscape}
use Rattle.script_text.specs.LineStates.{is_digit}
use Rattle.script_text.specs.Mistakes.{at_start, behind, mistake_cause}

-- a number begins with the byte
abbrev pub starts_number : LineState → ℕ → Bool
starts_number Outside byte = byte == minus || is_digit byte
starts_number InWord byte = false
starts_number (InNumber seen) byte = false
starts_number InString byte = false
starts_number (InEscape seen) byte = false

-- the 64-bit float that is nearest to the number at the front of these bytes, with this sign, is infinite
abbrev pub is_past_floats : Bool → List ℕ → Bool
is_past_floats negative digits = not (float_is_finite (nearest binary64 negative (scan digits)))

-- the same of a number with its sign
abbrev pub is_too_large : List ℕ → Bool
is_too_large bytes = if slice_index bytes 0 == minus then is_past_floats true (drop 1 bytes) else is_past_floats false bytes

-- The cause of the bytes that follow so many others: the first number that is too large, by its place from 1.
abbrev pub large_from : Look → ℕ → List ℕ → Cause
large_from look before [] = NotJson
large_from look before (byte ∷ bytes) = if starts_number look.standing byte && is_too_large (byte ∷ bytes) then NumberTooLarge (before + 1)
    else large_from (behind look byte) (before + 1) bytes

abbrev pub number_cause : List ℕ → Cause
number_cause line = large_from at_start 0 line

-- the same where nothing else is told
abbrev pub or_number : Cause → List ℕ → Cause
or_number NotJson line = number_cause line
or_number found line = found

-- the cause of a line in UTF-8 that is no JSON value
abbrev pub broken_cause : List ℕ → Cause
broken_cause line = or_number (mistake_cause line) line
