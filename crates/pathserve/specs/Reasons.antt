-- Why an input stops before its end.
use Rattle.std.specs.Prelude.{ℕ, ◌≡◌, List, [], ◌++◌, Option, Some, None, IfSome, codes, decimal}
use Rattle.script_text.specs.Script.{beginning, bad_line, too_long, stuck_by, reading}
use Rattle.script_text.specs.Causes.{stop_cause}
use Rattle.script_text.specs.declared.causes.Cause.{Cause}
use Rattle.script_text.specs.CauseTexts.{cause_text}
use Rattle.pathserve.specs.declared.bad_lines.BadLine.{BadLine}
use Rattle.pathserve.specs.declared.reasons.Reason.{Reason}
use Rattle.pathserve.specs.declared.reasons.Reason.TheVariants as reason

-- The input stops at the line of this number. Where a cause is told, it is the one for which that line is bad.
pub record IsWhyBad (bytes : List ℕ) (bad : BadLine) : Type 0 where
  pub stops : (reading bytes beginning).ends ≡ stuck_by (bad_line bad.number)
  pub cause : IfSome bad.cause (λ found. stop_cause bytes beginning ≡ Some found)

-- the input stops so: at a bad line, or at the line of this number, which passes a limit
abbrev pub IsReason : List ℕ → Reason → Type 0
IsReason bytes (reason.BadLine bad) = IsWhyBad bytes bad
IsReason bytes (reason.TooLong n) = (reading bytes beginning).ends ≡ stuck_by (too_long n)

-- what is said of a cause, where it is told
abbrev pub reason_behind : Option Cause → List ℕ
reason_behind None = []
reason_behind (Some cause) = codes ": " ++ cause_text cause

-- what it says to a person
abbrev pub bad_line_reason : BadLine → List ℕ
bad_line_reason bad = codes "line " ++ decimal bad.number ++ codes " is bad" ++ reason_behind bad.cause

abbrev pub reason_text : Reason → List ℕ
reason_text (reason.BadLine bad) = bad_line_reason bad
reason_text (reason.TooLong n) =
    codes "line " ++ decimal n ++ codes " is longer than 8388608 bytes, or the script up to it longer than 4294967296"
