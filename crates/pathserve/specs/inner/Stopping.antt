-- Why a reader refuses a line.
use Rattle.std.specs.Prelude.{◌≡◌, Some, IfSome}
use Rattle.pathserve.specs.declared.reasons.Reason.{Reason}
use Rattle.pathserve.specs.declared.reasons.Reason.TheVariants as reason
use Rattle.script_text.specs.declared.faults.ScriptFault.{ScriptFault}
use Rattle.script_text.specs.declared.faults.ScriptFault.TheVariants as fault
use Rattle.script_text.specs.Reader.{Held, held_cause}
use Rattle.pathserve.specs.declared.bad_lines.BadLine.{BadLine}

-- the refusal is of the line of this number, and what is held is bad for the cause, where one is told
pub record IsHeldBad (h : Held) (met : ScriptFault) (bad : BadLine) : Type 0 where
  pub line : met ≡ fault.BadLine bad.number
  pub cause : IfSome bad.cause (λ found. held_cause h ≡ Some found)

-- the refusal is for this reason
abbrev pub IsHeldReason : Held → ScriptFault → Reason → Type 0
IsHeldReason h met (reason.BadLine bad) = IsHeldBad h met bad
IsHeldReason h met (reason.TooLong n) = met ≡ fault.TooLong n
