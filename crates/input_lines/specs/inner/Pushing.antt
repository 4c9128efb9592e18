-- Why a part of a line that is pushed is not kept.
use Rattle.std.specs.Prelude.{ℕ, ◌<◌, ◌⊎◌, List, length, ⊤}
use Rattle.nav_types.specs.declared.limits.TheConstants.{MAX_LINE_BYTES}
use Rattle.input_lines.specs.declared.faults.LineFault.{LineFault}
use Rattle.input_lines.specs.declared.faults.LineFault.TheVariants.{TooLong, ReadFault, NoMemory}

-- with the part, the line is longer than a line may be, or than the room that the input has left
abbrev pub IsNoPart : List ℕ → ℕ → LineFault → Type 0
IsNoPart longer room TooLong = (MAX_LINE_BYTES < length longer) ⊎ (room < length longer)
IsNoPart longer room ReadFault = ⊥
IsNoPart longer room NoMemory = ⊤
