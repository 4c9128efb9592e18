-- What a line that did not come means for the script.
use Rattle.std.specs.Prelude.{ℕ}
use Rattle.input_lines.specs.declared.faults.LineFault.{LineFault}
use Rattle.input_lines.specs.declared.faults.LineFault.TheVariants as line
use Rattle.script_text.specs.declared.faults.ScriptFault.{ScriptFault}
use Rattle.script_text.specs.declared.faults.ScriptFault.TheVariants.{TooLong, ReadFault, NoMemory}

-- the refusal of a script whose line of this number did not come: the same fault
abbrev pub script_fault : ℕ → LineFault → ScriptFault
script_fault n line.TooLong = TooLong n
script_fault n line.ReadFault = ReadFault
script_fault n line.NoMemory = NoMemory
