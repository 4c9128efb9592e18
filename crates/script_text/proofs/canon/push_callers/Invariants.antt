-- The lines so far, and those of the callers that are left, are all lines after what stood before.
use Rattle.std.proofs.Common.{◌≡◌, ◌++◌, drop}
use Rattle.script_text.specs.Canon.{canon_callers}
use Rattle.std.specs.Prelude.{All}
use Rattle.script_text.specs.ReadsBack.{IsPostValue}
use Rattle.std.specs.List.{AllWithin}
use Rattle.script_text.proofs.canon.push_callers.Given as goal

abbrev pub invariant-loop-caller : goal.invariant-loop-caller
invariant-loop-caller l = (l.text ++ canon_callers l.version l.caller (drop l.caller l.lists) ≡ l.fn.text ++ canon_callers l.fn.version 0 l.fn.turn) × AllWithin (λ posts. All IsPostValue posts) l.lists 0 l.caller
