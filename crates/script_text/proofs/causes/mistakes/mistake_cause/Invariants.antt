-- No byte so far is a mistake, and as many were counted.
use Rattle.std.proofs.Common.{◌≡◌, ◌≤◌, drop}
use Rattle.script_text.specs.Mistakes as slip
use Rattle.script_text.proofs.causes.mistakes.mistake_cause.Given as goal

abbrev pub invariant-loop-byte : goal.invariant-loop-byte
invariant-loop-byte l = (l.place ≡ l.byte-index) × (l.look.depth ≤ l.byte-index)
    × (slip.broken_from l.look l.place (drop l.byte-index l.line) ≡ slip.mistake_cause l.line)
