-- No number so far is too large.
use Rattle.std.proofs.Common.{◌≡◌, ◌≤◌, drop}
use Rattle.script_text.specs.LargeNumbers as large
use Rattle.script_text.proofs.causes.mistakes.number_cause.Given as goal

abbrev pub invariant-loop-place : goal.invariant-loop-place
invariant-loop-place l = (l.look.depth ≤ l.place) × (large.large_from l.look l.place (drop l.place l.line) ≡ large.number_cause l.line)
