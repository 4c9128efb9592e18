-- The line is shallow exactly where the bytes that are left fit where the look along it stands.
use Rattle.std.proofs.Common.{◌≡◌, drop}
use Rattle.script_text.specs.Nesting as nest
use Rattle.script_text.proofs.ShallowTexts.{fits_at}
use Rattle.script_text.proofs.nesting.is_shallow_by_bytes.Given as goal

abbrev pub invariant-loop-byte : goal.invariant-loop-byte
invariant-loop-byte l = fits_at l.standing l.depth (drop l.byte-index l.line) ≡ nest.is_shallow l.line
