-- The line is shallow where the bytes that are left fit at the place.
use Rattle.std.proofs.Common.{◌≡◌, true, length}
use Rattle.script_text.specs.Nesting as nest
use Rattle.script_text.specs.inner.Blocks.{fits_from}
use Rattle.script_text.proofs.nesting.is_shallow_by_blocks.Given as goal

abbrev pub invariant-sweep : goal.invariant-sweep
invariant-sweep l = fits_from l.place.in_string l.place.depth l.rest ≡ true → nest.is_shallow l.line ≡ true

abbrev pub decreases-sweep : goal.decreases-sweep
decreases-sweep l = length l.rest
