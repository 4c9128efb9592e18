use Rattle.std.proofs.Common.{All}
use Rattle.std.specs.Prelude.{take}
use Rattle.pathserve_c.specs.Checks.{IsPostOf}
use Rattle.pathserve_c.proofs.checks.first_bad.Given as goal

abbrev pub invariant-loop-place : goal.invariant-loop-place
invariant-loop-place l = All (IsPostOf l.map) (take l.place l.flats)
