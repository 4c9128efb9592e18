use Rattle.std.proofs.Common.{◌≡◌, Some, take}
use Rattle.pathserve_c.specs.LineLimits.{limit_after}
use Rattle.pathserve_c.proofs.line_limits.LineLimit.after.Given as goal

abbrev pub invariant-loop-byte : goal.invariant-loop-byte
invariant-loop-byte l = limit_after l.fn.self (take l.byte-index l.bytes) ≡ Some l.limit
