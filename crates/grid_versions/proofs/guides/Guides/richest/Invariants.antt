use Rattle.std.proofs.Common.{◌<◌, IfSome}
use Rattle.grid_versions.proofs.guides.Guides.richest.Given as goal

-- the best so far is one of the classes
abbrev pub invariant-loop-number : goal.invariant-loop-number
invariant-loop-number l = IfSome l.best (λ class. class < l.fn.count)
