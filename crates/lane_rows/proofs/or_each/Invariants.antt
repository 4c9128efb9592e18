use Rattle.std.proofs.Common.{◌≡◌, ◌++◌, map, take, drop, bit_or}
use Rattle.lane_rows.proofs.or_each.Given as goal

abbrev pub invariant-loop-number : goal.invariant-loop-number
invariant-loop-number l = l.row ≡ map (λ n. bit_or n l.mask) (take l.number-index l.fn.row) ++ drop l.number-index l.fn.row
