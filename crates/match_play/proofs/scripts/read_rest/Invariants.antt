use Rattle.std.proofs.Common.{ℕ, List, [], IsFalse, length}
use Rattle.match_play.specs.inner.Reading.{GoesWith, HasRead}
use Rattle.match_play.proofs.scripts.read_rest.Given as goal

abbrev pub invariant-items : goal.invariant-items
invariant-items l = record {
  read : (script : List ℕ) → HasRead script l.fn.lines [] l.fn.said → HasRead script l.lines [] l.said;
  goes : GoesWith l.lines l.said;
  going : IsFalse l.lines.failed;
}

abbrev pub decreases-items : goal.decreases-items
decreases-items l = length l.lines.bytes
