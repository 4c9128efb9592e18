use Rattle.std.proofs.Common.{◌+◌, IsFalse, length}
use Rattle.match_play.specs.inner.Reading.{GoesWith, HasRead}
use Rattle.match_play.proofs.scripts.read_lines.Given as goal

abbrev pub invariant-items : goal.invariant-items
invariant-items l = record {
  read : HasRead l.script l.lines l.left l.said;
  goes : GoesWith l.lines l.said;
  going : IsFalse l.lines.failed;
  more : IsFalse l.lines.ended;
}

abbrev pub decreases-items : goal.decreases-items
decreases-items l = length l.lines.bytes + length l.left
