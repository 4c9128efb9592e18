use Rattle.std.proofs.Common.{◌≡◌, length}
use Rattle.jump_search.proofs.Covering.{IsBlankBut}
use Rattle.jump_search.proofs.pages.blank_at.Given as goal

abbrev pub invariant-loop-node : goal.invariant-loop-node
invariant-loop-node l = record {
  long : length l.numbers ≡ length l.initial.numbers;
  blank : IsBlankBut l.numbers l.nodes l.node-index;
}
