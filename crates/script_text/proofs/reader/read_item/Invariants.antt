-- What was taken so far gave nothing, and each read was made where it left nothing to judge.
use Rattle.std.proofs.Common.{◌≡◌, ◌≤◌, ◌-◌, [], IsFalse}
use Rattle.script_text.specs.Led.{Led}
use Rattle.script_text.specs.Reader.{HoldsTurn, TakesNoneAhead, UsesLines, WantsTurn, rules_at, taken_bytes}
use Rattle.script_text.specs.inner.Judging.{held_with}
use Rattle.script_text.proofs.ReadCalls.{GoesTold}
use Rattle.script_text.proofs.reader.read_item.Given as goal

abbrev pub invariant-pieces : goal.invariant-pieces
invariant-pieces g l = record {
  began : IsFalse l.initial.taken.ended;
  going : IsFalse l.script.failed;
  more : IsFalse l.script.ended;
  unmet : IsFalse l.taken.ended;
  told : GoesTold (held_with l.initial.script l.initial.taken) (held_with l.script l.taken) (g.S.Source.left l.initial.source) (g.S.Source.left l.source);
  ahead : TakesNoneAhead WantsTurn (held_with l.initial.script l.initial.taken) (g.S.Source.left l.initial.source) (g.S.Source.left l.source);
  still : HoldsTurn (held_with l.initial.script l.initial.taken) → (l.source ≡ l.initial.source) × UsesLines (held_with l.initial.script l.initial.taken) (held_with l.script l.taken) [] [];
  rules : rules_at l.script.place.part ≡ rules_at l.initial.script.place.part;
  led : Led l.initial.script.place [] l.script.place;
  later : g.S.Source.faults l.initial.source ≤ g.S.Source.faults l.source;
}

abbrev pub decreases-pieces : goal.decreases-pieces
decreases-pieces g l = 4303421442 - taken_bytes (held_with l.script l.taken)
