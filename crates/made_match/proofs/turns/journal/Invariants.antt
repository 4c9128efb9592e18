use Rattle.std.proofs.Common.{◌≡◌}
use Rattle.made_match.specs.Making.{drawn, draw_each, draw_turn}
use Rattle.made_match.proofs.turns.journal.Given as goal

abbrev pub invariant-loop-before : goal.invariant-loop-before
invariant-loop-before l = draw_each draw_turn l.before l.fn.draws ≡ drawn l.journal l.draws
