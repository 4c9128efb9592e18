use Rattle.std.proofs.Common.{◌≡◌, ◌+◌}
use Rattle.made_match.specs.Making.{drawn, draw_each, draw_posts}
use Rattle.made_match.proofs.turns.turn.Given as goal

abbrev pub invariant-loop-caller : goal.invariant-loop-caller
invariant-loop-caller l = draw_each (draw_posts (l.before + 1)) l.caller l.fn.draws ≡ drawn l.turn l.draws
