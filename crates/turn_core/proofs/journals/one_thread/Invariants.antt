use Rattle.std.proofs.Common.{take}
use Rattle.turn_core.proofs.TurnByTurn.{HasAnswered}
use Rattle.turn_core.proofs.journals.one_thread.Given as goal

abbrev pub invariant-loop-turn : goal.invariant-loop-turn
invariant-loop-turn l = HasAnswered l.map (take l.turn-index l.turn-items) l.version l.all
