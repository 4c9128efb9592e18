use Rattle.std.proofs.Common.{◌≡◌, ◌++◌, All, take}
use Rattle.script_text.specs.ReadsBack.{ArePostValues, canon_turns}
use Rattle.match_play.proofs.posted.push_turns.Given as goal

abbrev pub invariant-loop-before : goal.invariant-loop-before
invariant-loop-before l = (l.text ≡ l.fn.text ++ canon_turns l.map 1 (take l.before l.turns)) × All ArePostValues (take l.before l.turns)
