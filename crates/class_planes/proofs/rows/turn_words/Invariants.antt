use Rattle.std.proofs.Common.{◌≡◌, ◌++◌, map, take, drop, w64}
use Rattle.std.specs.Int.{bit_not}
use Rattle.class_planes.proofs.rows.turn_words.Given as goal

abbrev pub invariant-loop-word : goal.invariant-loop-word
invariant-loop-word l = l.words ≡ map (bit_not w64) (take l.word-index l.fn.words) ++ drop l.word-index l.fn.words
