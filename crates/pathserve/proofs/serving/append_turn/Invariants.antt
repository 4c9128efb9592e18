use Rattle.std.proofs.Common.{◌≡◌, length}
use Rattle.std.specs.Vec.Iter.{into_iter_items, into_iter_len}
use Rattle.std.specs.Iterator.Adapters.{enumerate_source, enumerate_count}
use Rattle.pathserve.proofs.JoinedPosts.{JoinsFirst}
use Rattle.pathserve.proofs.serving.append_turn.Given as goal

abbrev pub invariant-loop-caller : goal.invariant-loop-caller
invariant-loop-caller l = record {
  joins : JoinsFirst l.initial.lists.items l.fn.turn l.lists.items (into_iter_items (enumerate_source l.caller-iterator)) (enumerate_count l.caller-iterator);
  left : into_iter_len (enumerate_source l.caller-iterator) ≡ length (into_iter_items (enumerate_source l.caller-iterator));
}
