use Rattle.obstruction_store.proofs.TouchingNumbers.{FitEach, PicksSoFar}
use Rattle.obstruction_store.proofs.stores.Store.touching.Given as goal

-- the entries left fit, and whatever they come to completes the list
abbrev pub invariant-loop-id : goal.invariant-loop-id
invariant-loop-id l = record {
  fit : FitEach l.size l.id-iterator;
  so_far : PicksSoFar l.size l.rect l.clearance l.self l.ids l.id-iterator;
}
