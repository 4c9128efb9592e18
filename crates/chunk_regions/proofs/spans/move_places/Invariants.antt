use Rattle.std.proofs.Common.{◌≡◌, ◌++◌, map, take, drop}
use Rattle.chunk_regions.specs.inner.Moving.{moved}
use Rattle.chunk_regions.proofs.spans.move_places.Given as goal

abbrev pub invariant-loop-place : goal.invariant-loop-place
invariant-loop-place l = l.places ≡ map (moved l.first l.here) (take l.place-index l.fn.places) ++ drop l.place-index l.fn.places
