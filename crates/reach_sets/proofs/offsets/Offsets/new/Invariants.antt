use Rattle.std.proofs.Common.{◌≡◌, ◌++◌, sum, take, drop}
use Rattle.reach_sets.specs.inner.RowStarts.{starts_from}
use Rattle.reach_sets.proofs.offsets.Offsets.new.Given as goal

abbrev pub invariant-loop-count : goal.invariant-loop-count
invariant-loop-count l = record {
  end : l.end ≡ sum (take l.count-index l.regions);
  rest : l.starts.items ++ starts_from l.end (drop l.count-index l.regions) ≡ starts_from 0 l.regions;
}
