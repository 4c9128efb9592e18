use Rattle.std.proofs.Common.{ℕ, ◌<◌, get_or}
use Rattle.grid_versions.specs.inner.Reachers.{HoldReached}
use Rattle.grid_versions.proofs.reachers.reachers_of.Given as goal

-- the numbers before `id-index` are done
abbrev pub invariant-loop-id : goal.invariant-loop-id
invariant-loop-id l = record {
  reached : (k : ℕ) → k < l.id-index → HoldReached l.site.map.now l.site.shapes.now l.reachers.items (get_or l.ids k 0);
}
