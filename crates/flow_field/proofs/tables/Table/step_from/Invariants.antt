use Rattle.std.proofs.Common.{ℕ, ◌<◌, get_or}
use Rattle.nav_types.specs.declared.directions.Dir.TheVariants.{N}
use Rattle.walks.specs.Chosen.{preference}
use Rattle.flow_field.specs.inner.Ways.{LeadsNearer}
use Rattle.flow_field.proofs.tables.Table.step_from.Given as goal

abbrev pub invariant-loop-dir : goal.invariant-loop-dir
invariant-loop-dir l = (k : ℕ) → k < l.dir-index → LeadsNearer l.self.size l.self.marks.items l.at (get_or preference k N) → ⊥
