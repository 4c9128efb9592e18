use Rattle.std.proofs.Common.{take}
use Rattle.flow_field.specs.inner.Ways.{IsSummaryOf}
use Rattle.flow_field.proofs.tables.Table.summary.Given as goal

abbrev pub invariant-loop-mark : goal.invariant-loop-mark
invariant-loop-mark l = IsSummaryOf (take l.mark-index l.self.marks.items) l.summary
