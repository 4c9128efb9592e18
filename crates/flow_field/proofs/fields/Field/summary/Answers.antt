use Rattle.std.proofs.Common.{sym, subst}
use Rattle.flow_field.specs.Flows.{FieldCells, IsFieldOf}
use Rattle.flow_field.specs.inner.Marks.{cells_of}
use Rattle.flow_field.proofs.Summing.{summary_of_table}
use Rattle.flow_field.proofs.fields.Field.summary.Goals as goal

pub returns : goal.returns
returns c = λ passes hit start field.
    let table = c.self.inside.table in
    let own : IsFieldOf passes hit start (cells_of table.size table.marks.items) = subst (λ (f : FieldCells). IsFieldOf passes hit start f) (sym c.self.view_is) field in
    summary_of_table passes hit start table.size table.marks.items c.summary.result table.sound own c.summary.ensures
