use Rattle.jump_scan.proofs.Pruned.{kept_diagonal}
use Rattle.jump_scan.proofs.pruning.after_diagonal.Goals as goal

pub returns : goal.returns
returns g c = kept_diagonal (g.V.View.passes c.args.view.now c.args.class) c.args.cell c.args.arrived c.row_part-row.result c.column_part-column.result
    c.is_free_beside-is_row.result c.is_free_beside-is_column.result c.is_legal_between-is_onward.result
    c.new.result c.with_where-along_row.result c.with_where-along_both.result c.with_where.result
    c.requires.diagonal c.requires.passable c.row_part-row.ensures c.column_part-column.ensures
    c.is_free_beside-is_row.ensures c.is_free_beside-is_column.ensures c.is_legal_between-is_onward.ensures c.new.ensures
    c.with_where-along_row.ensures c.with_where-along_both.ensures c.with_where.ensures
