use Rattle.std.proofs.Common.{◌∙◌, sym}
use Rattle.jump_scan.proofs.Pruned.{kept_diagonal}
use Rattle.jump_scan.proofs.pruning.diagonal_among.Goals as goal

pub returns : goal.returns
returns c = λ passes cell here are.
    kept_diagonal passes cell c.args.arrived c.row_part-row.result c.column_part-column.result
    c.has-is_row.result c.has-is_column.result c.is_legal_among-is_onward.result
    c.new-none.result c.with_where-along_row.result c.with_where-along_both.result c.with_where.result
    c.requires.diagonal here c.row_part-row.ensures c.column_part-column.ensures
    ((λ on. (are c.row_part-row.result).0 (sym c.has-is_row.ensures ∙ on)), (λ free. c.has-is_row.ensures ∙ (are c.row_part-row.result).1 free))
    ((λ on. (are c.column_part-column.result).0 (sym c.has-is_column.ensures ∙ on)), (λ free. c.has-is_column.ensures ∙ (are c.column_part-column.result).1 free))
    (c.is_legal_among-is_onward.ensures passes cell here are)
    c.new-none.ensures c.with_where-along_row.ensures c.with_where-along_both.ensures c.with_where.ensures
