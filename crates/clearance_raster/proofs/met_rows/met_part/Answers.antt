use Rattle.std.proofs.lemmas.Option.{IfSome_then}
use Rattle.clearance_raster.proofs.BlockedColumns.{if_none, if_none_then}
use Rattle.clearance_raster.proofs.met_rows.met_part.Goals as goal

pub returns-in_err-reach-clause-none : goal.returns-in_err-reach-clause-none
returns-in_err-reach-clause-none c = if_none c.from_residual.result c.in_err-reach.ensures.none

pub returns-clause-blocked : goal.returns-clause-blocked
returns-clause-blocked c = IfSome_then c.met_rows.result c.met_rows.ensures.blocked
    (λ rows holds cell inside hit. holds cell (c.in_ok-reach.ensures.blocked cell inside hit) hit)

pub returns-clause-none : goal.returns-clause-none
returns-clause-none c = if_none_then c.met_rows.result c.met_rows.ensures.none
    (λ none cell inside hit. none cell (c.in_ok-reach.ensures.blocked cell inside hit) hit)
