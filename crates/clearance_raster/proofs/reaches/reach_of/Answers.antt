use Rattle.clearance_raster.proofs.BlockedColumns.{if_none, if_none_then}
use Rattle.clearance_raster.proofs.Reaching.{near_where_blocked, none_blocked}
use Rattle.clearance_raster.proofs.reaches.reach_of.Goals as goal
use Rattle.obstruction_shapes.proofs.Near.{IsNear-rises}
use Rattle.std.proofs.lemmas.Option.{IfSome_then}

pub returns-clause-none_near : goal.returns-clause-none_near
returns-clause-none_near c =
    let most = c.in_ok-greatest.ensures.greatest.most in
    if_none_then c.reach_rect.result c.reach_rect.ensures.none_near (λ none other is cell inside near.
    none cell inside (IsNear-rises c.args.obstruction.now.shape other c.in_ok-greatest.greatest cell (most is.class other is.in_mask is.of_class) near))

pub returns-clause-blocked : goal.returns-clause-blocked
returns-clause-blocked c =
    IfSome_then c.reach_rect.result c.reach_rect.ensures.near (λ rect near k cell inside blocks.
    (near cell inside).1 (near_where_blocked c.args.obstruction.now c.args.classes.now c.in_ok-greatest.greatest k cell c.requires.unit_vector
    c.in_ok-greatest.ensures.greatest blocks))

pub returns-clause-none_blocked : goal.returns-clause-none_blocked
returns-clause-none_blocked c =
    if_none_then c.reach_rect.result c.reach_rect.ensures.none_near (λ none k cell inside blocks.
    none cell inside (near_where_blocked c.args.obstruction.now c.args.classes.now c.in_ok-greatest.greatest k cell c.requires.unit_vector
    c.in_ok-greatest.ensures.greatest blocks))

pub returns-clause-inside : goal.returns-clause-inside
returns-clause-inside c = c.reach_rect.ensures.inside

pub returns-clause-near : goal.returns-clause-near
returns-clause-near c = IfSome_then c.reach_rect.result c.reach_rect.ensures.near
    (λ rect near. (c.in_ok-greatest.greatest, (c.in_ok-greatest.ensures.greatest, near)))

pub returns-in_err-greatest-clause-near : goal.returns-in_err-greatest-clause-near
returns-in_err-greatest-clause-near c = rw c.from_residual.ensures tt

pub returns-in_err-greatest-clause-none_near : goal.returns-in_err-greatest-clause-none_near
returns-in_err-greatest-clause-none_near c = if_none c.from_residual.result
    (λ greatest is cell inside near. c.in_err-greatest.ensures.none is.class greatest is.in_mask is.of_class)

pub returns-in_err-greatest-clause-blocked : goal.returns-in_err-greatest-clause-blocked
returns-in_err-greatest-clause-blocked c = rw c.from_residual.ensures tt

pub returns-in_err-greatest-clause-none_blocked : goal.returns-in_err-greatest-clause-none_blocked
returns-in_err-greatest-clause-none_blocked c = if_none c.from_residual.result
    (λ k cell inside blocks. none_blocked c.args.obstruction.now c.args.classes.now k cell c.in_err-greatest.ensures.none blocks)
