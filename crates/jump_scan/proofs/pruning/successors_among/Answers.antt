use Rattle.std.proofs.Common.{sym, subst}
use Rattle.nav_types.specs.declared.directions.Dir.{Dir}
use Rattle.jump_scan.specs.Successors.{AreSuccessors}
use Rattle.jump_scan.proofs.pruning.successors_among.Goals as goal

pub returns-in-N : goal.returns-in-N
returns-in-N c = subst (λ (arrived : Dir). AreSuccessors c.args.free arrived c.straight_among.result) (sym c.in-N.is) c.straight_among.ensures

pub returns-in-E : goal.returns-in-E
returns-in-E c = subst (λ (arrived : Dir). AreSuccessors c.args.free arrived c.straight_among-in-E.result) (sym c.in-E.is) c.straight_among-in-E.ensures

pub returns-in-S : goal.returns-in-S
returns-in-S c = subst (λ (arrived : Dir). AreSuccessors c.args.free arrived c.straight_among-in-S.result) (sym c.in-S.is) c.straight_among-in-S.ensures

pub returns-in-W : goal.returns-in-W
returns-in-W c = subst (λ (arrived : Dir). AreSuccessors c.args.free arrived c.straight_among-in-W.result) (sym c.in-W.is) c.straight_among-in-W.ensures

pub returns-in-NE : goal.returns-in-NE
returns-in-NE c = subst (λ (arrived : Dir). AreSuccessors c.args.free arrived c.diagonal_among.result) (sym c.in-NE.is) c.diagonal_among.ensures

pub returns-in-SE : goal.returns-in-SE
returns-in-SE c = subst (λ (arrived : Dir). AreSuccessors c.args.free arrived c.diagonal_among-in-SE.result) (sym c.in-SE.is) c.diagonal_among-in-SE.ensures

pub returns-in-SW : goal.returns-in-SW
returns-in-SW c = subst (λ (arrived : Dir). AreSuccessors c.args.free arrived c.diagonal_among-in-SW.result) (sym c.in-SW.is) c.diagonal_among-in-SW.ensures

pub returns-in-NW : goal.returns-in-NW
returns-in-NW c = subst (λ (arrived : Dir). AreSuccessors c.args.free arrived c.diagonal_among-in-NW.result) (sym c.in-NW.is) c.diagonal_among-in-NW.ensures
