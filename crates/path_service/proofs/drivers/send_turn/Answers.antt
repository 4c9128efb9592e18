use Rattle.std.proofs.Common.{[], Result, subst, sym}
use Rattle.std.proofs.lemmas.Result.{err_from_is_err_and}
use Rattle.nav_types.specs.declared.sequences.NoMemory.{NoMemory}
use Rattle.path_service.specs.inner.Channels.{SendsParts}
use Rattle.path_service.proofs.LaneSteps.{sends_none}
use Rattle.path_service.proofs.drivers.send_turn.Goals as goal

pub returns-in_err-reserve-clause-sends : goal.returns-in_err-reserve-clause-sends
returns-in_err-reserve-clause-sends g c =
    let channels = c.args.channels.now.items in
    let lists = c.args.run.now.replies.replies in
    let refused = err_from_is_err_and c.from_residual.result c.from_residual.ensures.1 in
    ([], subst (λ (r : Result (Unit {0}) NoMemory). SendsParts channels channels lists r []) (sym refused.1) (sends_none channels lists refused.0))

pub returns-in_err-reserve-2-clause-sends : goal.returns-in_err-reserve-2-clause-sends
returns-in_err-reserve-2-clause-sends g c =
    let channels = c.args.channels.now.items in
    let lists = c.args.run.now.replies.replies in
    let refused = err_from_is_err_and c.from_residual-in_err-reserve-2.result c.from_residual-in_err-reserve-2.ensures.1 in
    ([], subst (λ (r : Result (Unit {0}) NoMemory). SendsParts channels channels lists r []) (sym refused.1) (sends_none channels lists refused.0))
