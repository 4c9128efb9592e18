use Rattle.std.proofs.Common.{arith}
use Rattle.jump_search.proofs.Keeping.{is_place, some_arrival}
use Rattle.jump_search.proofs.known_successors.place_of.Goals as goal

pub returns-clause-place : goal.returns-clause-place
returns-clause-place c =
    is_place c.args.free c.args.arrived c.from-arrival.result c.number_of.result
    (omega (arith, c.from-arrival.ensures, c.arrival_number.ensures, some_arrival c.args.arrived))
    c.number_of.ensures.few c.number_of.ensures.bits
