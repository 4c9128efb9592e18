use Rattle.match_laws.proofs.OutputsExist.{out_exists, can_tell, out_of_no_turn, noted_answer}
use Rattle.match_laws.proofs.outputs.has_out.Goals as goal

pub returns-clause-exactly : goal.returns-clause-exactly
returns-clause-exactly c report bytes = (out_exists report bytes, λ has. can_tell report bytes has.0 has.1)

pub returns-clause-no_turn : goal.returns-clause-no_turn
returns-clause-no_turn c = out_of_no_turn

pub returns-clause-answers : goal.returns-clause-answers
returns-clause-answers c = noted_answer
