use Rattle.fixed_point.proofs.ReadsBack.{is_in_grammar}
use Rattle.fixed_point.proofs.laws.text_is_in_grammar.Goals as goal

pub returns : goal.returns
returns c = is_in_grammar
