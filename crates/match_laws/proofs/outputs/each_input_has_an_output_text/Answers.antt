use Rattle.match_laws.proofs.OutputsExist.{each_out}
use Rattle.match_laws.proofs.outputs.each_input_has_an_output_text.Goals as goal

pub returns : goal.returns
returns c = each_out
