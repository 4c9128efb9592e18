use Rattle.input_lines.proofs.Newlines.{found_newline}
use Rattle.input_lines.proofs.intake.first_newline.Goals as goal

pub returns-clause-place : goal.returns-clause-place
returns-clause-place c = found_newline c.args.bytes.now c.memchr.result c.memchr.ensures
