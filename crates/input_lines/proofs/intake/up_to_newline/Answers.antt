use Rattle.std.proofs.Common.{sym}
use Rattle.input_lines.proofs.FirstLines.{first_line-some, first_line-none}
use Rattle.input_lines.proofs.intake.up_to_newline.Goals as goal

pub returns-in-Some : goal.returns-in-Some
returns-in-Some c = first_line-some c.args.bytes.now c.in-Some.at (sym c.in-Some.ensures.place)

pub returns-in-None : goal.returns-in-None
returns-in-None c = first_line-none c.args.bytes.now (sym c.in-None.ensures.place)
