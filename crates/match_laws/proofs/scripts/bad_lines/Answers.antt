use Rattle.match_laws.proofs.BadLines.{lines_before, no_lines_with, not_whole_script}
use Rattle.match_laws.proofs.scripts.bad_lines.Goals as goal

pub returns-clause-before : goal.returns-clause-before
returns-clause-before c = lines_before

pub returns-clause-there : goal.returns-clause-there
returns-clause-there c = no_lines_with

pub returns-clause-whole : goal.returns-clause-whole
returns-clause-whole c = not_whole_script
