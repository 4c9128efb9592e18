use Rattle.match_laws.proofs.ScriptReads.{read_is_script, script_is_read}
use Rattle.match_laws.proofs.scripts.scripts_are_read.Goals as goal

pub returns : goal.returns
returns c m turns bytes = (read_is_script m turns bytes, script_is_read m turns bytes)
