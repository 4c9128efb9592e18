use Rattle.script_text.proofs.BackScript.{script-reads}
use Rattle.script_text.proofs.laws.canonical_reads_back.Goals as goal

pub returns : goal.returns
returns c m turns value are limits = script-reads m turns value are limits
