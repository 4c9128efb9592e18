use Rattle.script_text.proofs.GrammarLines.{map-is, map-from}
use Rattle.script_text.proofs.laws.map_lines.Goals as goal

pub returns : goal.returns
returns c d map = (map-is d map, map-from d map)
