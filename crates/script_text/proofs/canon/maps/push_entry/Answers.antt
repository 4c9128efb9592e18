use Rattle.serde_json.proofs.OnLiterals.{serde_json_on_literals}
use Rattle.script_text.proofs.canon.maps.push_entry.Goals as goal

pub returns : goal.returns
unfolding serde_json_on_literals
returns c = rw (c.from.ensures, c.from-2.ensures, c.from-3.ensures, c.from-4.ensures, c.from-5.ensures) at c.push_pieces.ensures.text
