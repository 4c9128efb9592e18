use Rattle.script_text.proofs.StrangeKeys.{name-utf8}
use Rattle.script_text.proofs.causes.text_of.Goals as goal

pub unreachable-requires : goal.unreachable-requires
unreachable-requires c = c.in-Err.ensures.cases.0 (rw c.as_bytes.ensures.bytes (name-utf8 c.args.name.now c.as_bytes.ensures.form))
