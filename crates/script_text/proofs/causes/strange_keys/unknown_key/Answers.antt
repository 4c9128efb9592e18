use Rattle.std.proofs.Common.{◌∙◌}
use Rattle.serde_json.specs.View.{view}
use Rattle.script_text.proofs.StrangeKeys.{unknown-entries, unknown-name}
use Rattle.script_text.proofs.causes.strange_keys.unknown_key.Goals as goal

pub returns-in-Some-unknown_among : goal.returns-in-Some-unknown_among
returns-in-Some-unknown_among c =
    unknown-name (view c.args.value.now) c.in-Some.members.now.entries _ _ c.new.result c.in-Some.ensures c.in-Some-unknown_among.ensures c.as_bytes.ensures.value c.new.ensures.some c.new.ensures.bytes

pub returns-in-None : goal.returns-in-None
returns-in-None c = c.in-None.ensures ∙ unknown-entries (view c.args.value.now) c.in-Some.members.now.entries c.in-Some.ensures
