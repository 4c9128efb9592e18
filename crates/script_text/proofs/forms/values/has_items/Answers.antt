use Rattle.std.proofs.Common.{refl}
use Rattle.serde_json.specs.View.{view}
use Rattle.script_text.proofs.FormValues.{has_items-values}
use Rattle.script_text.proofs.forms.values.has_items.Goals as goal

pub returns-in-Some : goal.returns-in-Some
returns-in-Some c = has_items-values (view c.args.value.now) c.in-Some.items.now _ c.args.count c.in-Some.ensures refl
