use Rattle.std.proofs.Common.{◌∙◌, ap, Some, map}
use Rattle.serde_json.specs.View.{view}
use Rattle.script_text.proofs.FormValues.{array_items-values}
use Rattle.script_text.proofs.forms.values.items_of.Goals as goal

pub returns-in-Some : goal.returns-in-Some
returns-in-Some c = ap (λ items. Some (map view items)) c.as_slice.ensures.value ∙ array_items-values (view c.args.value.now) _ c.in-Some.ensures
