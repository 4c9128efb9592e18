-- No form so far is that of the value.
use Rattle.std.proofs.Common.{◌≡◌, drop}
use Rattle.std.specs.List.{find}
use Rattle.serde_json.specs.View.{view}
use Rattle.script_text.specs.Table as table
use Rattle.script_text.proofs.table.first_form.Given as goal

abbrev pub invariant-loop-form : goal.invariant-loop-form
invariant-loop-form l = find (table.has_form l.version (view l.value)) (drop l.form-index l.forms)
    ≡ find (table.has_form l.version (view l.value)) l.forms
