-- The text so far, and that of the keys and values that are left, are the text of the whole line after what stood before.
use Rattle.std.proofs.Common.{◌≡◌, ◌++◌, drop, map}
use Rattle.std.specs.Prelude.{zip}
use Rattle.serde_json.specs.Written.{compact_text, members_text}
use Rattle.script_text.specs.Canon.{in_order, form_json}
use Rattle.script_text.specs.Table.{key_text}
use Rattle.script_text.specs.inner.LineValues.{AreLineValues, value_json}
use Rattle.script_text.proofs.canon.form_lines.push_form.Given as goal

abbrev pub invariant-loop-place : goal.invariant-loop-place
invariant-loop-place l =
    (l.text ++ members_text l.later (in_order (zip (map key_text (drop l.place l.keys)) (map value_json (drop l.place l.values))))
    ≡ l.fn.text ++ compact_text (form_json l.fn.version l.fn.form (map value_json l.fn.values)))
    × (AreLineValues (drop l.place l.keys) (drop l.place l.values) → AreLineValues l.keys l.values)
