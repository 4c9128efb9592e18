-- The text so far, and that of the classes that are left, are the text of the whole array after what stood before.
use Rattle.std.proofs.Common.{◌≡◌, ◌++◌, drop, map}
use Rattle.serde_json.specs.View.{items_of}
use Rattle.serde_json.specs.Written.{compact_text, items_text}
use Rattle.script_text.specs.Canon.{list_json, class_json}
use Rattle.script_text.proofs.canon.maps.push_classes.Given as goal

abbrev pub invariant-loop-number : goal.invariant-loop-number
invariant-loop-number l = l.text ++ items_text l.later (items_of (map class_json (drop l.number l.classes))) ≡ l.fn.text ++ compact_text (list_json (map class_json l.fn.classes))
