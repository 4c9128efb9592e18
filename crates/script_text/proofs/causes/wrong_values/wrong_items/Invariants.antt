-- The items so far are rectangles, and as many as were counted.
use Rattle.std.proofs.Common.{◌≡◌, drop, map}
use Rattle.serde_json.specs.View.{view}
use Rattle.script_text.specs.Causes as why
use Rattle.script_text.proofs.causes.wrong_values.wrong_items.Given as goal

abbrev pub invariant-loop-item : goal.invariant-loop-item
invariant-loop-item l = (l.number ≡ l.item-index)
    × (why.wrong_items l.size l.field l.number (map view (drop l.item-index l.items)) ≡ why.wrong_items l.size l.field 0 (map view l.items))
