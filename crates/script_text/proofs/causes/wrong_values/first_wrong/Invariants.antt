-- The keys so far have what is wanted, so the first wrong one is among those that are left.
use Rattle.std.proofs.Common.{◌≡◌, drop, map}
use Rattle.serde_json.specs.View.{view}
use Rattle.script_text.specs.Causes as why
use Rattle.script_text.proofs.causes.wrong_values.first_wrong.Given as goal

abbrev pub invariant-loop-key : goal.invariant-loop-key
invariant-loop-key l = why.first_wrong (map (why.field_of l.rules l.turn) (drop l.key-index l.keys)) (view l.value)
    ≡ why.first_wrong (map (why.field_of l.rules l.turn) l.keys) (view l.value)
