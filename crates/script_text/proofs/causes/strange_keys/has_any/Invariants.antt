-- Nothing stands under the keys so far.
use Rattle.std.proofs.Common.{◌≡◌, drop}
use Rattle.serde_json.specs.View.{view}
use Rattle.script_text.specs.Causes as why
use Rattle.script_text.proofs.causes.strange_keys.has_any.Given as goal

abbrev pub invariant-loop-key : goal.invariant-loop-key
invariant-loop-key l = why.has_any (drop l.key-index l.keys) (view l.value) ≡ why.has_any l.keys (view l.value)
