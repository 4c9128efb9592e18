-- The keys so far are there, so the first that is not is among those that are left.
use Rattle.std.proofs.Common.{◌≡◌, drop}
use Rattle.serde_json.specs.View.{view}
use Rattle.script_text.specs.Causes as why
use Rattle.script_text.proofs.causes.strange_keys.first_missing.Given as goal

abbrev pub invariant-loop-key : goal.invariant-loop-key
invariant-loop-key l = why.first_missing (drop l.key-index l.keys) (view l.value) ≡ why.first_missing l.keys (view l.value)
