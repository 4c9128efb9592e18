-- No key so far is one too many.
use Rattle.std.proofs.Common.{◌≡◌, drop}
use Rattle.serde_json.specs.View.{view}
use Rattle.script_text.specs.Causes as why
use Rattle.script_text.proofs.causes.strange_keys.first_surplus.Given as goal

abbrev pub invariant-loop-key : goal.invariant-loop-key
invariant-loop-key l = why.first_surplus (drop l.key-index l.among) l.keys (view l.value) ≡ why.first_surplus l.among l.keys (view l.value)
