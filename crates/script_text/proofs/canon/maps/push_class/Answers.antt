use Rattle.std.proofs.Common.{◌∷◌}
use Rattle.std.specs.Prelude.{codes}
use Rattle.serde_json.specs.Data.{string}
use Rattle.serde_json.specs.Written.{compact_text}
use Rattle.script_text.proofs.CanonTexts.{key_text, two_pieces}
use Rattle.serde_json.proofs.OnLiterals.{serde_json_on_literals}
use Rattle.script_text.proofs.canon.maps.push_class.Goals as goal

pub returns : goal.returns
unfolding serde_json_on_literals
returns c = rw (c.in_ok-push_pieces.ensures.text, c.in_ok-push_name.ensures.text, c.in_ok-extend.ensures.ok) (two_pieces c.args.text.now (123 ∷ key_text (codes "name")) (compact_text (string c.args.name.now)) _)
