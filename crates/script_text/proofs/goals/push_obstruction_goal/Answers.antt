use Rattle.std.proofs.Common.{◌∷◌, ◌++◌, [], ap, decimal}
use Rattle.std.specs.Prelude.{codes}
use Rattle.serde_json.specs.Written.{compact_text}
use Rattle.script_text.specs.Canon.{decimal_json, goal_json}
use Rattle.script_text.proofs.CanonTexts.{key_text, pair_pieces}
use Rattle.serde_json.proofs.OnLiterals.{serde_json_on_literals}
use Rattle.script_text.proofs.goals.push_obstruction_goal.Goals as goal

pub returns-clause-text : goal.returns-clause-text
unfolding serde_json_on_literals goal_json
returns-clause-text c =
    rw (c.in_ok-push_pieces.ensures.text, c.as_first_member.ensures, c.from.ensures)
    (ap (λ r. c.args.text.now ++ ((123 ∷ key_text (codes "obstruction")) ++ 91 ∷ r)) (pair_pieces (decimal c.args.id) (compact_text (decimal_json c.args.grow)) (125 ∷ [])))
