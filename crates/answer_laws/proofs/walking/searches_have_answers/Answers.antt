use Rattle.std.proofs.Common.{inl, inr}
use Rattle.answer_laws.proofs.Choosing.{found}
use Rattle.answer_laws.proofs.walking.searches_have_answers.Goals as goal

pub returns : goal.returns
returns c passes cells whole start hit passing reach = elim (found passes cells whole start passing hit) [
  | inl made ↦ (made.end, (made.cost, (made.points, made.answer)))
  | inr none ↦ absurd (none reach)
]
