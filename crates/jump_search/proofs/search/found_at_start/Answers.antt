use Rattle.std.proofs.Common.{Bool, IsTrue, subst}
use Rattle.jump_search.proofs.Answering.{answer_at_start}
use Rattle.jump_search.proofs.search.found_at_start.Goals as goal

pub returns-clause-answer : goal.returns-clause-answer
returns-clause-answer g c =
    let q = c.args.question.now in
    let told : IsTrue (g.A.Aim.hit q.aim.now c.size.result q.start) =
    subst (λ (b : Bool). IsTrue b) c.hits.ensures c.if-not-hits.false in
    let is_hit : IsTrue (g.A.Aim.hit q.aim.now (g.R.View.extent q.runs.now) q.start) =
    subst (λ s. IsTrue (g.A.Aim.hit q.aim.now s q.start)) c.size.ensures told in
    answer_at_start _ _ q.start is_hit _ c.new.ensures
