use Rattle.std.proofs.Common.{◌∙◌, ◌∷◌, ◌++◌, [], List, Option, None, ap}
use Rattle.std.proofs.lemmas.List.{replicate_more}
use Rattle.posts.specs.declared.replies.Answer.{Answer}
use Rattle.turn_model.proofs.machines.running.blank_answers.Goals as goal

pub loop-job-preserved : goal.loop-job-preserved
loop-job-preserved c =
    let nothing : Option Answer = None in
    c.in_ok-push.ensures.items
    ∙ ap (λ (answers : List (Option Answer)). answers ++ nothing ∷ []) c.loop-job.invariant
    ∙ replicate_more c.loop-job._job nothing
