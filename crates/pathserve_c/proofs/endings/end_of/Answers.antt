use Rattle.std.proofs.Common.{subst, sym}
use Rattle.posts.specs.declared.posts.Request.{Request}
use Rattle.posts.specs.declared.replies.Answer.{Answer}
use Rattle.turn_core.specs.Solving.{IsAnswerTo}
use Rattle.pathserve_c.specs.Endings.{EndsAs}
use Rattle.pathserve_c.proofs.endings.end_of.Goals as goal

pub returns : goal.returns
returns c =
    let v = c.args.version.now in
    subst (λ (request : Request). (told : Answer) → IsAnswerTo v.map v.standing request told → EndsAs told c.end_by_name.result)
    (sym c.in-Path.is) c.end_by_name.ensures
