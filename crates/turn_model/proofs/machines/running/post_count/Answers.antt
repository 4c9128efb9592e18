use Rattle.std.proofs.Common.{List, Option, length, sym, ap, ◌∙◌}
use Rattle.posts.specs.declared.posts.Post.{Post}
use Rattle.posts.specs.Callers.{list_of}
use Rattle.turn_model.specs.declared.machines.running.RunningTurn.{RunningTurn}
use Rattle.turn_model.specs.inner.Runs.{posts_held}
use Rattle.turn_model.proofs.DeliveredReplies.{no_list}
use Rattle.turn_model.proofs.machines.running.post_count.Goals as goal

pub returns-in-None : goal.returns-in-None
returns-in-None c =
    ap length (no_list c.posts.result.now c.args.caller (sym c.in-None.ensures) ∙ ap (λ (turn : List (List Post)). list_of turn c.args.caller) c.posts.ensures)
    ∙ ap (λ (turn : Option RunningTurn). length (posts_held turn c.args.caller)) (sym c.in-Some.is)
