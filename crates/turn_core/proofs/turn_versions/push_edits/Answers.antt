use Rattle.posts.specs.Posts.{edit_of}
use Rattle.turn_core.proofs.TurnEdits.{pushed_some}
use Rattle.turn_core.proofs.turn_versions.push_edits.Goals as goal

pub loop-post-preserved : goal.loop-post-preserved
loop-post-preserved c =
    pushed_some edit_of c.args.edits.now c.loop-post.edits c.push_some.new.items c.args.posts.now c.loop-post.post-index c.post-item.result c.edit.result
    c.loop-post-test.true c.post-item.is c.edit.ensures c.loop-post.invariant c.in_ok-push_some.ensures.ok
