use Rattle.posts.specs.Posts.{request_of}
use Rattle.turn_core.proofs.TurnEdits.{pushed_some}
use Rattle.turn_core.proofs.turn_versions.push_requests.Goals as goal

pub loop-post-preserved : goal.loop-post-preserved
loop-post-preserved c =
    pushed_some request_of c.args.made.now c.loop-post.made c.push_some.new.items c.args.posts.now c.loop-post.post-index c.post-item.result c.request.result
    c.loop-post-test.true c.post-item.is c.request.ensures c.loop-post.invariant c.in_ok-push_some.ensures.ok
