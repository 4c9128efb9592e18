use Rattle.std.proofs.Common.{◌+◌, List, ◌++◌, length, take, ap, ◌∙◌, subst, arith}
use Rattle.std.specs.Prelude.{sum_by}
use Rattle.std.proofs.lemmas.List.{take_all}
use Rattle.posts.specs.declared.replies.Reply.{Reply}
use Rattle.flat_posts.specs.Replies.{caller_replies, in_bits, waypoint_count}
use Rattle.flat_posts.specs.declared.replied.FlatReply.{FlatReply}
use Rattle.flat_posts.specs.inner.Filling.{IsFilling}
use Rattle.flat_posts.proofs.Told.{caller_replies-more, sum_by-more}
use Rattle.flat_posts.proofs.turns.take_replies.Goals as goal

pub loop-post-preserved : goal.loop-post-preserved
loop-post-preserved c = λ place before all old first filling.
    let replies = c.args.replies.now in
    let post = c.loop-post.post in
    let reply = c.index-replies-post.result in
    let so_far = c.loop-post.invariant place before all old first filling in
    let sum = sum_by-more waypoint_count replies post reply c.loop-post-test.true c.index-replies-post.is in
    let count = ap length c.waypoints_in.ensures in (
      c.with-next.ensures (before + sum_by waypoint_count (take post replies)) so_far.0 ∙ ap (in_bits 64) (omega (arith, sum, count)),
      subst (λ (l : List FlatReply). IsFilling place l old c.take_reply.new.self.ahead c.take_reply.new.self.count c.take_reply.new.buffer)
          (caller_replies-more c.args.caller before c.loop-post.next replies post reply c.of.result all c.loop-post-test.true c.index-replies-post.is so_far.0 c.of.ensures)
          (c.take_reply.ensures place (all ++ caller_replies c.args.caller 0 before (take post replies)) old so_far.1),
    )

pub returns : goal.returns
returns c = λ place before all old first filling.
    subst (λ (l : List Reply). IsFilling place (all ++ caller_replies c.args.caller 0 before l) old c.loop-post.filling.ahead c.loop-post.filling.count c.loop-post.buffer)
    (take_all c.loop-post.post c.args.replies.now (omega (arith, c.loop-post-test.false))) (c.loop-post.invariant place before all old first filling).1
