use Rattle.std.proofs.Common.{List, length, take, ap, ◌∙◌, subst, sym, arith, refl}
use Rattle.std.specs.Prelude.{sum_by}
use Rattle.std.proofs.lemmas.List.{take_all}
use Rattle.posts.specs.declared.replies.Reply.{Reply}
use Rattle.flat_posts.specs.Posts.{bare_post}
use Rattle.flat_posts.specs.Replies.{in_bits, flat_reply, replies_to, waypoint_count}
use Rattle.flat_posts.specs.declared.replied.FlatReply.{FlatReply}
use Rattle.flat_posts.specs.Pages.{IsPage}
use Rattle.flat_posts.specs.inner.Filling.{IsFilling}
use Rattle.flat_posts.proofs.Filled.{filling-none}
use Rattle.flat_posts.proofs.Told.{replies_to-more, replies_to-none, sum_by-more}
use Rattle.flat_posts.proofs.turns.write_replies_to.Goals as goal

pub loop-place-init : goal.loop-place-init
loop-place-init c = (refl, subst (λ (l : List FlatReply). IsFilling 0 l c.args.buffer.now 0 0 c.args.buffer.now) (sym (replies_to-none c.args.posts.now)) (filling-none 0 c.args.buffer.now))

pub loop-place-preserved : goal.loop-place-preserved
loop-place-preserved c =
    let replies = c.args.replies.now in
    let place = c.loop-place.place in
    let reply = c.index-replies-place.result in
    let sum = sum_by-more waypoint_count replies place reply c.loop-place-test.true c.index-replies-place.is in
    let count = ap length c.waypoints_in.ensures in (
      c.with-first.ensures (sum_by waypoint_count (take place replies)) c.loop-place.invariant.0 ∙ ap (in_bits 64) (omega (arith, sum, count)),
      subst (λ (l : List FlatReply). IsFilling 0 l c.args.buffer.now c.take_reply.new.self.ahead c.take_reply.new.self.count c.take_reply.new.buffer)
          (replies_to-more c.args.posts.now (bare_post 0 0) c.loop-place.first replies place reply c.of.result c.requires c.loop-place-test.true
          c.index-replies-place.is c.loop-place.invariant.0 (c.of.ensures ∙ ap (λ n. flat_reply n place c.loop-place.first reply) c.from.ensures))
          (c.take_reply.ensures 0 (replies_to c.args.posts.now (take place replies)) c.args.buffer.now c.loop-place.invariant.1),
    )

pub returns : goal.returns
returns c =
    subst (λ (l : List Reply). IsPage 0 (replies_to c.args.posts.now l) c.args.buffer.now c.loop-place.buffer c.loop-place.filling.count)
    (take_all c.loop-place.place c.args.replies.now (omega (arith, c.loop-place-test.false))) c.loop-place.invariant.1.page
