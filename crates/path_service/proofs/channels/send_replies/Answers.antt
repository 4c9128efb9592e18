use Rattle.std.proofs.Common.{Result, take, sym, ◌∙◌, subst, arith}
use Rattle.std.proofs.lemmas.Result.{err_from_is_err_and}
use Rattle.nav_types.specs.declared.sequences.NoMemory.{NoMemory}
use Rattle.posts.specs.declared.replies.Reply.{Reply}
use Rattle.request_lanes.specs.Ends.{Posting}
use Rattle.path_service.specs.inner.Channels.{SendsPart}
use Rattle.path_service.proofs.LaneSteps.{Sent, sent_none, sent_more, sent_room, sends_part, sends_whole}
use Rattle.path_service.proofs.channels.send_replies.Goals as goal

pub loop-reply-init : goal.loop-reply-init
loop-reply-init g c = sent_none c.args.lane.now c.args.replies.now

pub post-requires : goal.post-requires
post-requires g c = record {
  room = sent_room c.args.lane.now c.loop-reply.lane c.args.replies.now c.loop-reply.reply-index c.loop-reply.invariant c.loop-reply-test.true c.requires;
}

pub loop-reply-preserved : goal.loop-reply-preserved
loop-reply-preserved g c =
    sent_more c.args.lane.now c.loop-reply.lane c.post.new.self c.args.replies.now c.loop-reply.reply-index c.in_ok-copied.copied c.reply-item.result
    c.loop-reply.invariant c.loop-reply-test.true (c.in_ok-copied.ensures ∙ c.reply-item.is) c.in-Ok.ensures.lane c.in-Ok.ensures.posted

pub returns-in_err-copied : goal.returns-in_err-copied
returns-in_err-copied g c =
    let old = c.args.lane.now in
    let lane = c.loop-reply.lane in
    let replies = c.args.replies.now in
    let i = c.loop-reply.reply-index in
    let refused = err_from_is_err_and c.from_residual.result c.from_residual.ensures.1 in (
      take i replies,
      subst (λ (r : Result (Unit {0}) NoMemory). SendsPart old lane replies r (take i replies)) (sym refused.1)
          (sends_part old lane replies i refused.0 c.loop-reply.invariant),
    )

pub returns-in_default : goal.returns-in_default
returns-in_default g c =
    let old = c.args.lane.now in
    let replies = c.args.replies.now in
    let i = c.loop-reply.reply-index in (
      take i replies,
      sends_part old c.post.new.self replies i _ (subst (λ (l : Posting Reply). Sent old l replies i) (sym c.in_default.ensures.refused) c.loop-reply.invariant),
    )

pub returns : goal.returns
returns g c = (
  c.args.replies.now,
  sends_whole c.args.lane.now c.loop-reply.lane c.args.replies.now c.loop-reply.reply-index c.loop-reply.invariant (omega (arith, c.loop-reply-test.false)),
)
