use Rattle.std.proofs.Common.{refl}
use Rattle.turn_model.proofs.ReplyPlaces.{next_is, come_past, none_next}
use Rattle.turn_model.proofs.machines.delivered.next_reply.Goals as goal

pub returns-then-at-replies-clause-reply : goal.returns-then-at-replies-clause-reply
returns-then-at-replies-clause-reply c = λ count come.
    next_is c.args.caller c.args.delivered.now count c.loop-at.at c.index-delivered-at.result
    c.replies_of-replies.result.now c.index-replies-at.result
    c.loop-at-test.true c.index-delivered-at.is c.replies_of-replies.ensures c.if-at-replies.true c.index-replies-at.is
    (c.loop-at.invariant count come)

pub loop-at-preserved : goal.loop-at-preserved
loop-at-preserved c = λ count come.
    come_past c.args.caller c.args.delivered.now count c.loop-at.at _ c.index-delivered-at.result
    c.replies_of-replies.result.now
    c.loop-at-test.true c.index-delivered-at.is c.replies_of-replies.ensures c.if-at-replies.false refl refl
    (c.loop-at.invariant count come)

pub returns-clause-none : goal.returns-clause-none
returns-clause-none c = λ count come.
    none_next c.args.caller c.args.delivered.now count c.loop-at.at c.loop-at-test.false
    (c.loop-at.invariant count come)
