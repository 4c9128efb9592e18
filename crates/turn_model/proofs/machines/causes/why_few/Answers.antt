use Rattle.std.proofs.Common.{◌∙◌, ◌≤◌, length, sym, arith}
use Rattle.turn_model.proofs.StagedTurns.{why_few_skips, why_few_here, why_few_none}
use Rattle.turn_model.proofs.machines.causes.why_few.Goals as goal

pub loop-caller-preserved : goal.loop-caller-preserved
loop-caller-preserved c =
    sym (why_few_skips c.args.posted.now c.args.taken.now c.args.takes.now c.loop-caller.caller c.index-posted-caller.result
    c.number_at.result c.number_at-wanted.result c.left_of-left.result c.loop-caller-test.true c.index-posted-caller.is
    c.number_at.ensures.value c.number_at-wanted.ensures.value c.left_of-left.ensures c.if-wanted-left.false)
    ∙ c.loop-caller.invariant

pub returns-then-wanted-left : goal.returns-then-wanted-left
returns-then-wanted-left c =
    sym (why_few_here c.args.posted.now c.args.taken.now c.args.takes.now c.loop-caller.caller c.index-posted-caller.result
    c.number_at.result c.number_at-wanted.result c.left_of-left.result c.loop-caller-test.true c.index-posted-caller.is
    c.number_at.ensures.value c.number_at-wanted.ensures.value c.left_of-left.ensures c.if-wanted-left.true)
    ∙ c.loop-caller.invariant

pub returns : goal.returns
returns c =
    let past : length c.args.posted.now ≤ c.loop-caller.caller = omega arith in
    sym (why_few_none c.args.posted.now c.args.taken.now c.args.takes.now c.loop-caller.caller past) ∙ c.loop-caller.invariant
