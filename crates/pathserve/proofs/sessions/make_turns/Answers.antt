use Rattle.pathserve.proofs.DrivenTurns.{come_to_stage, come_to_turn}
use Rattle.pathserve.proofs.sessions.make_turns.Goals as goal

pub loop-preserved-then-next-eq0 : goal.loop-preserved-then-next-eq0
loop-preserved-then-next-eq0 g c = record {
  can_next = tt;
  finite = tt;
  takes = c.loop.invariant.takes;
  come = come_to_stage c.args.driver.now c.loop.driver c.stage.new.self c.loop.delivered c.loop.next c.in_ok-next.next
      c.loop.invariant.come c.in_ok-next.ensures.ok c.in_ok-next.ensures.rest;
}

pub loop-preserved : goal.loop-preserved
loop-preserved g c = record {
  can_next = tt;
  finite = tt;
  takes = λ count few. c.start.ensures.takes count (c.loop.invariant.takes count few);
  come = come_to_turn c.args.driver.now c.loop.driver c.start.new.self c.deliver.new.self c.loop.delivered c.loop.next c.in_ok-next-2.next
      c.loop.invariant.come c.in_ok-next-2.ensures.ok c.in_ok-next-2.ensures.rest c.in_ok-deliver.ensures.ok;
}
