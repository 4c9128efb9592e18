use Rattle.std.proofs.Common.{[], ◌∷◌, ap, length, ◌∙◌, arith, length-append}
use Rattle.path_service.proofs.NewDrivers.{open_none, open_more}
use Rattle.path_service.proofs.services.open_lanes.Goals as goal

pub loop-number-init : goal.loop-number-init
loop-number-init g c = record {
  are = open_none c.in_ok-channels.channels.items c.in_ok-callers.callers.items c.in_ok-channels.ensures.items c.in_ok-callers.ensures.items;
  count = ap length c.in_ok-callers.ensures.items;
  ports_room = omega (arith, c.in_ok-channels.ensures.capacity, c.from-room.ensures);
  callers_room = omega (arith, c.in_ok-callers.ensures.capacity, c.from-room.ensures);
}

pub push_reserved-requires : goal.push_reserved-requires
push_reserved-requires g c =
    omega (arith, c.loop-number.invariant.are.count, c.loop-number.invariant.ports_room, c.loop-number-test.true)

pub loop-number-preserved : goal.loop-number-preserved
loop-number-preserved g c =
    let before = c.loop-number.invariant in
    let channels = c.loop-number.channels.items in
    let callers = c.loop-number.callers.items in
    record {
      are = open_more c.loop-number.number channels c.push_reserved.new.self.items callers c.push_reserved-in-loop-number.new.self.items c.in_ok-channel.channel c.in_ok-channel.caller before.are
          c.in_ok-channel.ensures.channel c.in_ok-channel.ensures.caller c.push_reserved.ensures.items c.push_reserved-in-loop-number.ensures.items;
      count = omega (arith, before.count, ap length c.push_reserved-in-loop-number.ensures.items, length-append callers (c.in_ok-channel.caller ∷ []));
      ports_room = omega (arith, before.ports_room, c.push_reserved.ensures.capacity);
      callers_room = omega (arith, before.callers_room, c.push_reserved-in-loop-number.ensures.capacity);
    }

pub returns-clause-callers : goal.returns-clause-callers
returns-clause-callers g c = c.from.ensures ∙ c.loop-number.invariant.are.callers
