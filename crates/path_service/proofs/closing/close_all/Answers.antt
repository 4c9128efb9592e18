use Rattle.std.proofs.Common.{◌≡◌, [], ◌∷◌, length, ap, ◌∙◌, sym, subst, arith, rules, length-append}
use Rattle.std.specs.Vec.Iter.{into_iter_items, into_iter_len}
use Rattle.std.proofs.lemmas.List.{nil_from_length}
use Rattle.path_service.specs.inner.Closing.{ClosePorts}
use Rattle.path_service.proofs.ClosedLanes.{closes_none, closes_port, closes_short, closes_more, closes_all}
use Rattle.path_service.proofs.closing.close_all.Goals as goal

pub loop-channel-init : goal.loop-channel-init
loop-channel-init g c =
    let channels = into_iter_items c.into_iter-channel-iterator.result in
    let callers = into_iter_items c.into_iter-callers.result in
    let all : channels ≡ c.args.channels.items = c.into_iter-channel-iterator.ensures.into_iter_gives.0 in
    let whole : callers ≡ c.args.ended = c.into_iter-callers.ensures.rest ∙ c.into_items.ensures in
    let few : into_iter_len c.into_iter-channel-iterator.result ≡ length c.args.channels.items = search rules in
    let count : into_iter_len c.into_iter-callers.result ≡ length c.into_items.result.items = search rules in
    record {
      closes = closes_none c.args.channels.items channels c.args.ended callers c.args.room.items all whole c.requires.empty c.requires.lanes;
      room = omega (arith, ap length all, ap length c.requires.empty, c.requires.room);
      channels = few ∙ ap length (sym all);
      callers = count ∙ ap length (sym c.into_iter-callers.ensures.rest);
    }

pub unreachable-requires : goal.unreachable-requires
unreachable-requires g c =
    let none : into_iter_items c.loop-channel.callers ≡ [] = nil_from_length _ (sym c.loop-channel.invariant.callers ∙ c.in_default.ensures.cases.0) in
    closes_short c.args.channels.items c.args.ended (into_iter_items c.loop-channel.channel-iterator) (into_iter_items c.loop-channel.callers) c.loop-channel.closed.items c.in-Some.channel (into_iter_items c.next.new.self)
    c.loop-channel.invariant.closes c.in-Some.ensures.steps.0 none

pub close_port-requires : goal.close_port-requires
close_port-requires g c =
    closes_port c.args.channels.items c.args.ended (into_iter_items c.loop-channel.channel-iterator) (into_iter_items c.loop-channel.callers) c.loop-channel.closed.items c.in-Some.channel c.in-Some-next.caller
    (into_iter_items c.next.new.self) (into_iter_items c.next-in-loop-channel.new.self) c.loop-channel.invariant.closes c.in-Some.ensures.steps.0 c.in-Some-next.ensures.cases.0

pub push_reserved-requires : goal.push_reserved-requires
push_reserved-requires g c = omega (arith, c.loop-channel.invariant.room, ap length c.in-Some.ensures.steps.0)

pub loop-channel-preserved : goal.loop-channel-preserved
loop-channel-preserved g c =
    let before = c.loop-channel.invariant in
    let channel = c.in-Some.channel in
    let caller = c.in-Some-next.caller in
    let items = c.push_reserved.ensures.items in
    let channels = ap length c.in-Some.ensures.steps.0 in
    let callers = ap length c.in-Some-next.ensures.cases.0 in
    record {
      closes = closes_more c.args.channels.items c.args.ended (into_iter_items c.loop-channel.channel-iterator) (into_iter_items c.loop-channel.callers) c.loop-channel.closed.items c.push_reserved.new.self.items
          channel caller c.close_port.result (into_iter_items c.next.new.self) (into_iter_items c.next-in-loop-channel.new.self)
          before.closes c.in-Some.ensures.steps.0 c.in-Some-next.ensures.cases.0 c.close_port.ensures items;
      room = omega (arith, before.room, channels, ap length items, length-append c.loop-channel.closed.items (c.close_port.result ∷ []), c.push_reserved.ensures.capacity);
      channels = omega (arith, before.channels, channels, c.in-Some.ensures.steps.1);
      callers = omega (arith, before.callers, callers, c.in-Some-next.ensures.cases.1);
    }

pub returns : goal.returns
returns g c =
    let none : into_iter_items c.loop-channel.channel-iterator ≡ [] = nil_from_length _ (sym c.loop-channel.invariant.channels ∙ c.in-None.ensures.steps.0) in
    subst (ClosePorts c.args.channels.items c.args.ended) (sym c.from.ensures)
    (closes_all c.args.channels.items c.args.ended (into_iter_items c.loop-channel.channel-iterator) (into_iter_items c.loop-channel.callers) c.loop-channel.closed.items c.loop-channel.invariant.closes none)
