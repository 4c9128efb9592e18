use Rattle.std.proofs.Common.{Some, true, refl, subst}
use Rattle.path_service.specs.declared.runs.AnsweredRun.{AnsweredRun}
use Rattle.path_service.specs.declared.drivers.Driver.TheInside.{Inside}
use Rattle.path_service.specs.Services.{DriverState}
use Rattle.path_service.specs.Steps.{HasDelivered, HasSentSome}
use Rattle.path_service.specs.inner.Holding.{driver_of}
use Rattle.path_service.proofs.Deliveries.{wide_replies, room_for, sends_of, delivers_by, sends_some_of, delivered_holds, has_delivered, unsent_holds, has_sent_some}
use Rattle.path_service.proofs.drivers.Driver.deliver.Goals as goal

pub send_turn-sent-requires : goal.send_turn-sent-requires
send_turn-sent-requires g c =
    let a = c.self.inside in
    let run : AnsweredRun = c.in-Some.run' in
    let k = sends_of a _ run c.self.view_is c.requires.sound c.self.invariant c.in-Some.ensures.value in
    record { wide = wide_replies a run k.holds k.is; room = room_for a run k.holds k.sound k.is }

pub invariant_of-self : goal.invariant_of-self
invariant_of-self g c =
    let a = c.self.inside in let run : AnsweredRun = c.in-Some.run' in
    let k = sends_of a _ run c.self.view_is c.requires.sound c.self.invariant c.in-Some.ensures.value in
    let b : Inside = record a { channels = c.send_turn-sent.new.channels; running = Some run; journal = c.send_turn-sent.new.journal; replies = c.send_turn-sent.new.all; failed = true } in
    unsent_holds a b run c.in_default-sent.ensures.sends.0 k.holds k.sound k.is c.in_default-sent.ensures.sends.1.are_parts
    (sends_some_of a b run _ _ c.in_default-sent.ensures.sends.1 k.is refl c.in_default-sent.ensures.journal c.in_default-sent.ensures.all)

pub returns-in_default-sent-clause-refused : goal.returns-in_default-sent-clause-refused
returns-in_default-sent-clause-refused g c =
    let a = c.self.inside in let run : AnsweredRun = c.in-Some.run' in
    let k = sends_of a _ run c.self.view_is c.requires.sound c.self.invariant c.in-Some.ensures.value in
    let b : Inside = record a { channels = c.send_turn-sent.new.channels; running = Some run; journal = c.send_turn-sent.new.journal; replies = c.send_turn-sent.new.all; failed = true } in
    subst (λ (d : DriverState). HasSentSome d (driver_of b)) c.self.view_is
    (has_sent_some a b run c.in_default-sent.ensures.sends.0 k.holds k.is c.in_default-sent.ensures.sends.1.are_parts
    (sends_some_of a b run _ _ c.in_default-sent.ensures.sends.1 k.is refl c.in_default-sent.ensures.journal c.in_default-sent.ensures.all))

pub invariant_of-self-2 : goal.invariant_of-self-2
invariant_of-self-2 g c =
    let a = c.self.inside in let run : AnsweredRun = c.in-Some.run' in
    let k = sends_of a _ run c.self.view_is c.requires.sound c.self.invariant c.in-Some.ensures.value in
    let b : Inside = record a { version = run.after; channels = c.send_turn-sent.new.channels; running = c.take.new.self; journal = c.push_reserved.new.self; replies = c.push_reserved-2.new.self } in
    delivered_holds a b run k.holds k.sound k.is
    (delivers_by a b run _ _ _ c.in-Ok.ensures.sends.1 refl c.in-Some.ensures.after c.in-Ok.ensures.journal c.push_reserved.ensures.items c.in-Ok.ensures.all c.push_reserved-2.ensures.items)

pub returns-clause-ok : goal.returns-clause-ok
returns-clause-ok g c =
    let a = c.self.inside in let run : AnsweredRun = c.in-Some.run' in
    let k = sends_of a _ run c.self.view_is c.requires.sound c.self.invariant c.in-Some.ensures.value in
    let b : Inside = record a { version = run.after; channels = c.send_turn-sent.new.channels; running = c.take.new.self; journal = c.push_reserved.new.self; replies = c.push_reserved-2.new.self } in
    subst (λ (d : DriverState). HasDelivered d (driver_of b)) c.self.view_is
    (has_delivered a b run k.holds k.sound k.is
    (delivers_by a b run _ _ _ c.in-Ok.ensures.sends.1 refl c.in-Some.ensures.after c.in-Ok.ensures.journal c.push_reserved.ensures.items c.in-Ok.ensures.all c.push_reserved-2.ensures.items))
