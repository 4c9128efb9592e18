use Rattle.std.proofs.Common.{◌<◌, length, refl, ◌∙◌, arith}
use Rattle.std.proofs.lemmas.Option.{slice_get_read}
use Rattle.path_service.specs.declared.channels.Channel.{Channel}
use Rattle.path_service.proofs.HeardPorts.{port_within, same_but, same_holds, notice_is, reply_lane_at, sent_count_at}
use Rattle.path_service.proofs.drivers.Driver.notice.Goals as goal

pub index_mut-channel-requires : goal.index_mut-channel-requires
index_mut-channel-requires g c =
    let a = c.self.inside in
    let within : c.args.caller < length a.channels.items = port_within a _ c.args.caller c.self.view_is c.requires in
    omega (arith, within, c.from.ensures, a.channels.ok.0)

pub invariant_of-self : goal.invariant_of-self
invariant_of-self g c =
    let a = c.self.inside in let k = c.from.result in let channel : Channel = c.index_mut-channel.result.now in
    let within : k < length a.channels.items = omega (arith, port_within a _ c.args.caller c.self.view_is c.requires, c.from.ensures) in
    same_holds a _ k channel (record channel { replies = c.notice.new.self }) c.self.invariant
    (same_but a k channel _ (slice_get_read a.channels.items (length a.channels.items) k channel refl within c.index_mut-channel.ensures.value) (record { lane = refl; taken = refl; replies = c.notice.ensures.same }))

pub returns : goal.returns
returns g c =
    let a = c.self.inside in let k = c.from.result in let channel : Channel = c.index_mut-channel.result.now in
    let within : k < length a.channels.items = omega (arith, port_within a _ c.args.caller c.self.view_is c.requires, c.from.ensures) in
    let at = slice_get_read a.channels.items (length a.channels.items) k channel refl within c.index_mut-channel.ensures.value in
    record {
      same =
          notice_is a _ k channel (record channel { replies = c.notice.new.self }) (same_but a k channel _ at (record { lane = refl; taken = refl; replies = c.notice.ensures.same }))
          (λ i. record channel { replies = c.notice.ensures.same i })
          ∙ c.self.view_is;
      lane = reply_lane_at a _ c.args.caller k channel c.notice.result.lane c.self.view_is c.from.ensures at c.notice.ensures.lane;
      count = c.notice.ensures.count ∙ sent_count_at a _ c.args.caller k channel c.self.view_is c.from.ensures at;
    }
