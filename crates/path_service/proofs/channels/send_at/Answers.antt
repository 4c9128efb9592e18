use Rattle.std.proofs.Common.{length, refl}
use Rattle.std.proofs.lemmas.Option.{slice_get_read}
use Rattle.path_service.proofs.LaneSteps.{sends_at}
use Rattle.path_service.proofs.channels.send_at.Goals as goal

pub send_replies-requires : goal.send_replies-requires
send_replies-requires g c =
    let channels = c.args.channels.now.items in
    let channel = c.index_mut-channel.result.now in
    c.requires.room channel (slice_get_read channels (length channels) c.args.caller channel refl c.requires.channel c.index_mut-channel.ensures.value)

pub returns : goal.returns
returns g c =
    let channels = c.args.channels.now.items in
    let channel = c.index_mut-channel.result.now in (
      c.send_replies.ensures.0,
      sends_at channels _ c.args.caller c.args.replies.now c.send_replies.result channel (record channel { replies = c.send_replies.new.lane }) c.send_replies.ensures.0
          (slice_get_read channels (length channels) c.args.caller channel refl c.requires.channel c.index_mut-channel.ensures.value) c.send_replies.ensures.1 refl refl,
    )
