use Rattle.std.proofs.Common.{[], length, refl, ◌∙◌}
use Rattle.std.proofs.lemmas.List.{get_or_default}
use Rattle.std.proofs.lemmas.Option.{slice_get_read}
use Rattle.path_service.proofs.LaneSteps.{fills_at}
use Rattle.path_service.proofs.channels.fill_at.Goals as goal

pub returns : goal.returns
returns g c =
    let channels = c.args.channels.now.items in
    let all_pending = c.args.all_pending.now.items in
    let channel = c.index_mut-channel.result.now in
    let pending = c.index_mut.result.now in (
      c.fill.ensures.0,
      fills_at channels _ all_pending _ c.args.caller c.args.room c.fill.result channel c.fill.new.self pending c.fill.new.pending c.fill.ensures.0
          (slice_get_read channels (length channels) c.args.caller channel refl c.requires.channel c.index_mut-channel.ensures.value)
          (c.index_mut.ensures.value ∙ get_or_default all_pending c.args.caller pending [] c.requires.pending) c.fill.ensures.1 refl refl,
    )
