use Rattle.std.proofs.Common.{◌≡◌, ◌<◌, length, refl, sym, ap, ◌∙◌, arith}
use Rattle.std.specs.Prelude.{slice_get, Some}
use Rattle.std.proofs.lemmas.Option.{slice_get_read}
use Rattle.path_service.specs.declared.channels.Channel.{Channel}
use Rattle.path_service.specs.Services.{DriverState, told_of}
use Rattle.path_service.specs.inner.Holding.{driver_of}
use Rattle.path_service.proofs.HeardPorts.{hears_port, same_port, place_within, same_but, same_holds, heard_is}
use Rattle.path_service.proofs.drivers.Driver.hear.Goals as goal

pub index_mut-channel-requires : goal.index_mut-channel-requires
index_mut-channel-requires g c =
    let a = c.self.inside in
    let has = hears_port a _ c.args.caller c.args.notice.lane c.self.view_is c.requires in
    let within : c.args.caller < length a.channels.items = place_within a.channels.items c.args.caller has.0 has.1.0 in
    omega (arith, within, c.from.ensures, a.channels.ok.0)

pub hear-requires : goal.hear-requires
hear-requires g c =
    let a = c.self.inside in
    let k = c.from.result in
    let has = hears_port a _ c.args.caller c.args.notice.lane c.self.view_is c.requires in
    let own : slice_get a.channels.items k ≡ Some has.0 = ap (slice_get a.channels.items) c.from.ensures ∙ has.1.0 in
    let channel : Channel = c.index_mut-channel.result.now in
    let at : slice_get a.channels.items k ≡ Some channel = slice_get_read a.channels.items (length a.channels.items) k channel refl (place_within a.channels.items k has.0 own) c.index_mut-channel.ensures.value in
    sym has.1.1 ∙ ap (λ (p : Channel). p.posts.lane) (same_port a.channels.items k has.0 channel own at)

pub invariant_of-self : goal.invariant_of-self
invariant_of-self g c =
    let a = c.self.inside in let k = c.from.result in let channel : Channel = c.index_mut-channel.result.now in
    let has = hears_port a _ c.args.caller c.args.notice.lane c.self.view_is c.requires in
    let own : slice_get a.channels.items k ≡ Some has.0 = ap (slice_get a.channels.items) c.from.ensures ∙ has.1.0 in
    let at : slice_get a.channels.items k ≡ Some channel = slice_get_read a.channels.items (length a.channels.items) k channel refl (place_within a.channels.items k has.0 own) c.index_mut-channel.ensures.value in
    same_holds a _ k channel (record channel { posts = c.hear.new.self }) c.self.invariant (same_but a k channel _ at (record { lane = c.hear.ensures.lane; taken = c.hear.ensures.taken; replies = refl }))

pub returns : goal.returns
returns g c =
    let a = c.self.inside in let k = c.from.result in let channel : Channel = c.index_mut-channel.result.now in
    let has = hears_port a _ c.args.caller c.args.notice.lane c.self.view_is c.requires in
    let own : slice_get a.channels.items k ≡ Some has.0 = ap (slice_get a.channels.items) c.from.ensures ∙ has.1.0 in
    let at : slice_get a.channels.items k ≡ Some channel = slice_get_read a.channels.items (length a.channels.items) k channel refl (place_within a.channels.items k has.0 own) c.index_mut-channel.ensures.value in
    heard_is a _ k channel (record channel { posts = c.hear.new.self }) c.args.notice.count (same_but a k channel _ at (record { lane = c.hear.ensures.lane; taken = c.hear.ensures.taken; replies = refl })) c.hear.ensures.told
    ∙ ap (λ (n : _). told_of (driver_of a) n c.args.notice.count) c.from.ensures
    ∙ ap (λ (d : DriverState). told_of d c.args.caller c.args.notice.count) c.self.view_is
