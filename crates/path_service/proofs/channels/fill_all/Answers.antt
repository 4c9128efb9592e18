use Rattle.std.proofs.Common.{◌≡◌, List, [], ◌∷◌, ◌++◌, length, ap, ◌∙◌, arith}
use Rattle.posts.specs.declared.posts.Post.{Post}
use Rattle.path_service.specs.inner.Channels.{gained, joins}
use Rattle.path_service.proofs.Zips.{length-zipped}
use Rattle.path_service.proofs.LaneSteps.{filled_none, filled_more, filled_all}
use Rattle.path_service.proofs.channels.fill_all.Goals as goal

pub loop-caller-init : goal.loop-caller-init
loop-caller-init g c = ([], filled_none c.args.channels.now.items c.args.all_pending.now.items c.args.room)

pub fill_at-left-requires : goal.fill_at-left-requires
fill_at-left-requires g c =
    let got = c.loop-caller.invariant.0 in
    let filled = c.loop-caller.invariant.1 in
    let channels : length c.loop-caller.channels.items ≡ length c.args.channels.now.items = ap length filled.channels ∙ length-zipped gained c.args.channels.now.items got in
    let all_pending : length c.loop-caller.all_pending.items ≡ length c.args.all_pending.now.items = ap length filled.all_pending ∙ length-zipped joins c.args.all_pending.now.items got in
    record {
      channel = omega (arith, channels, c.loop-caller-test.true, c.len-caller-end.ensures);
      pending = omega (arith, all_pending, c.requires.wide, c.loop-caller-test.true, c.len-caller-end.ensures);
    }

pub loop-caller-preserved : goal.loop-caller-preserved
loop-caller-preserved g c =
    let got = c.loop-caller.invariant.0 in
    let more : List Post = c.fill_at-left.ensures.0 in (
      got ++ more ∷ [],
      filled_more c.args.channels.now.items c.loop-caller.channels.items c.fill_at-left.new.channels.items c.args.all_pending.now.items c.loop-caller.all_pending.items c.fill_at-left.new.all_pending.items c.args.room c.loop-caller.caller c.loop-caller.left c.fill_at-left.result
          got more c.loop-caller.invariant.1 c.requires.wide (omega (arith, c.loop-caller-test.true, c.len-caller-end.ensures)) c.requires.room c.fill_at-left.ensures.1,
    )

pub returns : goal.returns
returns g c =
    let got = c.loop-caller.invariant.0 in (
      got,
      filled_all c.args.channels.now.items c.loop-caller.channels.items c.args.all_pending.now.items c.loop-caller.all_pending.items c.args.room c.loop-caller.caller c.loop-caller.left got c.loop-caller.invariant.1
          (omega (arith, c.loop-caller-test.false, c.loop-caller.auto.caller-end, c.len-caller-end.ensures)),
    )
