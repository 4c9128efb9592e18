use Rattle.std.proofs.Common.{◌≡◌, List, [], ◌∷◌, ◌++◌, Result, length, take, sym, ap, ◌∙◌, subst, arith}
use Rattle.std.proofs.lemmas.Result.{err_from_is_err_and}
use Rattle.nav_types.specs.declared.sequences.NoMemory.{NoMemory}
use Rattle.posts.specs.declared.replies.Reply.{Reply}
use Rattle.path_service.specs.inner.Channels.{sends, SendsParts}
use Rattle.path_service.proofs.Zips.{zipped_none, length-zipped}
use Rattle.path_service.proofs.LaneSteps.{next_room, sends_all_more, sends_some, sends_every}
use Rattle.path_service.proofs.channels.send_all.Goals as goal

pub loop-caller-init : goal.loop-caller-init
loop-caller-init g c = sym (zipped_none sends c.args.channels.now.items)

pub send_at-requires : goal.send_at-requires
send_at-requires g c =
    let old = c.args.channels.now.items in
    let now = c.loop-caller.channels.items in
    let lists = c.args.replies.now in
    let caller = c.loop-caller.caller in
    let wide : length now ≡ length old = ap length c.loop-caller.invariant ∙ length-zipped sends old (take caller lists) in
    record {
      channel = omega (arith, wide, c.requires.wide, c.loop-caller-test.true);
      room = next_room old now lists caller c.as_slice.result.now c.index-replies-caller.result c.requires.wide c.loop-caller-test.true
          (c.as_slice.ensures ∙ c.index-replies-caller.is) c.loop-caller.invariant c.requires.room;
    }

pub loop-caller-preserved : goal.loop-caller-preserved
loop-caller-preserved g c =
    sends_all_more c.args.channels.now.items c.loop-caller.channels.items c.send_at.new.channels.items c.args.replies.now c.loop-caller.caller c.as_slice.result.now c.index-replies-caller.result
    c.in_ok-send_at.ensures.0 c.loop-caller-test.true (c.as_slice.ensures ∙ c.index-replies-caller.is) c.loop-caller.invariant c.in_ok-send_at.ensures.1

pub returns-in_err-send_at : goal.returns-in_err-send_at
returns-in_err-send_at g c =
    let old = c.args.channels.now.items in
    let now = c.loop-caller.channels.items in
    let new = c.send_at.new.channels.items in
    let lists = c.args.replies.now in
    let caller = c.loop-caller.caller in
    let part : List Reply = c.in_err-send_at.ensures.0 in
    let parts : List (List Reply) = take caller lists ++ part ∷ [] in
    let refused = err_from_is_err_and c.from_residual.result c.from_residual.ensures.1 in (
      parts,
      subst (λ (r : Result (Unit {0}) NoMemory). SendsParts old new lists r parts) (sym refused.1)
          (sends_some old now new lists caller c.as_slice.result.now c.index-replies-caller.result part refused.0 c.requires.wide c.loop-caller-test.true
          (c.as_slice.ensures ∙ c.index-replies-caller.is) c.loop-caller.invariant c.in_err-send_at.ensures.1),
    )

pub returns : goal.returns
returns g c = (
  c.args.replies.now,
  sends_every c.args.channels.now.items c.loop-caller.channels.items c.args.replies.now c.loop-caller.caller c.requires.wide
      (omega (arith, c.loop-caller-test.false, c.loop-caller.auto.caller-end)) c.loop-caller.invariant,
)
