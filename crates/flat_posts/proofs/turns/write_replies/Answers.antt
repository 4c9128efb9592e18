use Rattle.std.proofs.Common.{◌≡◌, List, ◌++◌, take, ap, ◌∙◌, subst, arith, refl}
use Rattle.std.specs.Prelude.{sum_by}
use Rattle.std.proofs.lemmas.List.{take_all}
use Rattle.posts.specs.declared.replies.Reply.{Reply}
use Rattle.flat_posts.specs.Replies.{caller_replies, replies_from, in_bits, waypoint_count}
use Rattle.flat_posts.specs.declared.replied.FlatReply.{FlatReply}
use Rattle.flat_posts.specs.Pages.{IsPage}
use Rattle.flat_posts.specs.inner.Filling.{IsFilling}
use Rattle.flat_posts.proofs.Filled.{filling-none}
use Rattle.flat_posts.proofs.Told.{replies_from-more, sum_by-more}
use Rattle.flat_posts.proofs.turns.write_replies.Goals as goal

pub loop-caller-init : goal.loop-caller-init
loop-caller-init c = (refl, filling-none c.args.first c.args.buffer.now)

pub loop-caller-preserved : goal.loop-caller-preserved
loop-caller-preserved c =
    let lists = c.as_slice-replies-items.result.now in
    let caller = c.loop-caller.caller in
    let count = λ (replies : List Reply). sum_by waypoint_count replies in
    let before = sum_by count (take caller lists) in
    let some = replies_from 0 0 (take caller lists) in
    let replies = c.replies-item.result in
    let sum = sum_by-more count lists caller replies c.loop-caller-test.true c.replies-item.is in
    let same = ap count c.as_slice-in-loop-caller.ensures in
    let whole = ap (λ (l : List Reply). some ++ caller_replies caller 0 before l) c.as_slice.ensures ∙ replies_from-more lists caller replies c.loop-caller-test.true c.replies-item.is in (
      c.with_waypoints-waypoints.ensures before c.loop-caller.invariant.0 ∙ ap (in_bits 64) (omega (arith, sum, same)),
      subst (λ (l : List FlatReply). IsFilling c.args.first l c.args.buffer.now c.take_replies.new.filling.ahead c.take_replies.new.filling.count c.take_replies.new.buffer)
          whole (c.take_replies.ensures c.args.first before some c.args.buffer.now c.loop-caller.invariant.0 c.loop-caller.invariant.1),
    )

pub returns : goal.returns
returns c =
    let lists = c.as_slice-replies-items.result.now in
    let all : take c.loop-caller.caller lists ≡ c.args.ended.now.replies = take_all c.loop-caller.caller lists c.loop-caller-test.false ∙ c.as_slice-replies-items.ensures in
    subst (λ (l : List (List Reply)). IsPage c.args.first (replies_from 0 0 l) c.args.buffer.now c.loop-caller.buffer c.loop-caller.filling.count) all c.loop-caller.invariant.1.page
