use Rattle.std.proofs.Common.{◌≡◌, ◌<◌, length, get_or, set, sym, ap, ◌∙◌, subst, arith}
use Rattle.std.specs.Vec.Iter.{into_iter_items}
use Rattle.std.proofs.lemmas.List.{get_or_default}
use Rattle.posts.specs.declared.replies.Reply.{Reply}
use Rattle.turn_core.specs.inner.ReplyLists.{filled, answers_past, HasAnswer}
use Rattle.turn_core.proofs.Sweeping.{swept_over, left_more, has_at, item_over, length_over}
use Rattle.turn_core.proofs.reply_lists.list_filled.Goals as goal

pub fill-requires : goal.fill-requires
fill-requires c =
    let list = c.args.list in
    let answers = into_iter_items c.args.answers.now in
    let now = c.loop-reply.reply-items in
    let i = c.loop-reply.reply-index in
    let reply = get_or now i c.reply-item.result in
    let made = c.loop-reply.invariant.made in
    let within : i < length now = omega arith in
    let below : i < length list = omega (arith, length_over filled answers_past list now i answers made) in
    let is : reply ≡ get_or now i reply = get_or_default now i c.reply-item.result reply within in
    subst (HasAnswer reply) (sym c.loop-reply.invariant.left)
    (has_at HasAnswer answers_past list i reply answers c.requires below (item_over filled answers_past list now i reply answers below made is))

pub loop-reply-preserved : goal.loop-reply-preserved
loop-reply-preserved c =
    let list = c.args.list in
    let answers = into_iter_items c.args.answers.now in
    let now = c.loop-reply.reply-items in
    let i = c.loop-reply.reply-index in
    let reply = get_or now i c.reply-item.result in
    let before = c.loop-reply.invariant in
    let within : i < length now = omega arith in
    let below : i < length list = omega (arith, length_over filled answers_past list now i answers before.made) in
    let is : reply ≡ get_or now i reply = get_or_default now i c.reply-item.result reply within in
    record {
      made = ap (λ (r : Reply). set now i r) (c.fill.ensures.reply ∙ ap (filled reply) before.left)
          ∙ swept_over filled answers_past list now i reply answers below before.made is;
      left = c.fill.ensures.left ∙ ap (answers_past reply) before.left
          ∙ sym (left_more answers_past list i reply answers below (item_over filled answers_past list now i reply answers below before.made is));
    }
