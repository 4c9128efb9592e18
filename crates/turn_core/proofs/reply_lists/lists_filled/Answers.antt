use Rattle.std.proofs.Common.{◌≡◌, ◌<◌, List, length, get_or, set, sym, ap, ◌∙◌, subst, arith}
use Rattle.std.specs.Vec.Iter.{into_iter_items}
use Rattle.std.proofs.lemmas.List.{get_or_default}
use Rattle.posts.specs.declared.replies.Reply.{Reply}
use Rattle.turn_core.specs.inner.ReplyLists.{list_filled, answers_past_list, HaveAnswers}
use Rattle.turn_core.proofs.Sweeping.{swept_over, left_more, has_at, item_over, length_over}
use Rattle.turn_core.proofs.reply_lists.lists_filled.Goals as goal

pub list_filled-requires : goal.list_filled-requires
list_filled-requires c =
    let lists = c.args.lists.items in
    let answers = c.args.answers in
    let now = c.loop-list.list-items in
    let i = c.loop-list.list-index in
    let list = get_or now i c.list-item.result in
    let made = c.loop-list.invariant.made in
    let within : i < length now = omega arith in
    let below : i < length lists = omega (arith, length_over list_filled answers_past_list lists now i answers made) in
    let is : list ≡ get_or now i list = get_or_default now i c.list-item.result list within in
    subst (λ (l : List Reply). HaveAnswers l (into_iter_items c.loop-list.answers)) (sym c.replace-ahead.ensures.value)
    (subst (HaveAnswers list) (sym c.loop-list.invariant.left)
    (has_at HaveAnswers answers_past_list lists i list answers c.requires below (item_over list_filled answers_past_list lists now i list answers below made is)))

pub loop-list-preserved : goal.loop-list-preserved
loop-list-preserved c =
    let lists = c.args.lists.items in
    let answers = c.args.answers in
    let now = c.loop-list.list-items in
    let i = c.loop-list.list-index in
    let list = get_or now i c.list-item.result in
    let before = c.loop-list.invariant in
    let within : i < length now = omega arith in
    let below : i < length lists = omega (arith, length_over list_filled answers_past_list lists now i answers before.made) in
    let is : list ≡ get_or now i list = get_or_default now i c.list-item.result list within in
    record {
      made = ap (λ (l : List Reply). set now i l)
          (c.list_filled.ensures.list ∙ ap (λ (l : List Reply). list_filled l (into_iter_items c.loop-list.answers)) c.replace-ahead.ensures.value ∙ ap (list_filled list) before.left)
          ∙ swept_over list_filled answers_past_list lists now i list answers below before.made is;
      left = c.list_filled.ensures.left ∙ ap (λ (l : List Reply). answers_past_list l (into_iter_items c.loop-list.answers)) c.replace-ahead.ensures.value
          ∙ ap (answers_past_list list) before.left
          ∙ sym (left_more answers_past_list lists i list answers below (item_over list_filled answers_past_list lists now i list answers below before.made is));
    }
