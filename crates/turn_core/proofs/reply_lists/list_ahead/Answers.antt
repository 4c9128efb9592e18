use Rattle.std.proofs.Common.{◌≤◌, List, [], ◌∷◌, ◌++◌, length, take, sym, ap, ◌∙◌, subst, arith}
use Rattle.std.proofs.lemmas.List.{take_all}
use Rattle.std.specs.Vec.Iter.{into_iter_items}
use Rattle.posts.specs.declared.posts.Post.{Post}
use Rattle.posts.specs.declared.replies.Reply.{Reply}
use Rattle.turn_core.specs.inner.ReplyLists.{ahead, edits_past, edits_past_list, HasEdit, list_ahead}
use Rattle.turn_core.proofs.Sweeping.{swept_more, left_more, has_at}
use Rattle.turn_core.proofs.reply_lists.list_ahead.Goals as goal

pub ahead-requires : goal.ahead-requires
ahead-requires c =
    let i = c.loop-post.post-index in
    subst (HasEdit c.post-item.result) (sym c.loop-post.invariant.left)
    (has_at HasEdit edits_past c.args.posts.now i c.post-item.result (into_iter_items c.args.edits.now) c.requires c.loop-post-test.true c.post-item.is)

pub loop-post-preserved : goal.loop-post-preserved
loop-post-preserved c =
    let posts = c.args.posts.now in
    let edits = into_iter_items c.args.edits.now in
    let i = c.loop-post.post-index in
    let post = c.post-item.result in
    let before = c.loop-post.invariant in
    record {
      made = c.in_ok-push.ensures.items
          ∙ ap (λ (l : List Reply). l ++ c.ahead.result ∷ []) before.made
          ∙ ap (λ (r : Reply). list_ahead (take i posts) edits ++ r ∷ []) (c.ahead.ensures.reply ∙ ap (ahead post) before.left)
          ∙ sym (swept_more ahead edits_past posts i post edits c.loop-post-test.true c.post-item.is);
      left = c.ahead.ensures.left ∙ ap (edits_past post) before.left
          ∙ sym (left_more edits_past posts i post edits c.loop-post-test.true c.post-item.is);
    }

pub returns-clause-list : goal.returns-clause-list
returns-clause-list c =
    let posts = c.args.posts.now in
    let past : length posts ≤ c.loop-post.post-index = omega arith in
    c.from.ensures ∙ c.loop-post.invariant.made
    ∙ ap (λ (l : List Post). list_ahead l (into_iter_items c.args.edits.now)) (take_all c.loop-post.post-index posts past)

pub returns-clause-left : goal.returns-clause-left
returns-clause-left c =
    let posts = c.args.posts.now in
    let past : length posts ≤ c.loop-post.post-index = omega arith in
    c.loop-post.invariant.left
    ∙ ap (λ (l : List Post). edits_past_list l (into_iter_items c.args.edits.now)) (take_all c.loop-post.post-index posts past)
