use Rattle.std.proofs.Common.{List, [], ◌∷◌, ◌++◌, take, sym, ap, ◌∙◌, subst}
use Rattle.std.specs.Vec.Iter.{into_iter_items}
use Rattle.posts.specs.declared.posts.Post.{Post}
use Rattle.posts.specs.declared.replies.Reply.{Reply}
use Rattle.turn_core.specs.inner.ReplyLists.{list_ahead, edits_past_list, HaveEdits, lists_ahead}
use Rattle.turn_core.proofs.Sweeping.{swept_more, left_more, has_at}
use Rattle.turn_core.proofs.reply_lists.lists_ahead.Goals as goal

pub list_ahead-requires : goal.list_ahead-requires
list_ahead-requires c =
    let i = c.loop-posts.posts-index in
    subst (λ (posts : List Post). HaveEdits posts (into_iter_items c.loop-posts.edits)) (sym c.as_slice.ensures)
    (subst (HaveEdits c.posts-item.result) (sym c.loop-posts.invariant.left)
    (has_at HaveEdits edits_past_list c.args.turn.now i c.posts-item.result c.args.edits c.requires c.loop-posts-test.true c.posts-item.is))

pub loop-posts-preserved : goal.loop-posts-preserved
loop-posts-preserved c =
    let turn = c.args.turn.now in
    let edits = c.args.edits in
    let i = c.loop-posts.posts-index in
    let posts = c.posts-item.result in
    let before = c.loop-posts.invariant in
    record {
      made = c.in_ok-push.ensures.items
          ∙ ap (λ (l : List (List Reply)). l ++ c.in_ok-list_ahead.field-0 ∷ []) before.made
          ∙ ap (λ (r : List Reply). lists_ahead (take i turn) edits ++ r ∷ [])
          (c.in_ok-list_ahead.ensures.list ∙ ap (λ (p : List Post). list_ahead p (into_iter_items c.loop-posts.edits)) c.as_slice.ensures ∙ ap (list_ahead posts) before.left)
          ∙ sym (swept_more list_ahead edits_past_list turn i posts edits c.loop-posts-test.true c.posts-item.is);
      left = c.in_ok-list_ahead.ensures.left ∙ ap (λ (p : List Post). edits_past_list p (into_iter_items c.loop-posts.edits)) c.as_slice.ensures ∙ ap (edits_past_list posts) before.left
          ∙ sym (left_more edits_past_list turn i posts edits c.loop-posts-test.true c.posts-item.is);
    }
