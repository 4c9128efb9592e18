use Rattle.std.proofs.Common.{◌≡◌, ◌∙◌, ◌+◌, ℕ, List, [], ◌∷◌, ◌++◌, drop, ap, sym, subst}
use Rattle.std.proofs.lemmas.List.{drop_more, append_assoc}
use Rattle.obstruction_store.specs.Standing.{Standing, AllFit}
use Rattle.posts.specs.declared.edits.Edit.{Edit}
use Rattle.posts.specs.declared.edits.EditReply.{EditReply}
use Rattle.posts.specs.Maps.{Map}
use Rattle.grid_versions.specs.Editing.{edit_reply, after_edit, after_edits, edit_replies}
use Rattle.grid_versions.proofs.EditingLemmas.{AllFit-after_edit}
use Rattle.grid_versions.proofs.standing_edits.apply_all.Goals as goal

-- one edit more
module _ (map : Map) (old now : Standing) (edits : List Edit) (i : ℕ) (edit : Edit)
    (cut : drop i edits ≡ edit ∷ drop (i + 1) edits) (applied : now ≡ after_edit map old edit) where
  standing_more : (end : Standing) → after_edits map old (drop i edits) ≡ end → after_edits map now (drop (i + 1) edits) ≡ end
  standing_more end so_far =
      ap (λ (s : Standing). after_edits map s (drop (i + 1) edits)) applied
      ∙ sym (ap (λ (es : List Edit). after_edits map old es) cut) ∙ so_far

  replies_more : (replies more all : List EditReply) (reply : EditReply) → more ≡ replies ++ reply ∷ []
      → reply ≡ edit_reply map old edit → replies ++ edit_replies map old (drop i edits) ≡ all
      → more ++ edit_replies map now (drop (i + 1) edits) ≡ all
  replies_more replies more all reply pushed is so_far =
      let rest = edit_replies map now (drop (i + 1) edits) in
      ap (λ (rs : List EditReply). rs ++ rest) pushed ∙ append_assoc replies (reply ∷ []) rest
      ∙ ap (λ (r : EditReply). replies ++ r ∷ rest) is
      ∙ ap (λ (s : Standing). replies ++ edit_reply map old edit ∷ edit_replies map s (drop (i + 1) edits)) applied
      ∙ ap (λ (es : List Edit). replies ++ edit_replies map old es) (sym cut) ∙ so_far

pub loop-edit-preserved : goal.loop-edit-preserved
loop-edit-preserved c =
    let map = c.args.map.now in
    let here = c.loop-edit.invariant in
    let old = c.loop-edit.shapes in
    let now = c.apply_listed.new.shapes in
    let edits = c.args.edits.now in
    let applied = c.in_ok-apply_listed.ensures.standing in
    let i = c.loop-edit.edit-index in
    let cut : drop i edits ≡ c.edit-item.result ∷ drop (i + 1) edits =
    drop_more edits i c.edit-item.result c.loop-edit-test.true ∙ ap (λ (e : Edit). e ∷ drop (i + 1) edits) (sym c.edit-item.is) in
    record {
      standing = standing_more map old now edits i c.edit-item.result cut applied _ here.standing;
      replies = replies_more map old now edits i c.edit-item.result cut applied c.loop-edit.replies _ _
          c.in_ok-apply_listed.field-0 c.in_ok-push.ensures.ok c.in_ok-apply_listed.ensures.reply here.replies;
      fit = subst (λ (s : Standing). AllFit map.size s) (sym applied) (AllFit-after_edit map old _ here.fit);
      covers = λ first covers. c.in_ok-apply_listed.ensures.covers first (here.covers first covers);
      names = λ first names. c.in_ok-apply_listed.ensures.names first (here.names first names);
    }
