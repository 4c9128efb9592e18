use Rattle.std.proofs.Common.{List, sym, subst}
use Rattle.posts.specs.declared.posts.Post.{Post}
use Rattle.turn_core.specs.inner.ReplyLists.{AllHaveEdits}
use Rattle.turn_core.proofs.FilledReplies.{all_have_edits}
use Rattle.turn_core.proofs.edited_turns.EditedTurn.new.Goals as goal

pub lists_ahead-requires : goal.lists_ahead-requires
lists_ahead-requires c =
    let base = c.args.base.now in
    let turn = c.args.turn.now in
    subst (λ (t : List (List Post)). AllHaveEdits t c.in_ok-version.field-0.edits) (sym c.as_slice.ensures)
    (subst (AllHaveEdits turn) (sym c.in_ok-version.ensures.edits) (all_have_edits base.map base.standing turn))
