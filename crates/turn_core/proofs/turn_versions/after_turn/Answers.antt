use Rattle.std.proofs.Common.{List, ap, ◌∙◌}
use Rattle.posts.specs.declared.edits.Edit.{Edit}
use Rattle.grid_versions.specs.Editing.{after_edits, edit_replies}
use Rattle.turn_core.proofs.TurnEdits.{edited_turn, told_turn}
use Rattle.turn_core.proofs.turn_versions.after_turn.Goals as goal

pub returns-clause-standing : goal.returns-clause-standing
returns-clause-standing c =
    let v = c.args.version.now in
    c.in_ok-version.ensures.standing ∙ ap (λ (es : List Edit). after_edits v.map v.standing es) c.in_ok-edits.ensures ∙ edited_turn v.map v.standing c.args.turn.now

pub returns-clause-edits : goal.returns-clause-edits
returns-clause-edits c =
    let v = c.args.version.now in
    c.in_ok-version.ensures.replies ∙ ap (λ (es : List Edit). edit_replies v.map v.standing es) c.in_ok-edits.ensures ∙ told_turn v.map v.standing c.args.turn.now
