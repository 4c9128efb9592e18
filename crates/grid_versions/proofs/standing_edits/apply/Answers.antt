use Rattle.std.proofs.Common.{IsSomeAnd, ◌∙◌, sym, ap, subst}
use Rattle.std.specs.FinMap as fin_map
use Rattle.nav_types.specs.declared.cells.Size.{Size}
use Rattle.obstruction_shapes.specs.Shapes.{FitsMap, moved_to}
use Rattle.grid_versions.specs.Editing.{edit_reply, after_edit}
use Rattle.grid_versions.proofs.EditingLemmas.{reply_to_move, edited_by_move, reply_to_bad_move, edited_by_bad_move}
use Rattle.grid_versions.proofs.standing_edits.apply.Goals as goal

pub returns-in-Ok-move_to-clause-reply : goal.returns-in-Ok-move_to-clause-reply
returns-in-Ok-move_to-clause-reply c =
    let fit = subst (λ (size : Size). IsSomeAnd (fin_map.get c.args.shapes.now c.in-Move.id) (λ obstruction. FitsMap size (moved_to obstruction.shape c.in-Move.x c.in-Move.z)))
    c.size-in-Move.ensures c.in-Ok-move_to.ensures.fits in
    sym (ap (λ edit. edit_reply c.args.map.now c.args.shapes.now edit) c.in-Move.is
    ∙ reply_to_move c.args.map.now c.args.shapes.now c.in-Move.id c.in-Move.x c.in-Move.z fit)

pub returns-in-Ok-move_to-clause-standing : goal.returns-in-Ok-move_to-clause-standing
returns-in-Ok-move_to-clause-standing c =
    let fit = subst (λ (size : Size). IsSomeAnd (fin_map.get c.args.shapes.now c.in-Move.id) (λ obstruction. FitsMap size (moved_to obstruction.shape c.in-Move.x c.in-Move.z)))
    c.size-in-Move.ensures c.in-Ok-move_to.ensures.fits in
    c.in-Ok-move_to.ensures.moves
    ∙ sym (ap (λ edit. after_edit c.args.map.now c.args.shapes.now edit) c.in-Move.is
    ∙ edited_by_move c.args.map.now c.args.shapes.now c.in-Move.id c.in-Move.x c.in-Move.z fit)

pub returns-in-Err-BadShape-clause-reply : goal.returns-in-Err-BadShape-clause-reply
returns-in-Err-BadShape-clause-reply c =
    let bad = subst (λ (size : Size). IsSomeAnd (fin_map.get c.args.shapes.now c.in-Move.id) (λ obstruction. ¬ FitsMap size (moved_to obstruction.shape c.in-Move.x c.in-Move.z)))
    c.size-in-Move.ensures (c.in-Err-BadShape.ensures.bad_shape.0 (cc)) in
    sym (ap (λ edit. edit_reply c.args.map.now c.args.shapes.now edit) c.in-Move.is
    ∙ reply_to_bad_move c.args.map.now c.args.shapes.now c.in-Move.id c.in-Move.x c.in-Move.z bad)

pub returns-in-Err-BadShape-clause-standing : goal.returns-in-Err-BadShape-clause-standing
returns-in-Err-BadShape-clause-standing c =
    let bad = subst (λ (size : Size). IsSomeAnd (fin_map.get c.args.shapes.now c.in-Move.id) (λ obstruction. ¬ FitsMap size (moved_to obstruction.shape c.in-Move.x c.in-Move.z)))
    c.size-in-Move.ensures (c.in-Err-BadShape.ensures.bad_shape.0 (cc)) in
    c.in-Err-BadShape.ensures.kept
    ∙ sym (ap (λ edit. after_edit c.args.map.now c.args.shapes.now edit) c.in-Move.is
    ∙ edited_by_bad_move c.args.map.now c.args.shapes.now c.in-Move.id c.in-Move.x c.in-Move.z bad)
