use Rattle.std.proofs.Common.{◌∷◌, length, map}
use Rattle.std.specs.Prelude.{codes, decimal}
use Rattle.std.proofs.lemmas.Result.{IfOk-equal, on_err_weaker}
use Rattle.answer_text.specs.Answers.{end_word, waypoint_text}
use Rattle.answer_text.specs.Writing.{GrewFrom}
use Rattle.answer_text.specs.inner.Spacing.{spaced}
use Rattle.answer_text.proofs.Growing.{grew_after}
use Rattle.answer_text.proofs.LineTexts.{path_pieces}
use Rattle.answer_text.proofs.lines.write_path.Goals as goal

pub returns-clause-ok : goal.returns-clause-ok
returns-clause-ok c =
    let path = c.args.path.now in
    IfOk-equal _ _ _ _ c.write_waypoints.ensures.ok
    (rw (
      c.as_slice.ensures,
      c.in_ok-write_after-2.ensures.ok,
      c.len.ensures,
      c.in_ok-write_after.ensures.ok,
      c.in_ok-extend-2.ensures.ok,
      c.end_word.ensures,
      c.in_ok-write_cell-2.ensures.ok,
      c.in_ok-write_cell.ensures.ok,
      c.in_ok-extend.ensures.ok,
    )
    (path_pieces c.args.text.now (codes " path") (32 ∷ decimal path.start.i) (32 ∷ decimal path.start.j) (32 ∷ decimal path.end.i)
    (32 ∷ decimal path.end.j) (32 ∷ end_word path.near) (32 ∷ decimal path.cost.0) (32 ∷ decimal (length path.waypoints))
    (spaced (map waypoint_text path.waypoints))))

pub returns-clause-err : goal.returns-clause-err
returns-clause-err c = on_err_weaker c.write_waypoints.result
    (λ (last : GrewFrom c.write_after-2.new.text c.write_waypoints.new.text).
    grew_after _ _ _ _ c.in_ok-extend.ensures.ok
    (grew_after _ _ _ _ c.in_ok-write_cell.ensures.ok
    (grew_after _ _ _ _ c.in_ok-write_cell-2.ensures.ok
    (grew_after _ _ _ _ c.in_ok-extend-2.ensures.ok
    (grew_after _ _ _ _ c.in_ok-write_after.ensures.ok
    (grew_after _ _ _ _ c.in_ok-write_after-2.ensures.ok last))))))
    c.write_waypoints.ensures.err
