use Rattle.std.proofs.Common.{ℕ, List, [], ◌∷◌, ◌++◌, ◌≡◌, get_or, sym, subst, ◌∙◌, arith}
use Rattle.std.specs.Prelude.{All}
use Rattle.std.proofs.lemmas.List.{take_all}
use Rattle.nav_types.specs.declared.cells.Rect.{Rect}
use Rattle.class_planes.specs.declared.changed_parts.ChangedPart.{ChangedPart}
use Rattle.nav_types.specs.Cells.{IsRectInside}
use Rattle.class_planes.specs.Planes.{IsKept}
use Rattle.class_planes.proofs.UpdateLemmas.{kept_listed, kept_passed, inside_listed}
use Rattle.class_planes.proofs.changed_parts.rects_of.Goals.{then-is_of+in_ok-push, else-is_of}
use Rattle.class_planes.proofs.changed_parts.rects_of.Goals as goal

pub loop-part-preserved : goal.loop-part-preserved
loop-part-preserved c =
    let parts = c.args.parts.now in
    let at : ℕ = c.loop-part.part-index in
    let none : ChangedPart = record { rect = record { i0 = 0; j0 = 0; i1 = 0; j1 = 0 }; classes = 0 } in
    let old : List Rect = c.loop-part.rects.items in
    let new : List Rect = c.if-is_of.rects.items in
    elim c.if-is_of.branch [
      | then-is_of+in_ok-push w ↦
          let same : new ≡ old ++ (get_or parts at none).rect ∷ [] = cc (w.rects-is, w.in_ok-push.ensures.items) in
          record {
            kept = kept_listed parts c.args.class at none old new c.loop-part-test.true same c.loop-part.invariant.kept;
            inside = inside_listed parts at none old new c.loop-part-test.true same c.loop-part.invariant.inside;
          }
      | else-is_of w ↦
          let same : new ≡ old = cc w.rects-is in
          record {
            kept = kept_passed parts c.args.class at none old new c.loop-part-test.true same (sym c.is_of.ensures ∙ w.if-is_of.false)
                c.loop-part.invariant.kept;
            inside = λ size all. subst (λ (rs : List Rect). All (IsRectInside size) rs) (sym same) (c.loop-part.invariant.inside size all);
          }
    ]

pub returns-clause-kept : goal.returns-clause-kept
returns-clause-kept c cell out =
    subst (λ (xs : List ChangedPart). IsKept xs c.args.class cell)
    (take_all c.loop-part.part-index c.args.parts.now (omega arith)) (c.loop-part.invariant.kept cell out)
