use Rattle.std.proofs.Common.{ℕ, List, [], ◌∷◌, ◌++◌, ◌∙◌, ap, sym}
use Rattle.std.proofs.lemmas.List.{append_assoc}
use Rattle.obstruction_shapes.specs.declared.shapes.Obstruction.{Obstruction}
use Rattle.obstruction_store.proofs.Paging.{entry_pushed}
use Rattle.obstruction_store.proofs.pages.add_all.Goals as goal

pub loop-id-preserved : goal.loop-id-preserved
loop-id-preserved c = λ es begun.
    let entry : ℕ × Obstruction = (c.in-Some.id, c.in-Some.obstruction.now) in
    let so_far = c.loop-id.invariant es begun in
    let done = so_far.0 in (
      done ++ entry ∷ [],
      (
        append_assoc done (entry ∷ []) c.next.new.self
            ∙ ap (λ (rest : List (ℕ × Obstruction)). done ++ rest) (sym c.in-Some.ensures.steps) ∙ so_far.1.0,
        entry_pushed c.loop-id.all c.add.new.self es done entry.0 entry.1 so_far.1.1 c.in-Ok.ensures.added
            (λ stands. let duplicate = c.in-Ok.ensures.duplicate.1 stands in absurd (cc)),
      ),
    )
