use Rattle.std.proofs.Common.{ℕ, ◌≡◌, ◌++◌, List}
use Rattle.std.specs.FinMap as map
use Rattle.obstruction_shapes.specs.declared.shapes.Obstruction.{Obstruction}
use Rattle.obstruction_store.proofs.pages.add_all.Given as goal

-- the entries that are no longer to come stand behind those from which was begun
abbrev pub invariant-loop-id : goal.invariant-loop-id
invariant-loop-id l = (es : List (ℕ × Obstruction)) → l.initial.all ≡ map.from_entries es
    → (done : List (ℕ × Obstruction)) × ((done ++ l.id-iterator ≡ map.entries l.page) × (l.all ≡ map.from_entries (es ++ done)))
