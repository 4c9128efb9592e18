use Rattle.std.proofs.Common.{ℕ, subst}
use Rattle.std.specs.Prelude.{Contains}
use Rattle.grid_versions.proofs.DirtyLemmas.{part_of, part_listed}
use Rattle.grid_versions.proofs.tables.borders.listed_part.Goals as goal

pub returns-then-part-place : goal.returns-then-part-place
returns-then-part-place c =
    let parts = c.args.parts.now in
    let i : ℕ = c.loop-part.part-index in
    subst (λ (n : ℕ). Contains parts (record { place = n; rect = (part_of parts i).rect })) c.if-part-place.true
    (part_listed parts i c.loop-part-test.true)
