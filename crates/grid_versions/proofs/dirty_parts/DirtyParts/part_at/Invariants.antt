use Rattle.std.proofs.Common.{ℕ, ◌≡◌, ◌<◌}
use Rattle.grid_versions.proofs.DirtyLemmas.{part_of}
use Rattle.grid_versions.proofs.dirty_parts.DirtyParts.part_at.Given as goal

-- none of the parts before `part-index` is of the place
abbrev pub invariant-loop-part : goal.invariant-loop-part
invariant-loop-part l = (k : ℕ) → k < l.part-index → (part_of l.parts k).place ≡ l.place → ⊥
