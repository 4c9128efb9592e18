use Rattle.std.proofs.Common.{ℕ, ◌<◌, ◌≡◌, None, get_or}
use Rattle.std.specs.FinMap as fin_map
use Rattle.grid_versions.proofs.standing_edits.are_free.Given as goal

-- nothing stands under the numbers before `id-index`
abbrev pub invariant-loop-id : goal.invariant-loop-id
invariant-loop-id l = (k : ℕ) → k < l.id-index → fin_map.get l.shapes (get_or l.ids k 0) ≡ None
