use Rattle.std.proofs.Common.{ℕ, ◌≡◌, ◌+◌, ◌-◌, ◌<◌, List, take, drop, length, get_or, ap, sym, ◌∙◌, arith}
use Rattle.std.proofs.lemmas.List.{get_or-take, get_or-drop}
use Rattle.clearance_raster.proofs.Rastering.{in_whole}
use Rattle.grid_versions.proofs.changed_parts.numbers_in.Goals as goal

-- a place of a part of a list
part_at : (xs : List ℕ) (from count k : ℕ) → k < count → get_or (take (from + count - from) (drop from xs)) k 0 ≡ get_or xs (from + k) 0
part_at xs from count k below = get_or-take (from + count - from) (drop from xs) k 0 (omega (arith, below)) ∙ get_or-drop from xs k 0
