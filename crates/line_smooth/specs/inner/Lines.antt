-- Lines between the lines of two cells.
use Rattle.std.specs.Prelude.{ℕ, ◌+◌, ◌≡◌}
use Rattle.line_smooth.specs.Segments.{gap}

-- the number is one of the two others or lies between them
abbrev pub IsBetween : ℕ → ℕ → ℕ → Type 0
IsBetween a b between = gap a between + gap between b ≡ gap a b
