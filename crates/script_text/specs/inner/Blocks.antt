-- A look along a line by the counts of its blocks.
use Rattle.std.specs.Prelude.{ℕ, zero, suc, List, Bool, not, if◌then◌else◌}
use Rattle.script_text.specs.Nesting.{fits, fits_in_string}

-- the bytes that follow lead no deeper than may be, in a string or outside of one
abbrev pub fits_from : Bool → ℕ → List ℕ → Bool
fits_from in_string depth bytes = if in_string then fits_in_string depth bytes else fits depth bytes

-- whether a string goes on behind so many quotes: each begins one or ends one
abbrev pub turned : ℕ → Bool → Bool
turned zero in_string = in_string
turned (suc quotes) in_string = turned quotes (not in_string)
