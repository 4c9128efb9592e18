-- Where each chunk's regions begin in the row of all regions.
use Rattle.std.specs.Prelude.{ℕ, ◌+◌, ◌-◌, List, [], ◌∷◌}

-- for each chunk where its regions begin in a row that begins at `from`, and last the end of the row
abbrev pub starts_from : ℕ → List ℕ → List ℕ
starts_from from [] = from ∷ []
starts_from from (x ∷ xs) = from ∷ starts_from (from + x) xs

-- by how much each number is above the one before it, which for the first is `from`
abbrev pub steps_from : ℕ → List ℕ → List ℕ
steps_from from [] = []
steps_from from (x ∷ xs) = (x - from) ∷ steps_from x xs

-- the numbers of regions of the chunks whose regions begin, and end, at these places
abbrev pub counts_between : List ℕ → List ℕ
counts_between [] = []
counts_between (x ∷ xs) = steps_from x xs
