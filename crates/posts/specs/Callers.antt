-- Lists with one item for each caller, by the callers' numbers.
use Rattle.std.specs.Prelude.{ℕ, List, [], flat_map, slice_index_or}

-- the list of the caller of a number; there is nothing on it where there is no such caller
abbrev pub list_of : {A : Type 0} → List (List A) → ℕ → List A
list_of {A} lists caller = slice_index_or lists caller []

-- what turns have of the caller of a number, turn after turn
abbrev pub of_caller : {A : Type 0} → ℕ → List (List (List A)) → List A
of_caller {A} caller turns = flat_map (λ turn. slice_index_or turn caller []) turns
