-- Where words are wrong, word by word.
use Rattle.std.specs.Prelude.{ℕ, ◌+◌, List, [], ◌∷◌, Option, Some, None, is_some, if◌then◌else◌, bytes_eq, codes}
use Rattle.pathserve.specs.Commands.{is_script_word, seed_of, workers_of}

-- behind `--workers`, the first of the words having this number
abbrev pub wrong_count : List (List ℕ) → ℕ → Option ℕ
wrong_count [] place = Some place
wrong_count (count ∷ []) place = if is_some (workers_of count) then None else Some place
wrong_count (count ∷ (next ∷ words)) place = if is_some (workers_of count) then Some (place + 1) else Some place

-- behind a command
abbrev pub wrong_option : List (List ℕ) → ℕ → Option ℕ
wrong_option [] place = None
wrong_option (option ∷ words) place = if bytes_eq option (codes "--workers") then wrong_count words (place + 1) else Some place

-- behind `make`
abbrev pub wrong_behind_make : List (List ℕ) → Option ℕ
wrong_behind_make [] = Some 2
wrong_behind_make (number ∷ words) = if is_some (seed_of number) then wrong_option words 3 else Some 2

abbrev pub wrong_at : List (List ℕ) → Option ℕ
wrong_at [] = Some 1
wrong_at (word ∷ words) =
    if bytes_eq word (codes "make") then wrong_behind_make words
    else if is_script_word word then wrong_option words 2
    else Some 1
