-- The journal in an output under `serve`: the lines that begin with `{`.
use Rattle.std.specs.Prelude.{ℕ, ◌==◌, List, [], ◌∷◌, ◌++◌, Bool, false, flat_map, if◌then◌else◌}
use Rattle.input_lines.specs.Lines.{full_lines}

-- the line begins with `{` (123)
abbrev pub is_script_line : List ℕ → Bool
is_script_line [] = false
is_script_line (byte ∷ bytes) = byte == 123

-- the lines of a text that begin with `{`, each with its newline (10)
abbrev pub script_lines : List ℕ → List ℕ
script_lines text = flat_map (λ line. if is_script_line line then line ++ 10 ∷ [] else []) (full_lines text)
