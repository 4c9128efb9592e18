-- The lines of an input: those that a newline (10) ends, and what stands after the last newline.
use Rattle.std.specs.Prelude.{ℕ, ◌≢◌, List, [], ◌∷◌, ◌++◌, ◌==◌, All, if◌then◌else◌}

-- bytes without a newline (10)
abbrev pub IsPlain : List ℕ → Type 0
IsPlain line = All (λ byte. byte ≢ 10) line

-- a byte in front of the first line, or of the tail where there is no line
abbrev pub in_front : ℕ → List (List ℕ) → List (List ℕ)
in_front byte [] = []
in_front byte (line ∷ lines) = (byte ∷ line) ∷ lines

-- the lines that a newline ends, without it
abbrev pub full_lines : List ℕ → List (List ℕ)
full_lines [] = []
full_lines (byte ∷ bytes) = if byte == 10 then [] ∷ full_lines bytes else in_front byte (full_lines bytes)

-- the bytes where there is no line, and else nothing more
abbrev pub tail_with : ℕ → List (List ℕ) → List ℕ → List ℕ
tail_with byte [] tail = byte ∷ tail
tail_with byte (line ∷ lines) tail = tail

-- what stands after the last newline
abbrev pub tail_of : List ℕ → List ℕ
tail_of [] = []
tail_of (byte ∷ bytes) = if byte == 10 then tail_of bytes else tail_with byte (full_lines bytes) (tail_of bytes)

-- the lines, each with its newline
abbrev pub unlines : List (List ℕ) → List ℕ
unlines [] = []
unlines (line ∷ lines) = line ++ 10 ∷ unlines lines

-- the bytes up to the first newline (10)
abbrev pub first_line : List ℕ → List ℕ
first_line [] = []
first_line (byte ∷ bytes) = if byte == 10 then [] else byte ∷ first_line bytes
