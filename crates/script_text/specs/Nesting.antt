-- How deep the arrays and objects of a line nest, told by its bytes alone, before it is read.
use Rattle.std.specs.Prelude.{ℕ, ◌+◌, ◌-◌, ◌&&◌, ◌||◌, ◌==◌, List, [], ◌∷◌, Bool, true, nat_lt, if◌then◌else◌}
use Rattle.script_text.specs.declared.nesting.TheConstants.{MAX_NESTING}

-- brackets and braces
abbrev pub opens : ℕ → Bool
opens byte = byte == 91 || byte == 123

abbrev pub closes : ℕ → Bool
closes byte = byte == 93 || byte == 125

-- At this depth, the bytes that follow never lead deeper than MAX_NESTING. What
-- stands in a string opens and closes none: a quote begins it, and the next quote without a backslash before it ends it.
abbrev mutual
  pub fits : ℕ → List ℕ → Bool
  fits depth [] = true
  fits depth (byte ∷ bytes) = if opens byte then nat_lt depth MAX_NESTING && fits (depth + 1) bytes
      else (if closes byte then fits (depth - 1) bytes
      else (if byte == 34 then fits_in_string depth bytes else fits depth bytes))

  pub fits_in_string : ℕ → List ℕ → Bool
  fits_in_string depth [] = true
  fits_in_string depth (byte ∷ bytes) = if byte == 34 then fits depth bytes
      else (if byte == 92 then fits_behind_backslash depth bytes else fits_in_string depth bytes)

  pub fits_behind_backslash : ℕ → List ℕ → Bool
  fits_behind_backslash depth [] = true
  fits_behind_backslash depth (byte ∷ bytes) = fits_in_string depth bytes

-- a line whose arrays and objects never nest deeper than MAX_NESTING
abbrev pub is_shallow : List ℕ → Bool
is_shallow line = fits 0 line
