-- Rows of cells: a list of numbers of 16 bits, one a place. Bit k of a number is std's `bit_at`, 0 or
-- 1, and `slice_index` gives a list's number at a place, and 0 past its end.
use Rattle.std.specs.Prelude.{◌≡◌, ◌≢◌, ◌<◌, ◌+◌, ◌*◌, ◌/◌, ◌==◌, ◌++◌, ℕ, Bool, List, length, map, take, drop, bit_or, slice_index, slice_range, if◌then◌else◌}
use Rattle.std.specs.Int.{bit_at}

-- the row in which the places from `from` up to and without `to` have the mask's bits besides their own
abbrev pub with_span : ℕ → ℕ → ℕ → List ℕ → List ℕ
with_span from to mask row = take from row ++ map (λ n. bit_or n mask) (slice_range row from to) ++ drop to row

-- bit `class` of the number is set
abbrev pub has_class : ℕ → ℕ → Bool
has_class class number = bit_at number class == 1

-- 1 where the flag is true, else 0
abbrev pub one_if : Bool → ℕ
one_if flag = if flag then 1 else 0

-- at some place the two rows have unlike bits k
abbrev pub DifferIn : ℕ → List ℕ → List ℕ → Type 0
DifferIn k xs ys = (place : ℕ) × (place < length xs)
    × (bit_at (slice_index xs place) k ≢ bit_at (slice_index ys place) k)

-- at each place the two rows have like bits k
abbrev pub AgreeIn : ℕ → List ℕ → List ℕ → Type 0
AgreeIn k xs ys = (place : ℕ) → place < length xs → bit_at (slice_index xs place) k ≡ bit_at (slice_index ys place) k

-- how many words of 64 bits hold one bit a place, for a row of so many places
abbrev pub words_for : ℕ → ℕ
words_for places = (places + 63) / 64

-- the words hold bit `class` of each place of the row: bit k of word w is that of place 64 w + k, and 0 past the row's
-- end
abbrev pub IsPlane : ℕ → List ℕ → List ℕ → Type 0
IsPlane class row words = (w k : ℕ) → k < 64
    → bit_at (slice_index words w) k ≡ bit_at (slice_index row (64 * w + k)) class
