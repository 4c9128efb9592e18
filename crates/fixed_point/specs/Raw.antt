-- Raw numbers. A fixed-point number is a whole number over 65536, its raw number: the raw number 65536 stands for 1.
use Rattle.std.specs.Prelude.{ℕ, ◌+◌, ◌*◌, Bool, ◌&&◌, ℤ, pos, negsuc, int_le}
use Rattle.std.specs.Int.{int_div_euclid}

-- whether a raw number is in range: from -2147483648 to 2147483647
abbrev pub is_in_range : ℤ → Bool
is_in_range raw = int_le (negsuc 2147483647) raw && int_le raw (pos 2147483647)

-- the greatest whole number that is not above raw/65536
abbrev pub floor_of : ℤ → ℤ
floor_of raw = int_div_euclid raw (pos 65536)

-- the middle of navcell i along one axis: the raw number of i + 1/2
abbrev pub centre_of : ℕ → ℤ
centre_of i = pos (65536 * i + 32768)
