-- What digits after the point stand for.
use Rattle.std.specs.Prelude.{ℕ, ◌*◌, ◌/◌, ◌^◌, List, length}
use Rattle.std.specs.Str.Parse.{digits_value}

-- the raw number of digits after the point, cut towards zero
abbrev pub raw_decimals : List ℕ → ℕ
raw_decimals digits = digits_value 10 digits * 65536 / 10 ^ length digits
