-- Places that are counted from another one on.
use Rattle.std.specs.Prelude.{ℕ, ◌+◌, ◌-◌}

-- the place that stands as far behind `here` as this one behind `first`
abbrev pub moved : ℕ → ℕ → ℕ → ℕ
moved first here place = here + (place - first)
