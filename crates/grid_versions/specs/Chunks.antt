-- The chunks of a map, in the order chunk row, chunk column.
use Rattle.std.specs.Prelude.{ℕ, ◌+◌, ◌-◌, ◌*◌, ◌/◌}
use Rattle.nav_types.specs.declared.limits.TheConstants.{CHUNK_SIDE}
use Rattle.nav_types.specs.declared.cells.Chunk.{Chunk}
use Rattle.nav_types.specs.declared.cells.Size.{Size}

-- how many columns of chunks a map of this size has; the last may be narrower than a whole chunk
abbrev pub chunk_columns : Size → ℕ
chunk_columns size = (size.w + (CHUNK_SIDE - 1)) / CHUNK_SIDE

-- how many rows of chunks a map of this size has; the last may be lower than a whole chunk
abbrev pub chunk_rows : Size → ℕ
chunk_rows size = (size.h + (CHUNK_SIDE - 1)) / CHUNK_SIDE

-- how many chunks a map of this size has
abbrev pub chunk_count : Size → ℕ
chunk_count size = chunk_rows size * chunk_columns size

-- the place of a chunk in the order chunk row, chunk column, from 0
abbrev pub chunk_place : Size → Chunk → ℕ
chunk_place size chunk = chunk.cj * chunk_columns size + chunk.ci
