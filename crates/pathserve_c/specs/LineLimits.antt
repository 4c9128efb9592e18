-- How many bytes a line of a match by text may have.
use Rattle.std.specs.Prelude.{ℕ, ◌≡◌, ◌+◌, ◌==◌, Bool, true, List, fold, if◌then◌else◌, nat_lt, Option, Some, None, IsSome, is_some}
use Rattle.pathserve_c.specs.declared.line_limits.LineLimit.{LineLimit}

-- a limit behind one more byte, with which the line that has begun has one more; behind a newline (10) the next has none. No limit where
-- the line would have more than it may
abbrev pub limit_with : Option LineLimit → ℕ → Option LineLimit
limit_with None byte = None
limit_with (Some limit) byte =
    if byte == 10 then Some (record limit { begun = 0 }) else
    (if nat_lt limit.begun limit.most then Some (record limit { begun = limit.begun + 1 }) else None)

-- a limit behind these bytes, none where a line of them has more than it may
abbrev pub limit_after : LineLimit → List ℕ → Option LineLimit
limit_after limit bytes = fold limit_with (Some limit) bytes

-- no line of these bytes has more than it may; where no limit was set, any may come
abbrev pub fits_limit : Option LineLimit → List ℕ → Bool
fits_limit None bytes = true
fits_limit (Some limit) bytes = is_some (limit_after limit bytes)

-- the limit of a match that was fed with these bytes
abbrev pub IsLimitAfter : Option LineLimit → List ℕ → Option LineLimit → Type 0
IsLimitAfter None bytes after = after ≡ None
IsLimitAfter (Some limit) bytes after = IsSome after × (after ≡ limit_after limit bytes)

-- another limit of the line that has begun: the first that is set counts from there on
abbrev pub limit_to : ℕ → Option LineLimit → LineLimit
limit_to most None = record { most = most; begun = 0 }
limit_to most (Some limit) = record limit { most = most }
