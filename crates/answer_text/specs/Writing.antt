-- What stands at the end of a text while a line is written there.
use Rattle.std.specs.Prelude.{◌≡◌, ℕ, List, ◌++◌}

-- a text that grew from another: it is that text, and perhaps more bytes after it
pub record GrewFrom (old new : List ℕ) : Type 0 where
  pub more : List ℕ
  pub whole : new ≡ old ++ more
