-- What passed an edge since a call began, where the edge tells its bytes.
use Rattle.std.specs.Prelude.{ℕ, List, Option}
use Rattle.std.specs.Io.KnownBytes.{Consumes, Appends}

-- the source gave the first of the bytes that it had left, some or none, and has the rest of them left
pub record HasGiven (before now : Option (List ℕ)) : Type 0 where
  pub given : List ℕ
  pub rest : Consumes before now given

-- the sink took bytes, some or none, and keeps them behind those that it had kept
pub record HasTaken (before now : Option (List ℕ)) : Type 0 where
  pub taken : List ℕ
  pub behind : Appends before now taken
