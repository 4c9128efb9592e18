-- Sources and sinks in memory: what they are, and what a call of them gives.
use Rattle.std.specs.Prelude.{ℕ, Bool, ◌≡◌, ◌+◌, ◌≤◌, min, List, [], length, Contains}
use Rattle.io_edges.specs.Counts.{raised, faults_after}

-- How the calls of a source or sink in memory go: the most bytes that one call takes; the numbers of the calls that
-- fail, counted from 1; how many calls were made, where the last value of a count stands for that many or more; the
-- faults met.
pub record Calls : Type 0 where
  pub piece : ℕ
  pub fails : List ℕ
  pub made : ℕ
  pub faults : ℕ

-- a source in memory: the bytes left, and how its calls go
pub record Input : Type 0 where
  pub left : List ℕ
  pub calls : Calls

-- a sink in memory: the bytes kept, and how its calls go
pub record Output : Type 0 where
  pub kept : List ℕ
  pub calls : Calls

-- no call was made yet
abbrev pub no_calls : ℕ → List ℕ → Calls
no_calls piece fails = record { piece = piece; fails = fails; made = 0; faults = 0 }

-- the number of the next call, counted from 1, is listed; no number past the last value of a count can be
abbrev pub NextFails : Calls → Type 0
NextFails calls = Contains calls.fails (calls.made + 1)

-- one more call was made, which met a fault or met none
abbrev pub after_call : Calls → Bool → Calls
after_call calls fault = record calls { made = raised calls.made; faults = faults_after fault calls.faults }

-- a read that does not fail takes the least of the room in the buffer, the greatest piece and the bytes left
abbrev pub read_count : Input → List ℕ → ℕ
read_count source buffer = min (min (length buffer) source.calls.piece) (length source.left)

-- a write that is not refused takes the least of the piece's length and the greatest piece
abbrev pub write_count : Output → List ℕ → ℕ
write_count sink piece = min (length piece) sink.calls.piece

-- no call is listed to fail, and each can take a byte
pub record IsFaultless (calls : Calls) : Type 0 where
  pub unlisted : calls.fails ≡ []
  pub some : 1 ≤ calls.piece
