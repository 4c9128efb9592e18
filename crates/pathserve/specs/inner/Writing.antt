-- What writes leave in a sink that keeps its bytes.
use Rattle.std.specs.Prelude.{ℕ, ◌≡◌, ◌⊎◌, List, [], take, Option, Result, Ok, Err}
use Rattle.std.specs.Io.KnownBytes.{Appends}
use Rattle.io_edges.specs.declared.edges.WriteRefusal.{WriteRefusal}
use Rattle.io_edges.specs.declared.edges.WriteRefusal.TheVariants as refusal
use Rattle.nav_types.specs.declared.sequences.NoMemory as memory
use Rattle.script_text.specs.declared.faults.ScriptFault.{ScriptFault}
use Rattle.script_text.specs.declared.faults.ScriptFault.TheVariants as fault
use Rattle.pathserve.specs.declared.status.Status.{Status}
use Rattle.pathserve.specs.declared.status.Status.TheVariants.{Done, BadLine, ReadFault, WriteFault, NoMemory, TooLong}
use Rattle.script_text.specs.Script.{bad_line}
use Rattle.pathserve.specs.Output.{stop_text}

-- the piece was written whole, or at a refusal its first n bytes for some n
abbrev pub WritesPiece : Option (List ℕ) → Option (List ℕ) → List ℕ → Result (Unit {0}) WriteRefusal → Type 0
WritesPiece kept now piece (Ok done) = Appends kept now piece
WritesPiece kept now piece (Err refused) = (n : ℕ) × Appends kept now (take n piece)

-- the text was written as one piece; where there was no memory for it, nothing was written
abbrev pub WritesText : Option (List ℕ) → Option (List ℕ) → Result (List ℕ) memory.NoMemory → Result (Unit {0}) WriteRefusal → Type 0
WritesText kept now (Ok text) result = WritesPiece kept now text result
WritesText kept now (Err none) result = (result ≡ Err refusal.NoMemory) × Appends kept now []

-- a text that is such was written as one piece, or there was no memory for one, and nothing was written
abbrev pub WritesSome : (List ℕ → Type 0) → Option (List ℕ) → Option (List ℕ) → Result (Unit {0}) WriteRefusal → Type 0
WritesSome Is kept now result =
    ((text : List ℕ) × (Is text × WritesPiece kept now text result)) ⊎ ((result ≡ Err refusal.NoMemory) × Appends kept now [])

-- the status of a refused write
abbrev pub refused_status : WriteRefusal → Status
refused_status refusal.Failed = WriteFault
refused_status refusal.NoMemory = NoMemory

-- the status after a write, where a whole one has the given status
abbrev pub status_after : Result (Unit {0}) WriteRefusal → Status → Status
status_after (Ok done) whole = whole
status_after (Err refused) whole = refused_status refused

-- The status where no part of the script came, and what was written for it: a bad line was named, unless the write was refused,
-- and for the others nothing was written.
abbrev pub StopsWith : ScriptFault → Option (List ℕ) → Option (List ℕ) → Status → Type 0
StopsWith (fault.BadLine n) kept now status =
    (written : Result (Unit {0}) WriteRefusal) × (WritesPiece kept now (stop_text (bad_line n)) written × (status ≡ status_after written BadLine))
StopsWith (fault.TooLong n) kept now status = (status ≡ TooLong) × Appends kept now []
StopsWith fault.ReadFault kept now status = (status ≡ ReadFault) × Appends kept now []
StopsWith fault.NoMemory kept now status = (status ≡ NoMemory) × Appends kept now []

-- the status of a run that ends with a text that is such, or for which there was no memory
abbrev pub EndsWith : (List ℕ → Type 0) → Option (List ℕ) → Option (List ℕ) → Status → Type 0
EndsWith Is kept now status =
    (written : Result (Unit {0}) WriteRefusal) × (WritesSome Is kept now written × (status ≡ status_after written Done))
