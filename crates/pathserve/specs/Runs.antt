-- What every run keeps to, whatever it was asked for and however it ended.
use Rattle.std.specs.Prelude.{ℕ, ◌≡◌, ◌≢◌, ◌≤◌, ◌↔◌, List, Bool, true, false, Option, Some, IfSome, IsSome, IsTrue}
use Rattle.io_edges.specs.Faults.{Rose}
use Rattle.io_edges.specs.Passing.{HasGiven, HasTaken}
use Rattle.pathserve.specs.declared.reasons.Reason.{Reason}
use Rattle.pathserve.specs.declared.reasons.Reason.TheVariants as reason
use Rattle.pathserve.specs.declared.status.Status.{Status}
use Rattle.pathserve.specs.declared.status.Status.TheVariants.{Usage, BadLine, ReadFault, WriteFault, TooLong}
use Rattle.script_text.specs.Script.{reading, beginning}
use Rattle.pathserve.specs.Output.{ComesByStop}
use Rattle.pathserve.specs.Reasons.{IsReason}

-- A run reads its source: the source gave the first of the bytes that it had left (`before`) and has the rest (`now`), its
-- count of faults has not fallen, and the status is ReadFault only where that count rose.
pub record ReadsFrom (before now : Option (List ℕ)) (faults_before faults_now : ℕ) (status : Status) : Type 0 where
  pub given : HasGiven before now
  pub later : faults_before ≤ faults_now
  pub fault : status ≡ ReadFault → Rose faults_before faults_now

-- A run writes to its sink: the sink keeps what it took behind what it had kept, its count of faults has not fallen, and
-- the status is WriteFault only where that count rose.
pub record WritesTo (before now : Option (List ℕ)) (faults_before faults_now : ℕ) (status : Status) : Type 0 where
  pub taken : HasTaken before now
  pub later : faults_before ≤ faults_now
  pub fault : status ≡ WriteFault → Rose faults_before faults_now

-- the status of a run whose input stops for the reason
abbrev pub reason_status : Reason → Status
reason_status (reason.BadLine bad) = BadLine
reason_status (reason.TooLong n) = TooLong

-- the statuses at which a run names a line
abbrev pub names_line : Status → Bool
names_line BadLine = true
names_line TooLong = true
names_line other = false

-- A run names the line at which its input stops where its status is BadLine or TooLong, and there alone: for a reason of that
-- status, which is the one for which its input stops.
pub record NamesReason (input : Option (List ℕ)) (why : Option Reason) (status : Status) : Type 0 where
  pub true_of : (bytes : List ℕ) → input ≡ Some bytes → IfSome why (IsReason bytes)
  pub status_of : IfSome why (λ named. status ≡ reason_status named)
  pub named : (IsSome why) ↔ IsTrue (names_line status)

-- A run of a script, whatever is done with it: it reads the script from its source, writes to its sink, and names the line at
-- which the script stops. Its status is that of the stop, unless a fault or want of memory came before, and never Usage.
pub record RunsScript (input left : Option (List ℕ)) (reads_before reads_now : ℕ) (kept keeps : Option (List ℕ)) (writes_before writes_now : ℕ)
    (line : Option Reason) (status : Status) : Type 0 where
  pub stop : (bytes : List ℕ) → input ≡ Some bytes → ComesByStop reads_before reads_now writes_before writes_now (reading bytes beginning).ends status
  pub usage : status ≢ Usage
  pub source : ReadsFrom input left reads_before reads_now status
  pub sink : WritesTo kept keeps writes_before writes_now status
  pub why : NamesReason input line status
