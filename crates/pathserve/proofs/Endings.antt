-- Runs of a script that end.
use Rattle.std.proofs.Common.{◌≡◌, ◌≤◌, ℕ, List, Option, None, IsTrue, arith, refl, inl, inr}
use Rattle.std.specs.Prelude.{◌↔◌, IfSome, IsSome, ◌≢◌}
use Rattle.io_edges.specs.Faults.{Rose}
use Rattle.io_edges.specs.Passing.{HasGiven, HasTaken}
use Rattle.io_edges.proofs.Passed.{taken_more}
use Rattle.input_lines.proofs.ToldLines.{rose-later}
use Rattle.script_text.specs.declared.faults.ScriptFault.{ScriptFault}
use Rattle.script_text.specs.declared.faults.ScriptFault.TheVariants as fault
use Rattle.script_text.specs.Reader.{Held}
use Rattle.pathserve.specs.declared.reasons.Reason.{Reason}
use Rattle.pathserve.specs.declared.status.Status.{Status}
use Rattle.pathserve.specs.declared.status.Status.TheVariants.{NoMemory, WriteFault}
use Rattle.pathserve.specs.Runs.{RunsScript, names_line, reason_status}
use Rattle.pathserve.specs.inner.Stopping.{IsHeldReason}
use Rattle.pathserve.specs.inner.WholeScripts.{RefusedTold}
use Rattle.pathserve.specs.inner.Writing.{StopsWith}
use Rattle.pathserve.proofs.Passes.{no_memory_no_read, no_memory_no_usage, no_memory_no_write, none_named, reads_nothing, stop_no_usage, stop_read, stop_taken, writes_nothing}
use Rattle.pathserve.proofs.Refusals.{stop_of_refusal, why_refused}

-- what the end of a run names, and with which status
pub record Named (new : Held) (met : ScriptFault) (why : Option Reason) (status : Status) : Type 0 where
  pub true_of : IfSome why (IsHeldReason new met)
  pub status_of : IfSome why (λ reason. status ≡ reason_status reason)
  pub named : (IsSome why) ↔ IsTrue (names_line status)

-- no part of the script came: the counts of faults were `reads` and `writes` at the beginning, and `mid` before the stop was written
pub runs_stopped : (new : Held) (met : ScriptFault) (start now kept keeps final : Option (List ℕ)) (reads reading_now writes mid writing_now : ℕ) (why : Option Reason) (status : Status)
    → RefusedTold new met start now → StopsWith met keeps final status → HasGiven start now → HasTaken kept keeps → reads ≤ reading_now
    → (met ≡ fault.ReadFault → Rose reads reading_now) → writes ≤ mid → mid ≤ writing_now → (status ≡ WriteFault → Rose mid writing_now)
    → Named new met why status → RunsScript start now reads reading_now kept final writes writing_now why status
runs_stopped new met start now kept keeps final reads reading_now writes mid writing_now why status refused stops given taken later rose_read less more rose named = record {
  stop = stop_of_refusal new met start now keeps final status reads reading_now writes writing_now refused stops rose_read (λ is. rose-later _ _ _ less (rose is));
  usage = stop_no_usage keeps final met status stops;
  source = record { given = given; later = later; fault = stop_read reads reading_now keeps final met status stops rose_read };
  sink = record {
    taken = taken_more kept keeps final taken (stop_taken keeps final met status stops);
    later = omega (arith, less, more);
    fault = λ is. rose-later _ _ _ less (rose is);
  };
  why = record {
    true_of = why_refused new met start now why refused named.true_of;
    status_of = named.status_of;
    named = named.named;
  };
}

-- there was no memory for a reader
pub runs_nothing : (start kept : Option (List ℕ)) (reads writes : ℕ) (why : Option Reason) → why ≡ None → RunsScript start start reads reads kept kept writes writes why NoMemory
runs_nothing start kept reads writes why none = record {
  stop = λ bytes left. inr (inl refl);
  usage = no_memory_no_usage;
  source = reads_nothing start reads NoMemory no_memory_no_read;
  sink = writes_nothing kept writes NoMemory no_memory_no_write;
  why = none_named start why NoMemory none refl;
}
