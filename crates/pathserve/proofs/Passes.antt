-- What a source gave in the reads of a replay, and what a sink took in its writes.
use Rattle.std.proofs.Common.{◌≡◌, ℕ, List, [], take, ◌⊎◌, inl, inr, Option, Some, None, Result, Ok, Err, false, refl, ap, sym, subst, arith, ◌∙◌}
use Rattle.std.specs.Prelude.{◌≢◌, IfSome, IsSome, IsTrue}
use Rattle.io_edges.specs.Faults.{Rose}
use Rattle.io_edges.proofs.Passed.{given_none, taken_none}
use Rattle.std.proofs.lemmas.Bool.{both_ways}
use Rattle.io_edges.specs.Passing.{HasGiven, HasTaken}
use Rattle.io_edges.specs.declared.edges.WriteRefusal.{WriteRefusal}
use Rattle.io_edges.specs.declared.edges.WriteRefusal.TheVariants as refusal
use Rattle.script_text.specs.declared.faults.ScriptFault.{ScriptFault}
use Rattle.script_text.specs.declared.faults.ScriptFault.TheVariants as fault
use Rattle.script_text.specs.Script.{Item, bad_line}
use Rattle.pathserve.specs.declared.reasons.Reason.{Reason}
use Rattle.pathserve.specs.declared.reasons.Reason.TheVariants as why_so
use Rattle.pathserve.specs.declared.status.Status.{Status}
use Rattle.pathserve.specs.declared.status.Status.TheVariants.{Done, Usage, BadLine, ReadFault, WriteFault, NoMemory, TooLong}
use Rattle.pathserve.specs.Runs.{ReadsFrom, WritesTo, NamesReason, names_line, reason_status}
use Rattle.pathserve.specs.inner.Stopping.{IsHeldReason}
use Rattle.pathserve.specs.inner.Writing.{WritesPiece, WritesSome, StopsWith, EndsWith, refused_status, status_after}
use Rattle.posts.specs.declared.notes.Report.{Report}
use Rattle.pathserve.specs.Output.{Said, stop_text}
use Rattle.script_text.specs.Reader.{Held}
use Rattle.pathserve.proofs.Progress.{WentTold}
use Rattle.pathserve.proofs.Refusals.{refused_no_read, refused_no_usage}
use Rattle.pathserve.proofs.Replaying.{Stands}

-- what was read for the items so far
went_given : (start now : Option (List ℕ)) (held : Held) (items : List Item) → WentTold start now held items → HasGiven start now
went_given None now held items went = record { given = []; rest = tt }
went_given (Some bytes) None held items went = absurd went
went_given (Some bytes) (Some left) held items went = record { given = went.taken; rest = went.took }

pub stands_given : (report : Report) (start now kept keeps : Option (List ℕ)) (held : Held) (state : Said)
    → Stands report start now kept keeps held state → HasGiven start now
stands_given report start now kept keeps held state s = went_given start now held s.items s.went

-- the texts of the turns so far
pub stands_taken : (report : Report) (start now kept keeps : Option (List ℕ)) (held : Held) (state : Said)
    → Stands report start now kept keeps held state → HasTaken kept keeps
stands_taken report start now kept keeps held state s = record { taken = s.text; behind = s.wrote }

-- a piece, or a part of it

pub piece_taken : (kept now : Option (List ℕ)) (piece : List ℕ) (result : Result (Unit {0}) WriteRefusal) → WritesPiece kept now piece result → HasTaken kept now
piece_taken kept now piece (Ok done) wrote = record { taken = piece; behind = wrote }
piece_taken kept now piece (Err refused) wrote = record { taken = take wrote.0 piece; behind = wrote.1 }

-- a text of a kind, a part of one or none
pub some_taken : (Is : List ℕ → Type 0) (kept now : Option (List ℕ)) (result : Result (Unit {0}) WriteRefusal) → WritesSome Is kept now result → HasTaken kept now
some_taken Is kept now result (inl (text, (is, wrote))) = piece_taken kept now text result wrote
some_taken Is kept now result (inr (refused, wrote)) = record { taken = []; behind = wrote }

-- what a run leaves that ends with a text
pub ends_taken : (Is : List ℕ → Type 0) (kept now : Option (List ℕ)) (status : Status) → EndsWith Is kept now status → HasTaken kept now
ends_taken Is kept now status (written, (wrote, is)) = some_taken Is kept now written wrote

-- what a stop of the input leaves
pub stop_taken : (kept now : Option (List ℕ)) (met : ScriptFault) (status : Status) → StopsWith met kept now status → HasTaken kept now
stop_taken kept now (fault.BadLine n) status (written, (wrote, is)) = piece_taken kept now (stop_text (bad_line n)) written wrote
stop_taken kept now (fault.TooLong n) status (is, wrote) = record { taken = []; behind = wrote }
stop_taken kept now fault.ReadFault status (is, wrote) = record { taken = []; behind = wrote }
stop_taken kept now fault.NoMemory status (is, wrote) = record { taken = []; behind = wrote }

-- ---- statuses that are no fault

pub done_no_read : Done ≢ ReadFault
done_no_read is = cc

pub done_no_write : Done ≢ WriteFault
done_no_write is = cc

pub no_memory_no_read : NoMemory ≢ ReadFault
no_memory_no_read is = cc

pub no_memory_no_write : NoMemory ≢ WriteFault
no_memory_no_write is = cc

-- the status after a write is that of a whole one, or of a refused one
pub after_other : (whole other : Status) → whole ≢ other → ((refused : WriteRefusal) → refused_status refused ≢ other)
    → (written : Result (Unit {0}) WriteRefusal) → status_after written whole ≢ other
after_other whole other differs refused_differs (Ok done) is = differs is
after_other whole other differs refused_differs (Err refused) is = refused_differs refused is

-- what is so of each status that a stop of the input may have
stop_so : (P : Status → Type 0) (kept now : Option (List ℕ)) (met : ScriptFault) (status : Status) → StopsWith met kept now status
    → ((written : Result (Unit {0}) WriteRefusal) → P (status_after written BadLine)) → P TooLong → (met ≡ fault.ReadFault → P ReadFault) → P NoMemory → P status
stop_so P kept now (fault.BadLine n) status (written, (wrote, is)) bad long read none = subst P (sym is) (bad written)
stop_so P kept now (fault.TooLong n) status (is, wrote) bad long read none = subst P (sym is) long
stop_so P kept now fault.ReadFault status (is, wrote) bad long read none = subst P (sym is) (read refl)
stop_so P kept now fault.NoMemory status (is, wrote) bad long read none = subst P (sym is) none

-- a stop of the input has the status ReadFault only where it came by one
pub stop_read : (reads reading_now : ℕ) (kept now : Option (List ℕ)) (met : ScriptFault) (status : Status) → StopsWith met kept now status
    → (met ≡ fault.ReadFault → Rose reads reading_now) → status ≡ ReadFault → Rose reads reading_now
stop_read reads reading_now kept now met status stops rose =
    stop_so (λ s. s ≡ ReadFault → Rose reads reading_now) kept now met status stops (λ written is. absurd (after_other BadLine ReadFault (λ same. cc) refused_no_read written is))
    (λ is. let other : TooLong ≡ ReadFault = is in absurd (cc)) (λ by_fault is. rose by_fault) (λ is. absurd (no_memory_no_read is))

-- ---- statuses that are not Usage

pub done_no_usage : Done ≢ Usage
done_no_usage is = cc

pub no_memory_no_usage : NoMemory ≢ Usage
no_memory_no_usage is = cc

-- a stop of the input never has it
pub stop_no_usage : (kept now : Option (List ℕ)) (met : ScriptFault) (status : Status) → StopsWith met kept now status → status ≢ Usage
stop_no_usage kept now met status stops =
    stop_so (λ s. s ≢ Usage) kept now met status stops (after_other BadLine Usage (λ same. cc) refused_no_usage) (λ is. let other : TooLong ≡ Usage = is in cc)
    (λ by_fault is. let other : ReadFault ≡ Usage = is in cc) no_memory_no_usage

-- ---- the line that is named

-- a stop of the input has a status at which a line is named only where a line was refused
pub stop_line : (kept now : Option (List ℕ)) (met : ScriptFault) (status : Status) → StopsWith met kept now status → IsTrue (names_line status)
    → (n : ℕ) × ((met ≡ fault.BadLine n) ⊎ (met ≡ fault.TooLong n))
stop_line kept now (fault.BadLine n) status stops named = (n, inl refl)
stop_line kept now (fault.TooLong n) status stops named = (n, inr refl)
stop_line kept now fault.ReadFault status (is, wrote) named = absurd (both_ways (names_line status) (ap names_line is) named)
stop_line kept now fault.NoMemory status (is, wrote) named = absurd (both_ways (names_line status) (ap names_line is) named)

-- none is, at another status
pub none_named : (input : Option (List ℕ)) (why : Option Reason) (status : Status) → why ≡ None → names_line status ≡ false → NamesReason input why status
none_named input None status is other = record {
  true_of = λ bytes told. tt;
  status_of = tt;
  named = (λ some. absurd (both_ways false refl some), λ line. absurd (both_ways (names_line status) other line));
}
none_named input (Some bad) status is other = cc

pub refused_no_line : (refused : WriteRefusal) → names_line (refused_status refused) ≡ false
refused_no_line refusal.Failed = refl
refused_no_line refusal.NoMemory = refl

-- the status of a stop is that of the reason for which the line was refused
bad_line_status : (written : Result (Unit {0}) WriteRefusal) (status : Status) → status ≡ status_after written BadLine → IsTrue (names_line status) → status ≡ BadLine
bad_line_status (Ok done) status is named = is
bad_line_status (Err refused) status is named = absurd (both_ways (names_line status) (ap names_line is ∙ refused_no_line refused) named)

pub stop_reason : (h : Held) (kept now : Option (List ℕ)) (met : ScriptFault) (status : Status) (why : Option Reason) → StopsWith met kept now status → IsTrue (names_line status)
    → IfSome why (IsHeldReason h met) → IfSome why (λ reason. status ≡ reason_status reason)
stop_reason h kept now met status None stops named held = tt
stop_reason h kept now met status (Some (why_so.BadLine bad)) stops named held =
    let (written, (wrote, is)) = subst (λ (f : ScriptFault). StopsWith f kept now status) held.line stops in bad_line_status written status is named
stop_reason h kept now met status (Some (why_so.TooLong n)) stops named held = (subst (λ (f : ScriptFault). StopsWith f kept now status) held stops).0

-- where a line was refused, a reason is named
pub stop_named : (kept now : Option (List ℕ)) (met : ScriptFault) (status : Status) (why : Option Reason) → StopsWith met kept now status
    → ((n : ℕ) → met ≡ fault.BadLine n → IsSome why) → ((n : ℕ) → met ≡ fault.TooLong n → IsSome why) → IsTrue (names_line status) → IsSome why
stop_named kept now met status why stops bad long named = by_line (stop_line kept now met status stops named)
  where
    by_line : ((n : ℕ) × ((met ≡ fault.BadLine n) ⊎ (met ≡ fault.TooLong n))) → IsSome why
    by_line (n, inl is) = bad n is
    by_line (n, inr is) = long n is

-- ---- runs that read nothing, or write nothing

pub reads_nothing : (left : Option (List ℕ)) (faults : ℕ) (status : Status) → status ≢ ReadFault → ReadsFrom left left faults faults status
reads_nothing left faults status none = record { given = given_none left; later = omega arith; fault = λ is. absurd (none is) }

pub writes_nothing : (kept : Option (List ℕ)) (faults : ℕ) (status : Status) → status ≢ WriteFault → WritesTo kept kept faults faults status
writes_nothing kept faults status none = record { taken = taken_none kept; later = omega arith; fault = λ is. absurd (none is) }
