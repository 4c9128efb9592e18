-- Runs of a script of which no more comes, and writes that are refused.
use Rattle.std.proofs.Common.{◌≡◌, ◌≢◌, ℕ, List, [], ◌++◌, Option, Some, None, Result, Ok, Err, inl, inr, refl, sym, ap, ◌∙◌, subst, IsTrue}
use Rattle.std.specs.Prelude.{IfSome}
use Rattle.std.proofs.lemmas.Option.{IfSome_then}
use Rattle.io_edges.specs.Faults.{Rose}
use Rattle.io_edges.specs.declared.edges.WriteRefusal.{WriteRefusal}
use Rattle.io_edges.specs.declared.edges.WriteRefusal.TheVariants as refusal
use Rattle.input_lines.specs.Held.{WhereTold}
use Rattle.input_lines.proofs.ToldLines.{told-then}
use Rattle.script_text.specs.declared.faults.ScriptFault.{ScriptFault}
use Rattle.script_text.specs.declared.faults.ScriptFault.TheVariants as fault
use Rattle.script_text.specs.Items.{ItemTold}
use Rattle.script_text.specs.Reader.{Held, GoesOn, Refuses, unread, stuck_after}
use Rattle.script_text.specs.Script.{Item, Ends, Stop, Walk, beginning, bad_line, reading, stuck_by, too_long}
use Rattle.script_text.proofs.ReadCalls.{fault_then, stuck_then}
use Rattle.pathserve.specs.declared.bad_lines.BadLine as reason
use Rattle.pathserve.specs.declared.reasons.Reason.{Reason}
use Rattle.pathserve.specs.declared.reasons.Reason.TheVariants as why_so
use Rattle.pathserve.specs.declared.status.Status.{Status}
use Rattle.pathserve.specs.declared.status.Status.TheVariants.{Done, Usage, BadLine, ReadFault, WriteFault, NoMemory, TooLong}
use Rattle.pathserve.specs.Output.{ComesByStop, stop_status}
use Rattle.pathserve.specs.Reasons.{IsReason, IsWhyBad}
use Rattle.pathserve.specs.inner.Stopping.{IsHeldReason}
use Rattle.pathserve.specs.inner.WholeScripts.{RefusedTold, RefusesAll}
use Rattle.pathserve.specs.inner.Writing.{StopsWith, refused_status, status_after}
use Rattle.pathserve.proofs.Progress.{Went, WentTold, going}

-- ---- a refusal behind the items so far

pub refuses_then : (held new : Held) (bytes left after : List ℕ) (items : List Item) (met : ScriptFault) → Went bytes left held items → Refuses held new left after [] met
    → Refuses unread new bytes after (items ++ []) met
refuses_then held new bytes left after items (fault.BadLine n) on refused = record {
  stuck = stuck_then unread held bytes left items [] (bad_line n) on refused.stuck;
  cause = on.cause ∙ refused.cause;
}
refuses_then held new bytes left after items (fault.TooLong n) on refused = stuck_then unread held bytes left items [] (too_long n) on refused
refuses_then held new bytes left after items fault.ReadFault on refused = fault_then unread held new bytes left after items [] going on refused
refuses_then held new bytes left after items fault.NoMemory on refused = tt

pub refused_told : (start before now : Option (List ℕ)) (held new : Held) (items : List Item) (met : ScriptFault) → WentTold start before held items
    → ItemTold held new before now (Err met) → RefusedTold new met start now
refused_told start before now held new items met went refused =
    told-then start before now _ _ _ (λ bytes left after on said. record { items = items ++ []; refused = refuses_then held new bytes left after items met on (said on.at_end) })
    went refused

-- ---- writes that are refused for a fault of the sink or for want of memory alone

pub refused_no_usage : (refused : WriteRefusal) → refused_status refused ≢ Usage
refused_no_usage refusal.Failed is = let other : WriteFault ≡ Usage = is in cc
refused_no_usage refusal.NoMemory is = let other : NoMemory ≡ Usage = is in cc

pub refused_no_read : (refused : WriteRefusal) → refused_status refused ≢ ReadFault
refused_no_read refusal.Failed is = let other : WriteFault ≡ ReadFault = is in cc
refused_no_read refusal.NoMemory is = let other : NoMemory ≡ ReadFault = is in cc

pub refused_by_fault : (refused : WriteRefusal) → refused_status refused ≡ WriteFault → refused ≡ refusal.Failed
refused_by_fault refusal.Failed is = refl
refused_by_fault refusal.NoMemory is = let other : NoMemory ≡ WriteFault = is in cc

-- ---- the status

pub stop_refused : (reads reading_now writes writing_now : ℕ) (ends : Ends) (refused : WriteRefusal)
    → (refused ≡ refusal.Failed → Rose writes writing_now) → ComesByStop reads reading_now writes writing_now ends (refused_status refused)
stop_refused reads reading_now writes writing_now ends refusal.Failed rose = inr (inr (inr (refl, rose refl)))
stop_refused reads reading_now writes writing_now ends refusal.NoMemory rose = inr (inl refl)

-- a bad line was named, or its name was refused
stop_bad_line : (reads reading_now writes writing_now : ℕ) (ends : Ends) (n : ℕ) (written : Result (Unit {0}) WriteRefusal) (status : Status)
    → status ≡ status_after written BadLine → ends ≡ stuck_by (bad_line n) → (status ≡ WriteFault → Rose writes writing_now)
    → ComesByStop reads reading_now writes writing_now ends status
stop_bad_line reads reading_now writes writing_now ends n (Ok whole) status is stop rose = inl (is ∙ ap stop_status (sym stop))
stop_bad_line reads reading_now writes writing_now ends n (Err refusal.Failed) status is stop rose = inr (inr (inr (is, rose is)))
stop_bad_line reads reading_now writes writing_now ends n (Err refusal.NoMemory) status is stop rose = inr (inl is)

-- what is told of the bytes of the source
pub at_bytes : (P : List ℕ → Type 0) (start now : Option (List ℕ)) (Says : List ℕ → List ℕ → Type 0) (bytes : List ℕ) → WhereTold start now Says
    → start ≡ Some bytes → ((left rest : List ℕ) → Says left rest → P left) → P bytes
at_bytes P None now Says bytes s is here = absurd (cc)
at_bytes P (Some first) None Says bytes s is here = absurd s
at_bytes P (Some first) (Some rest) Says bytes s is here =
    let same : first ≡ bytes = cc in
    subst P same (here first rest s)

pub ends_of : (bytes : List ℕ) (items : List Item) (stop : Stop) → reading bytes beginning ≡ stuck_after items stop → (reading bytes beginning).ends ≡ stuck_by stop
ends_of bytes items stop is = ap (λ (v : Walk). v.ends) is

pub stop_of_refusal : (new : Held) (met : ScriptFault) (start now kept final : Option (List ℕ)) (status : Status) (reads reading_now writes writing_now : ℕ)
    → RefusedTold new met start now → StopsWith met kept final status → (met ≡ fault.ReadFault → Rose reads reading_now)
    → (status ≡ WriteFault → Rose writes writing_now) → (bytes : List ℕ) → start ≡ Some bytes
    → ComesByStop reads reading_now writes writing_now (reading bytes beginning).ends status
stop_of_refusal new (fault.BadLine n) start now kept final status reads reading_now writes writing_now s (written, (wrote, is)) rose_read rose bytes told =
    at_bytes (λ (l : List ℕ). ComesByStop reads reading_now writes writing_now (reading l beginning).ends status) start now
    (λ bytes rest. RefusesAll unread new bytes rest (fault.BadLine n)) bytes s told
    (λ left rest r. stop_bad_line reads reading_now writes writing_now (reading left beginning).ends n written status is
    (ends_of left r.items (bad_line n) r.refused.stuck) rose)
stop_of_refusal new (fault.TooLong n) start now kept final status reads reading_now writes writing_now s (is, wrote) rose_read rose bytes told =
    at_bytes (λ (l : List ℕ). ComesByStop reads reading_now writes writing_now (reading l beginning).ends status) start now
    (λ bytes rest. RefusesAll unread new bytes rest (fault.TooLong n)) bytes s told
    (λ left rest r. inl (is ∙ ap stop_status (sym (ends_of left r.items (too_long n) r.refused))))
stop_of_refusal new fault.ReadFault start now kept final status reads reading_now writes writing_now s (is, wrote) rose_read rose bytes told =
    inr (inr (inl (is, rose_read refl)))
stop_of_refusal new fault.NoMemory start now kept final status reads reading_now writes writing_now s (is, wrote) rose_read rose bytes told = inr (inl is)

-- ---- why a line is bad

pub why_refused : (new : Held) (met : ScriptFault) (start now : Option (List ℕ)) (why : Option Reason) → RefusedTold new met start now
    → IfSome why (IsHeldReason new met) → (bytes : List ℕ) → start ≡ Some bytes → IfSome why (IsReason bytes)
why_refused new met start now None s h bytes is = tt
why_refused new met start now (Some (why_so.BadLine bad)) s h bytes is =
    at_bytes (λ (l : List ℕ). IsWhyBad l bad) start now (λ bytes rest. RefusesAll unread new bytes rest met) bytes s is
    (λ left rest r.
    let bad_one = subst (λ (f : ScriptFault). RefusesAll unread new left rest f) h.line r in
    record {
      stops = ends_of left bad_one.items (bad_line bad.number) bad_one.refused.stuck;
      cause = IfSome_then bad.cause h.cause (λ found held_so. bad_one.refused.cause ∙ held_so);
    })
why_refused new met start now (Some (why_so.TooLong n)) s h bytes is =
    at_bytes (λ (l : List ℕ). IsReason l (why_so.TooLong n)) start now (λ bytes rest. RefusesAll unread new bytes rest met) bytes s is
    (λ left rest r.
    let long = subst (λ (f : ScriptFault). RefusesAll unread new left rest f) h r in
    ends_of left long.items (too_long n) long.refused)
