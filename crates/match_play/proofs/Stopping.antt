-- Why a match has stopped.
use Rattle.std.proofs.Common.{◌≡◌, ℕ, List, [], Bool, true, false, Some, Result, Err, inl, inr, refl, sym, ap, subst, ◌∙◌, append-nil}
use Rattle.script_text.specs.declared.causes.Cause.{Cause}
use Rattle.script_text.specs.declared.faults.ScriptFault.{ScriptFault}
use Rattle.script_text.specs.declared.faults.ScriptFault.TheVariants as met
use Rattle.script_text.specs.Script.{Item, beginning, bad_line}
use Rattle.script_text.specs.Causes.{stop_cause}
use Rattle.script_text.specs.Reader.{Held, HoldsRefused, held_cause}
use Rattle.match_play.specs.declared.faults.MatchFault.{MatchFault}
use Rattle.match_play.specs.declared.states.NextItem.{NextItem}
use Rattle.match_play.specs.declared.states.NextItem.TheVariants as next_item
use Rattle.match_play.specs.declared.states.MatchState.{MatchState}
use Rattle.match_play.specs.declared.states.ScriptStop.{ScriptStop}
use Rattle.match_play.specs.declared.states.ScriptStop.TheVariants.{BadLine, TooLong}
use Rattle.match_play.specs.Playing.{stop_of, StopsBehind, HasRead, HasPlayed, bad_cause, cause_at, cause_by, TellsWhy}
use Rattle.match_play.specs.inner.Fitting.{FitsAhead, HoldsStop, IsFit, TellsStop, fault_of, stop_in}
use Rattle.match_play.proofs.Playing.{stops_same}

-- a refusal by which a script stops leaves held what has a cause
pub holds_stop : (held : Held) (fault : ScriptFault) (stop : ScriptStop) → HoldsRefused held fault → stop_in fault ≡ Some stop → HoldsStop stop held
holds_stop held (met.BadLine n) stop bad is = subst (λ (s : ScriptStop). HoldsStop s held) (stops_same (BadLine n) stop is) bad.cause
holds_stop held (met.TooLong n) stop bad is = subst (λ (s : ScriptStop). HoldsStop s held) (stops_same (TooLong n) stop is) tt
holds_stop held met.ReadFault stop bad is = absurd (cc)
holds_stop held met.NoMemory stop bad is = absurd (cc)

-- a stop that waits has its cause, and has it still when it was told
pub stop_holds : (m : MatchState) (stop : ScriptStop) → m.next_item ≡ next_item.Stop stop → IsFit m → HoldsStop stop m.script
stop_holds m stop at fit = subst (FitsAhead m.ended m.progress m.script) at fit

pub told_holds : (m : MatchState) (stop : ScriptStop) → m.next_item ≡ next_item.Nothing stop → IsFit m → HoldsStop stop m.script
told_holds m stop at fit = subst (FitsAhead m.ended m.progress m.script) at fit

-- so a match that tells its stop has the cause of a bad line, and of no other stop
stop_why : (held : Held) (stop : ScriptStop) → HoldsStop stop held → TellsWhy (Err (fault_of stop)) (cause_by stop (held_cause held))
stop_why held (BadLine n) holds = holds
stop_why held (TooLong n) holds = refl

pub tells_why : (m : MatchState) (result : Result (Unit {0}) MatchFault) → TellsStop m.next_item result → IsFit m → TellsWhy result (bad_cause m)
tells_why m result (inl none) fit = subst (λ (r : Result (Unit {0}) MatchFault). TellsWhy r (bad_cause m)) (sym none) tt
tells_why m result (inr (stop, (at, is))) fit =
    let why : TellsWhy (Err (fault_of stop)) (cause_at m.next_item (held_cause m.script)) =
    subst (λ (next : NextItem). TellsWhy (Err (fault_of stop)) (cause_at next (held_cause m.script))) (sym at) (stop_why m.script stop (told_holds m stop at fit)) in
    subst (λ (r : Result (Unit {0}) MatchFault). TellsWhy r (bad_cause m)) (sym is) why

-- the cause of what is held is that of what was fed
bad_read : (ended : Bool) (held : Held) (fed : List ℕ) (items : List Item) (n : ℕ) → StopsBehind ended held fed items (bad_line n)
    → stop_cause fed beginning ≡ held_cause held
bad_read true held fed items n read = read.cause
bad_read false held fed items n read = ap (λ (bytes : List ℕ). stop_cause bytes beginning) (sym (append-nil fed)) ∙ (read []).cause

cause_stop : (ended : Bool) (held : Held) (fed : List ℕ) (items : List Item) (stop : ScriptStop) (cause : Cause)
    → StopsBehind ended held fed items (stop_of stop) → cause_by stop (held_cause held) ≡ Some cause → stop_cause fed beginning ≡ Some cause
cause_stop ended held fed items (BadLine n) cause read is = bad_read ended held fed items n read ∙ is
cause_stop ended held fed items (TooLong n) cause read is = absurd (cc)

cause_read : (ended : Bool) (held : Held) (fed : List ℕ) (items : List Item) (next : NextItem) (cause : Cause) → HasRead ended held fed items next
    → cause_at next (held_cause held) ≡ Some cause → stop_cause fed beginning ≡ Some cause
cause_read ended held fed items next_item.Lines cause read is = absurd (cc)
cause_read ended held fed items (next_item.Item item) cause read is = absurd (cc)
cause_read ended held fed items (next_item.Stop stop) cause read is = cause_stop ended held fed items stop cause read is
cause_read ended held fed items (next_item.Nothing stop) cause read is = cause_stop ended held fed items stop cause read is
cause_read ended held fed items next_item.Whole cause read is = absurd (cc)

pub one_cause : (m : MatchState) (fed told : List ℕ) (cause : Cause) → HasPlayed m fed told → bad_cause m ≡ Some cause → stop_cause fed beginning ≡ Some cause
one_cause m fed told cause h is = cause_read m.ended m.script fed h.items m.next_item cause h.read is
