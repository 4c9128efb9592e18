-- What an answer leaves.
use Rattle.std.proofs.Common.{◌≡◌, Bool, false, Option, Some, None, Result, Ok, Err, IfOk, IfErr, IfSome}
use Rattle.std.specs.Prelude.{is_err}
use Rattle.script_text.specs.declared.faults.ScriptFault.{ScriptFault}
use Rattle.script_text.specs.declared.faults.ScriptFault.TheVariants.{BadLine, TooLong, ReadFault, NoMemory}
use Rattle.script_text.specs.Reader.{Held, HoldsRefused, Leaves, LeavesHeld, is_last}
use Rattle.script_text.proofs.ReadStill.{with_flags}

-- whether calls may follow plays no part in what a refusal leaves
refused_by : (h : Held) (over failed : Bool) (fault : ScriptFault) → HoldsRefused h fault → HoldsRefused (with_flags h over failed) fault
refused_by h over failed (BadLine n) bad = record { number = bad.number; cause = bad.cause }
refused_by h over failed (TooLong n) bad = tt
refused_by h over failed ReadFault bad = tt
refused_by h over failed NoMemory bad = tt

refused_flags : {A : Type 0} (h : Held) (over failed : Bool) (result : Result A ScriptFault) → IfErr result (HoldsRefused h) → IfErr result (HoldsRefused (with_flags h over failed))
refused_flags h over failed (Ok x) bad = tt
refused_flags h over failed (Err fault) bad = refused_by h over failed fault bad

pub leaves_flags : {A : Type 0} (first last : Held) (a b over failed is_over : Bool) (result : Result A ScriptFault) → LeavesHeld first last result → over ≡ is_over → failed ≡ is_err result
    → Leaves (with_flags first a b) (with_flags last over failed) is_over result
leaves_flags first last a b over failed is_over result held is_last has_failed = record {
  held = record { limit = held.limit; stays = held.stays; bad = refused_flags last over failed result held.bad };
  over = is_last;
  failed = has_failed;
}

-- where calls may follow, something was given
pub where_going : {A P : Type 0} (result : Result (Option A) ScriptFault) → IfOk result (λ next. IfSome next (λ given. P)) → is_last result ≡ false → P
where_going (Ok (Some given)) holds going = holds
where_going (Ok None) holds going = absurd (cc)
where_going (Err fault) holds going = absurd (cc)
