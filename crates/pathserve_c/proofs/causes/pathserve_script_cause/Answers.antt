use Rattle.std.proofs.Common.{inl, inr, refl}
use Rattle.pathserve_c.proofs.causes.pathserve_script_cause.Goals as goal

pub returns-in-Ok : goal.returns-in-Ok
returns-in-Ok c = record { told = inr (c.in-Ok.found, (c.in-Ok.ensures, c.tell_bad_line.ensures)) }

pub returns-in-Err : goal.returns-in-Err
returns-in-Err c = record { told = inl (record { why = refl; line = refl; text = refl; whole = refl }) }
