use Rattle.std.proofs.Common.{inl, inr, refl}
use Rattle.pathserve_c.proofs.snapshots.forget.Goals as goal

pub returns-in-Ok : goal.returns-in-Ok
returns-in-Ok c = inl (record { done = refl; anew = c.in-Ok.ensures.ok; stands = c.forget.ensures.stands })

pub returns-in-Err : goal.returns-in-Err
returns-in-Err c = inr (record { why = refl; same = c.in-Err.ensures.err })
