use Rattle.std.proofs.Common.{arith}
use Rattle.pathserve.proofs.Writes.{more_written, part_written, appends_kept}
use Rattle.pathserve.proofs.writing.write_all.Goals as goal

pub returns-in-Ok-eq0-clause-written : goal.returns-in-Ok-eq0-clause-written
returns-in-Ok-eq0-clause-written g c =
    part_written _ _ c.args.piece.now _ (more_written _ _ _ c.args.piece.now c.loop-rest.rest.now c.in-Ok-eq0.field-0 c.loop-rest.invariant.written c.in-Ok-eq0.ensures.bytes)

pub loop-rest-preserved : goal.loop-rest-preserved
loop-rest-preserved g c =
    let cause = c.in-Ok.ensures.cause in let later = cause.later in record {
      written = more_written _ _ _ c.args.piece.now c.loop-rest.rest.now c.in-Ok.count c.loop-rest.invariant.written c.in-Ok.ensures.bytes;
      later = omega (arith, c.loop-rest.invariant.later);
    }

pub returns-in-Err-clause-written : goal.returns-in-Err-clause-written
returns-in-Err-clause-written g c =
    let before = part_written _ _ c.args.piece.now c.loop-rest.rest.now c.loop-rest.invariant.written in
    (before.0, appends_kept _ _ _ _ before.1 c.in-Err.ensures.bytes)
