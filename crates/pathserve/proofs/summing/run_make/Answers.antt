use Rattle.std.proofs.Common.{Result, Ok, Err, ap, sym, ◌∙◌}
use Rattle.io_edges.specs.declared.edges.WriteRefusal.{WriteRefusal}
use Rattle.pathserve.proofs.Passes.{done_no_write}
use Rattle.pathserve.proofs.Refusals.{refused_by_fault}
use Rattle.pathserve.proofs.SummaryTexts.{made_told, made_status, text_taken}
use Rattle.pathserve.proofs.summing.run_make.Goals as goal

pub returns-in-Ok-clause-told : goal.returns-in-Ok-clause-told
returns-in-Ok-clause-told g c = made_told c.args.seed _ _ c.summary.result (Ok c.in-Ok.field-0) c.summary.ensures c.in-Ok.ensures.written

pub returns-in-Ok-clause-sink : goal.returns-in-Ok-clause-sink
returns-in-Ok-clause-sink g c = record {
  taken = text_taken _ _ c.summary.result (Ok c.in-Ok.field-0) c.in-Ok.ensures.written;
  later = c.in-Ok.ensures.later;
  fault = λ is. absurd (done_no_write is);
}

pub returns-clause-told : goal.returns-clause-told
returns-clause-told g c =
    rw c.status_of.ensures (made_told c.args.seed _ _ c.summary.result (Err c.in-Err.refusal) c.summary.ensures c.in-Err.ensures.written)

pub returns-clause-status : goal.returns-clause-status
returns-clause-status g c =
    rw c.status_of.ensures (made_status (Err c.in-Err.refusal) _ _ c.in-Err.ensures.fault)

pub returns-clause-sink : goal.returns-clause-sink
returns-clause-sink g c =
    let Refused : WriteRefusal → Result (Unit {0}) WriteRefusal = λ refused. Err refused in
    record {
      taken = text_taken _ _ c.summary.result (Err c.in-Err.refusal) c.in-Err.ensures.written;
      later = c.in-Err.ensures.later;
      fault = λ is. c.in-Err.ensures.fault (ap Refused (refused_by_fault c.in-Err.refusal (sym c.status_of.ensures ∙ is)));
    }
