use Rattle.std.proofs.Common.{Result, Err, ap, refl, sym, ◌∙◌, arith}
use Rattle.io_edges.proofs.Passed.{taken_none}
use Rattle.script_text.specs.declared.faults.ScriptFault.{ScriptFault}
use Rattle.pathserve.specs.declared.serving.Script.{Script}
use Rattle.pathserve.specs.inner.WholeScripts.{IsTextOfSession}
use Rattle.pathserve.proofs.Endings.{runs_nothing, runs_stopped}
use Rattle.pathserve.proofs.Passes.{ends_taken, none_named}
use Rattle.pathserve.proofs.ServedTexts.{ends_no_line, ends_no_read, ends_no_usage, fault_written, stop_served, told_no_reader, told_refused, told_session}
use Rattle.pathserve.proofs.serving.run_serve.Goals as goal

-- ---- there was no memory for the reader

pub returns-in_default-clause-run : goal.returns-in_default-clause-run
returns-in_default-clause-run g c = runs_nothing _ _ _ _ _ refl

pub returns-in_default-clause-told : goal.returns-in_default-clause-told
returns-in_default-clause-told g c = told_no_reader _ _

-- ---- no more of the script comes

pub returns-clause-run : goal.returns-clause-run
returns-clause-run g c =
    let Refused : ScriptFault → Result Script ScriptFault = λ fault. Err fault in
    runs_stopped c.read_script.new.reader c.in-Err.fault _ _ _ _ _ _ _ _ _ _ _ _ c.in-Err.ensures.told c.stop_at.ensures.stops c.read_script.ensures.given (taken_none _)
    c.read_script.ensures.later (λ is. c.in-Err.ensures.fault (ap Refused is)) (omega arith) c.stop_at.ensures.later c.stop_at.ensures.write
    (record { true_of = c.stop_at.ensures.why; status_of = c.stop_at.ensures.status; named = c.stop_at.ensures.named })

pub returns-clause-told : goal.returns-clause-told
returns-clause-told g c = told_refused c.read_script.new.reader c.in-Err.fault _ _ _ _ _ c.in-Err.ensures.told c.stop_at.ensures.stops

-- ---- the script was read

pub returns-in-Ok-read_script-clause-run : goal.returns-in-Ok-read_script-clause-run
returns-in-Ok-read_script-clause-run g c =
    let map = c.in-Ok-read_script.script.map in
    let posts = c.in-Ok-read_script.script.posts in
    let whole = c.in-Ok-read_script.ensures.told in
    record {
      stop = stop_served map posts _ _ _ _ _ _ _ _ _ whole (c.serve_script.result, (c.serve_script.ensures.written, c.status_written.ensures))
          (λ is. c.serve_script.ensures.fault (fault_written c.serve_script.result (sym c.status_written.ensures ∙ is)));
      usage = ends_no_usage (IsTextOfSession map posts) _ _ _ (c.serve_script.result, (c.serve_script.ensures.written, c.status_written.ensures));
      source = record {
        given = c.read_script.ensures.given;
        later = c.read_script.ensures.later;
        fault = λ is. absurd (ends_no_read (IsTextOfSession map posts) _ _ _
            (c.serve_script.result, (c.serve_script.ensures.written, c.status_written.ensures)) is);
      };
      sink = record {
        taken = ends_taken (IsTextOfSession map posts) _ _ _ (c.serve_script.result, (c.serve_script.ensures.written, c.status_written.ensures));
        later = c.serve_script.ensures.later;
        fault = λ is. c.serve_script.ensures.fault (fault_written c.serve_script.result (sym c.status_written.ensures ∙ is));
      };
      why = none_named _ _ _ refl
          (ends_no_line (IsTextOfSession map posts) _ _ _ (c.serve_script.result, (c.serve_script.ensures.written, c.status_written.ensures)));
    }

pub returns-in-Ok-read_script-clause-told : goal.returns-in-Ok-read_script-clause-told
returns-in-Ok-read_script-clause-told g c =
    told_session c.in-Ok-read_script.script.map c.in-Ok-read_script.script.posts _ _ _ _ _ c.in-Ok-read_script.ensures.told
    (c.serve_script.result, (c.serve_script.ensures.written, c.status_written.ensures))
