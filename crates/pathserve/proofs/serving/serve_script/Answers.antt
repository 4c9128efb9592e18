use Rattle.std.proofs.Common.{inr, refl, sym, subst}
use Rattle.std.specs.Prelude.{All}
use Rattle.std.proofs.KnownBytes.{Appends-nil}
use Rattle.posts.specs.Maps.{Map}
use Rattle.script_text.specs.Canon.{HaveLines}
use Rattle.pathserve.proofs.ServedTexts.{journal_lines, session_written}
use Rattle.pathserve.proofs.serving.serve_script.Goals as goal

pub write_session-requires : goal.write_session-requires
write_session-requires g c =
    let m = c.args.script.now.map in
    let closed = c.in-Ok.closed in
    record {
      lines =
          subst (λ (n : Map). All (HaveLines n.version) closed.journal) (sym c.in-Ok.ensures.map)
          (journal_lines m.version m.callers c.args.script.now.posts closed.journal c.requires.lines c.in-Ok.ensures.journal);
    }

pub returns-in-Ok-clause-written : goal.returns-in-Ok-clause-written
returns-in-Ok-clause-written g c =
    let closed = c.in-Ok.closed in
    session_written c.args.script.now.map closed.map c.args.script.now.posts closed.journal closed.replies _ _ c.write_session.result
    c.in-Ok.ensures.map c.in-Ok.ensures.journal c.in-Ok.ensures.replies c.write_session.ensures.written

pub returns-in-Err-clause-written : goal.returns-in-Err-clause-written
returns-in-Err-clause-written g c = inr (refl, Appends-nil _)
