use Rattle.std.proofs.Common.{◌≡◌, All, Some, ap, refl, subst, sym, ◌∙◌}
use Rattle.script_text.specs.ReadsBack.{ArePostValues, AreTurns, IsMapValue, IsWithinLimits, ReadsAs, canon_script}
use Rattle.script_text.proofs.BackScript.{script-reads}
use Rattle.match_play.specs.Posted.{PostedState, journal_of}
use Rattle.match_play.specs.inner.Kept.{HoldsTurns, LeadTo, past_of}
use Rattle.match_play.proofs.Posting.{same_journal}
use Rattle.match_play.proofs.posted.PostedMatch.script.Goals as goal

pub returns-in_ok-push_turns-in-Kept-clause-reads_back : goal.returns-in_ok-push_turns-in-Kept-clause-reads_back
returns-in_ok-push_turns-in-Kept-clause-reads_back c journal is =
    let a = c.self.inside in
    let kept = c.in-Kept.journal in
    let held : LeadTo a.version kept = subst (HoldsTurns a.version) c.in-Kept.is c.self.invariant in
    let values : All ArePostValues kept = subst (All ArePostValues) c.as_slice.ensures c.in_ok-push_turns-in-Kept.ensures.values in
    let turns : AreTurns a.version.map kept = record { lists = held.lists; lines = held.lines; values = values } in
    let map : IsMapValue a.version.map = subst IsMapValue c.map.ensures (c.in_ok-text-in-Kept.ensures.values refl) in
    let same : kept ≡ journal = same_journal kept journal
    (ap (λ e. journal_of (past_of a.version.standing e)) (sym c.in-Kept.is) ∙ (ap (λ (s : PostedState). journal_of s.past) c.self.view_is ∙ is)) in
    subst (λ (s : PostedState). IsWithinLimits (canon_script s.map journal) → ReadsAs s.map journal (canon_script s.map journal)) c.self.view_is
    (subst (λ j. IsWithinLimits (canon_script a.version.map j) → ReadsAs a.version.map j (canon_script a.version.map j)) same
    (script-reads a.version.map kept map turns))
