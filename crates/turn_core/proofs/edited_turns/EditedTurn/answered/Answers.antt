use Rattle.std.proofs.Common.{List, refl, sym, subst}
use Rattle.posts.specs.declared.replies.Reply.{Reply}
use Rattle.posts.specs.declared.replies.TurnReplies.{TurnReplies}
use Rattle.posts.specs.Posts.{jobs}
use Rattle.turn_core.specs.Solving.{AreAnswersTo}
use Rattle.turn_core.specs.Turns.{AreTurnReplies, IsTurnTold}
use Rattle.turn_core.specs.ReadyTurns.{Ready, after_edits_of}
use Rattle.turn_core.specs.inner.ReplyLists.{AllHaveAnswers}
use Rattle.turn_core.specs.inner.EditedTurns.{ready_of}
use Rattle.turn_core.proofs.FilledReplies.{all_have_answers, filled_are}
use Rattle.turn_core.proofs.TurnByTurn.{numbers_told}
use Rattle.turn_core.proofs.edited_turns.EditedTurn.answered.Goals as goal

pub lists_filled-requires : goal.lists_filled-requires
lists_filled-requires c =
    let a = c.self.inside in
    let ready : Ready = ready_of a in
    let are = subst (λ (r : Ready). AreAnswersTo r.map (after_edits_of r) (jobs r.turn) c.args.answers) (sym c.self.view_is) c.requires in
    subst (λ (lists : List (List Reply)). AllHaveAnswers lists c.args.answers) (sym c.self.invariant.replies)
    (all_have_answers ready.map (after_edits_of ready) ready.before ready.turn c.args.answers are)

pub returns-clause-told : goal.returns-clause-told
returns-clause-told c =
    let a = c.self.inside in
    let held = c.self.invariant in
    let ready : Ready = ready_of a in
    let are = subst (λ (r : Ready). AreAnswersTo r.map (after_edits_of r) (jobs r.turn) c.args.answers) (sym c.self.view_is) c.requires in
    let told : TurnReplies = record { tallies = c.tallies.result; relabelled = a.relabelled; replies = c.lists_filled.result } in
    subst (λ (r : Ready). IsTurnTold r.map r.before r.turn told) c.self.view_is
    (record {
      replies = subst (λ (rs : List (List Reply)). AreTurnReplies ready.map (after_edits_of ready) ready.before ready.turn rs) (sym c.lists_filled.ensures)
          (filled_are ready.map ready.before ready.turn a.replies.items c.args.answers held.replies are);
      numbers = numbers_told ready.map ready.before ready.turn a.base.value a.version told
          refl refl held.map held.standing c.tallies.ensures held.relabelled;
    })
