use Rattle.std.proofs.Common.{arith, ◌≤◌, ◌≡◌, ◌∙◌, ◌+◌, ◌++◌, ◌∷◌, [], List, take, length, sym, subst}
use Rattle.std.proofs.lemmas.List.{take_all}
use Rattle.posts.specs.declared.posts.Post.{Post}
use Rattle.posts.specs.declared.replies.TurnReplies.{TurnReplies}
use Rattle.turn_core.specs.Turns.{IsOneThread}
use Rattle.turn_core.proofs.TurnByTurn.{HasAnswered, none_answered, answered_more}
use Rattle.turn_core.proofs.journals.one_thread.Goals as goal

pub loop-turn-init : goal.loop-turn-init
loop-turn-init c =
    subst (λ (all : List TurnReplies). HasAnswered c.args.map.now [] c.in_ok-version.version all) (sym c.new-all.ensures)
    (none_answered c.args.map.now c.in_ok-version.version c.in_ok-version.ensures.map c.in_ok-version.ensures.standing)

pub loop-turn-preserved : goal.loop-turn-preserved
loop-turn-preserved c =
    let journal = c.as_slice-turn-items.result.now in
    let made = c.in_ok-replies.field-0 in
    let pushed : c.push.new.self ≡ c.loop-turn.all ++ made.replies ∷ [] = c.in_ok-push.ensures.ok in
    subst (λ (all : List TurnReplies). HasAnswered c.args.map.now (take (c.loop-turn.turn-index + 1) journal) made.after all) (sym pushed)
    (answered_more c.args.map.now journal c.loop-turn.turn-index c.turn-item.result c.loop-turn.version made.after c.loop-turn.all made.replies
    c.loop-turn-test.true c.turn-item.is c.loop-turn.invariant c.in_ok-replies.ensures.map c.in_ok-replies.ensures.standing c.in_ok-replies.ensures.told)

pub returns : goal.returns
returns c =
    let journal = c.as_slice-turn-items.result.now in
    let past : length journal ≤ c.loop-turn.turn-index = omega arith in
    let whole : take c.loop-turn.turn-index journal ≡ c.args.journal.now =
    take_all c.loop-turn.turn-index journal past ∙ c.as_slice-turn-items.ensures in
    subst (λ (j : List (List (List Post))). IsOneThread c.args.map.now j c.loop-turn.all) whole c.loop-turn.invariant.answered
