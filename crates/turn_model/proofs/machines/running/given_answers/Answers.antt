use Rattle.std.proofs.Common.{◌≡◌, ℕ, ◌+◌, List, [], ◌∷◌, ◌++◌, Option, None, length, length-append, sym, ap, ◌∙◌, subst, arith, append_assoc}
use Rattle.std.specs.Prelude.{◌≤◌}
use Rattle.std.specs.Vec.Iter.{into_iter_items}
use Rattle.posts.specs.declared.replies.Answer.{Answer}
use Rattle.path_service.specs.machine.Table.{why_unanswered}
use Rattle.path_service.specs.machine.Effects.{known}
use Rattle.path_service.proofs.machine.JobAnswers.{no_gap, length_known}
use Rattle.path_service.proofs.machine.JobAnswers.{known_end}
use Rattle.turn_model.proofs.machines.running.given_answers.Goals as goal

pub unreachable-requires : goal.unreachable-requires
unreachable-requires c =
    let yielded = c.loop-answer.yielded in
    let rest = into_iter_items c.next.new.self in
    let whole : yielded ++ None ∷ rest ≡ c.args.answers.items =
    ap (λ (o : Option Answer). yielded ++ o ∷ rest) (sym c.in_default.is)
    ∙ ap (λ (l : List (Option Answer)). yielded ++ l) (sym c.in-Some.ensures.steps.0)
    ∙ c.loop-answer.invariant.items in
    no_gap yielded rest 0 (ap (why_unanswered 0) whole ∙ c.requires.given)

pub push_reserved-requires : goal.push_reserved-requires
push_reserved-requires c =
    let yielded = c.loop-answer.yielded in
    let it = into_iter_items c.loop-answer.answer-iterator in
    let whole : length yielded + length it ≡ length c.args.answers.items = sym (length-append yielded it) ∙ ap length c.loop-answer.invariant.items in
    omega (arith, whole, ap length c.in-Some.ensures.steps.0, c.loop-answer.invariant.room, ap length c.loop-answer.invariant.made, length_known yielded)

pub loop-answer-preserved : goal.loop-answer-preserved
loop-answer-preserved c =
    let yielded = c.loop-answer.yielded in
    let next = c.in-Some.answer in
    let answer = c.in-Some-answer.answer in
    let before = c.loop-answer.invariant in
    record {
      items = append_assoc yielded (next ∷ []) (into_iter_items c.next.new.self)
          ∙ ap (λ (l : List (Option Answer)). yielded ++ l) (sym c.in-Some.ensures.steps.0)
          ∙ before.items;
      made = c.push_reserved.ensures.items
          ∙ ap (λ (l : List Answer). l ++ answer ∷ []) before.made
          ∙ sym (known_end yielded answer)
          ∙ ap (λ (o : Option Answer). known (yielded ++ o ∷ [])) (sym c.in-Some-answer.is);
      room = subst (λ (n : ℕ). length c.args.answers.items ≤ n) (sym c.push_reserved.ensures.capacity) before.room;
    }
