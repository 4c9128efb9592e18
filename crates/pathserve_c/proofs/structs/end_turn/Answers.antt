use Rattle.std.proofs.Common.{inl, inr, refl, ◌∙◌}
use Rattle.flat_posts.specs.Replies.{flat_turn}
use Rattle.pathserve_c.proofs.structs.end_turn.Goals as goal

pub returns-in-Ok : goal.returns-in-Ok
returns-in-Ok c = inl (record {
  done = refl;
  ends = c.in-Ok.ensures.ended;
  told = c.of.ensures ∙ (λ i. flat_turn (c.turns.ensures i) (c.told.ensures i));
})

pub returns-in-Err : goal.returns-in-Err
returns-in-Err c = inr (record { why = refl; same = c.in-Err.ensures.same; untold = refl })
