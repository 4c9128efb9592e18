use Rattle.std.proofs.Common.{ℕ, [], ◌∷◌, ◌++◌, List, refl, ap, ◌∙◌}
use Rattle.std.specs.Prelude.{slice_set}
use Rattle.posts.specs.declared.posts.Post.{Post}
use Rattle.posts.specs.Callers.{list_of}
use Rattle.path_service.specs.machine.States.{State}
use Rattle.path_service.specs.machine.Effects.{posted}
use Rattle.turn_model.specs.inner.Machines.{state_of}
use Rattle.turn_model.proofs.machines.Machine.post.Goals as goal

pub returns-clause-ok : goal.returns-clause-ok
returns-clause-ok c =
    let a = c.self.inside in
    let caller : ℕ = c.args.caller in
    let lists = a.posted.items in (
      refl,
      ap (λ (l : List (List Post)). record (state_of a) { posted = l })
          (c.in_ok-push_post.ensures.ok
          ∙ ap (λ (i : ℕ). slice_set lists i (list_of lists i ++ c.args.post.now ∷ [])) c.from.ensures)
          ∙ ap (λ (s : State). posted s caller c.args.post.now) c.self.view_is,
    )
