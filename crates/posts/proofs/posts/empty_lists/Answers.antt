use Rattle.std.proofs.Common.{◌∙◌, ◌∷◌, ◌++◌, [], List, replicate, ap}
use Rattle.std.proofs.lemmas.List.{replicate_more}
use Rattle.posts.specs.declared.posts.Post.{Post}
use Rattle.posts.proofs.posts.empty_lists.Goals as goal

pub loop-caller-preserved : goal.loop-caller-preserved
loop-caller-preserved c =
    let nothing : List Post = [] in
    let made = c.loop-caller._caller in
    c.in_ok-push.ensures.items
    ∙ ap (λ (lists : List (List Post)). lists ++ c.new.result ∷ []) c.loop-caller.invariant
    ∙ ap (λ (list : List Post). replicate made nothing ++ list ∷ []) c.new.ensures
    ∙ replicate_more made nothing
