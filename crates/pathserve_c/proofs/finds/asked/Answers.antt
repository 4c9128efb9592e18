use Rattle.std.proofs.Common.{subst, sym}
use Rattle.posts.specs.declared.posts.Post.TheVariants.{Ask}
use Rattle.posts.specs.Maps.{Map}
use Rattle.flat_posts.specs.Posts.{IsPost}
use Rattle.pathserve_c.proofs.finds.asked.Goals as goal

pub returns-in-Err-clause-none : goal.returns-in-Err-clause-none
returns-in-Err-clause-none c = λ none caller request is.
    c.in-Err.ensures.none caller (Ask request)
    (subst (λ (map : Map). IsPost map c.args.post.now caller (Ask request)) (sym c.map.ensures) is)
