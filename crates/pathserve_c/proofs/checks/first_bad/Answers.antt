use Rattle.std.proofs.Common.{All, List, subst, arith}
use Rattle.std.proofs.lemmas.List.{take_all}
use Rattle.std.proofs.lemmas.List.Elements.{All-more}
use Rattle.flat_posts.specs.declared.posted.FlatPost.{FlatPost}
use Rattle.flat_posts.specs.Posts.{bare_post}
use Rattle.pathserve_c.specs.Checks.{IsPostOf}
use Rattle.pathserve_c.proofs.checks.first_bad.Goals as goal

pub loop-place-preserved : goal.loop-place-preserved
loop-place-preserved c =
    All-more (IsPostOf c.args.map.now) c.args.flats.now c.loop-place.place (bare_post 0 0) (omega (arith, c.loop-place-test.true)) c.loop-place.invariant
    (c.in-Ok.field-0.0, (c.in-Ok.field-0.1, c.in-Ok.ensures.post))

pub returns-clause-none : goal.returns-clause-none
returns-clause-none c =
    subst (λ (flats : List FlatPost). All (IsPostOf c.args.map.now) flats)
    (take_all c.loop-place.place c.args.flats.now (omega (arith, c.loop-place-test.false))) c.loop-place.invariant
