use Rattle.std.proofs.Common.{◌≡◌, ◌+◌, take, sym, subst}
use Rattle.std.proofs.lemmas.List.Elements.{All-get_or}
use Rattle.flat_posts.specs.Posts.{bare_post}
use Rattle.flat_posts.proofs.ReadLists.{zip_more}
use Rattle.pathserve_c.specs.Answered.{AreAnswered, IsAnswered, IsRequest}
use Rattle.pathserve_c.specs.declared.statuses.PostFault.TheVariants.{BadValue}
use Rattle.pathserve_c.proofs.finders.Finder.answers.Goals as goal

pub returns-in-Err-clause-bad : goal.returns-in-Err-clause-bad
returns-in-Err-clause-bad c = λ bad each.
    c.in-Err.ensures.bad (let same : c.in-Err.fault ≡ BadValue = cc in cc)
    (All-get_or (IsRequest c.args.version.now.map) c.args.posts.now c.loop-post.post-index (bare_post 0 0) c.loop-post-test.true each)

pub loop-post-preserved : goal.loop-post-preserved
loop-post-preserved c =
    let version = c.args.version.now in
    let posts = c.args.posts.now in
    let i = c.loop-post.post-index in
    subst (AreAnswered version (take (i + 1) posts)) (sym c.in-Ok-push.ensures.ok)
    (zip_more (IsAnswered version) posts c.loop-post.replies i (bare_post 0 0) c.in-Ok.reply c.loop-post-test.true c.loop-post.invariant c.in-Ok.ensures.answered)
