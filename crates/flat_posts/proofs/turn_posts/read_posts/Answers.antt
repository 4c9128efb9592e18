use Rattle.std.proofs.Common.{◌≡◌, ◌+◌, ℕ, take, sym, subst}
use Rattle.std.specs.Prelude.{⊤}
use Rattle.posts.specs.declared.posts.Post.{Post}
use Rattle.flat_posts.specs.declared.posted.FlatPost.{FlatPost}
use Rattle.flat_posts.specs.declared.turn_posts.PostsFault.TheVariants.{NotPost}
use Rattle.flat_posts.specs.Posts.{IsPost}
use Rattle.flat_posts.specs.TurnPosts.{ArePosts}
use Rattle.flat_posts.proofs.ReadLists.{zip_more, zip_none}
use Rattle.flat_posts.proofs.TurnLists.{callers_in}
use Rattle.flat_posts.proofs.turn_posts.read_posts.Goals as goal

pub returns-in-Err-clause-not_post : goal.returns-in-Err-clause-not_post
returns-in-Err-clause-not_post c = λ bad entries are.
    let map = c.args.map.now in
    zip_none (λ (flat : FlatPost) (entry : ℕ × Post). IsPost map flat entry.0 entry.1) (λ (entry : ℕ × Post). ⊤) c.args.flats.now c.loop-flat.flat-index _ c.loop-flat-test.true
    (λ entry _. c.in-Err.ensures.not_post (let same : c.in-Err.fault ≡ NotPost = cc in cc) entry) entries are (λ _ _ _. tt)

pub loop-flat-preserved : goal.loop-flat-preserved
loop-flat-preserved c =
    let map = c.args.map.now in
    let flats = c.args.flats.now in
    let i = c.loop-flat.flat-index in
    let read = c.in-Ok.ensures.read in
    subst (ArePosts map (take (i + 1) flats)) (sym read.1.1)
    (zip_more (λ (flat : FlatPost) (entry : ℕ × Post). IsPost map flat entry.0 entry.1) flats c.loop-flat.read i _ read.0 c.loop-flat-test.true c.loop-flat.invariant read.1.0)

pub returns-clause-callers : goal.returns-clause-callers
returns-clause-callers c = callers_in c.args.map.now (take c.loop-flat.flat-index c.args.flats.now) c.loop-flat.read c.loop-flat.invariant
