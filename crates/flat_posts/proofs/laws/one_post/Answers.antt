use Rattle.flat_posts.proofs.FlatForms.{one_post-IsPost}
use Rattle.flat_posts.proofs.laws.one_post.Goals as goal

pub returns : goal.returns
returns c = one_post-IsPost
