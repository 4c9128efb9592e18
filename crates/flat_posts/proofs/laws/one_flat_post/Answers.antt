use Rattle.flat_posts.proofs.ClassNumbers.{one_form-IsPost}
use Rattle.flat_posts.proofs.laws.one_flat_post.Goals as goal

pub returns : goal.returns
returns c = one_form-IsPost
