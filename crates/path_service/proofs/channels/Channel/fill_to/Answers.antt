use Rattle.std.proofs.Common.{refl, ◌∙◌}
use Rattle.path_service.proofs.LaneSteps.{fills_some}
use Rattle.path_service.proofs.channels.Channel.fill_to.Goals as goal

pub returns : goal.returns
returns g c = (
  c.take_posts-left.ensures.0,
  fills_some c.args.self.now (record c.args.self.now { posts = c.take_posts-left.new.lane }) c.args.pending.now c.from.result c.into_items-posts.result.items c.take_posts-left.new.pending.items c.args.room c.take_posts-left.result
      c.take_posts-left.ensures.0 (c.into_items-posts.ensures ∙ c.replace.ensures.value) c.from.ensures c.take_posts-left.ensures.1 refl,
)
