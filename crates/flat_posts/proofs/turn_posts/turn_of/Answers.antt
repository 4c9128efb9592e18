use Rattle.std.proofs.Common.{refl, ◌∙◌}
use Rattle.flat_posts.proofs.TurnLists.{turn_of-none, turn_of-posted}
use Rattle.flat_posts.proofs.turn_posts.turn_of.Goals as goal

pub loop-entry-init : goal.loop-entry-init
loop-entry-init c = c.in_ok-lists.ensures ∙ turn_of-none c.args.callers

pub loop-entry-preserved : goal.loop-entry-preserved
loop-entry-preserved c =
    turn_of-posted c.args.callers c.args.entries.now c.loop-entry.entry-index c.entry-item.result c.loop-entry.lists.items c.push_post.new.posted.items c.from.result c.entry-item.result.1
    c.loop-entry-test.true c.entry-item.is c.requires c.from.ensures refl c.loop-entry.invariant c.in_ok-push_post.ensures.ok
