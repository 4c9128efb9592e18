use Rattle.turn_core.proofs.WantedWalks.{walk_for}
use Rattle.turn_core.proofs.near_answers.walk_to.Goals as goal

pub returns : goal.returns
returns c =
    let made = c.made_reachable-target.ensures in
    walk_for c.args.version.now c.args.class c.args.x c.args.z c.in-Some.start c.args.goal.now
    c.made_reachable-target.result
    (record {
      known = c.requires.class;
      passes = c.in-Some.ensures.start.passable;
      sound = made.sound;
      reach = made.reached;
    })
    c.in-Some.ensures.start made.targets
