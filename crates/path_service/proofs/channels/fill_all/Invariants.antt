use Rattle.std.proofs.Common.{List}
use Rattle.posts.specs.declared.posts.Post.{Post}
use Rattle.path_service.proofs.LaneSteps.{FilledFirst}
use Rattle.path_service.proofs.channels.fill_all.Given as goal

abbrev pub invariant-loop-caller : goal.invariant-loop-caller
invariant-loop-caller g l = (got : List (List Post)) × FilledFirst l.fn.channels.items l.channels.items l.fn.all_pending.items l.all_pending.items l.room l.caller l.left got
