use Rattle.std.proofs.Common.{◌≡◌, ◌++◌, take}
use Rattle.pathserve.proofs.works.post_all.Given as goal

abbrev pub invariant-loop-post : goal.invariant-loop-post
invariant-loop-post g l = record {
  id : l.caller.id ≡ l.initial.caller.id;
  posted : l.caller.posted ≡ l.initial.caller.posted ++ take l.post-index l.posts;
}
