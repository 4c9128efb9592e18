use Rattle.std.proofs.Common.{take}
use Rattle.pathserve_c.specs.Answered.{AreAnswered}
use Rattle.pathserve_c.proofs.finders.Finder.answers.Given as goal

abbrev pub invariant-loop-post : goal.invariant-loop-post
invariant-loop-post l = AreAnswered l.version (take l.post-index l.posts) l.replies
