use Rattle.std.proofs.Common.{length, ap, ◌∙◌}
use Rattle.std.proofs.lemmas.Slice.Zip.{AllZip-long}
use Rattle.pathserve_c.specs.Answered.{IsAnswered}
use Rattle.pathserve_c.proofs.finder_calls.find_all.Goals as goal

pub write_replies_to-requires : goal.write_replies_to-requires
write_replies_to-requires c =
    ap length c.as_slice.ensures ∙ AllZip-long (IsAnswered c.args.version.now) c.args.posts.now c.in-Ok.answered c.in-Ok.ensures.answered
