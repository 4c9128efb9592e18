use Rattle.std.proofs.Common.{◌++◌, length, ap}
use Rattle.std.proofs.lemmas.List.{drop-replicate}
use Rattle.class_config.proofs.names.padded.Goals as goal

pub returns : goal.returns
returns c = rw c.copy_from_slice.ensures.after (ap (λ zeros. c.args.name.now ++ zeros) (drop-replicate (length c.args.name.now) 64 0))
