use Rattle.pathserve.proofs.Replaying.{item_written}
use Rattle.pathserve.proofs.replay.write_item.Goals as goal

pub returns-in-Ok-clause-written : goal.returns-in-Ok-clause-written
returns-in-Ok-clause-written g c =
    let wrote = rw c.as_slice.ensures at c.write_all.ensures.written in
    item_written c.args.report _ _ _ _ _ _ _ c.write_all.result c.in-Ok.ensures.told c.new-text.ensures wrote
