use Rattle.std.proofs.Common.{subst}
use Rattle.class_planes.specs.inner.Runs.{LaneWords}
use Rattle.class_planes.proofs.StopWordLemmas.{IsWordUp, word_up}
use Rattle.class_planes.proofs.flag_words.word_up.Goals as goal

pub returns : goal.returns
returns c =
    let stops = c.args.stops.now in
    let word = c.filled_down.result in
    let lanes : LaneWords = record
    { mid = c.lanes.inside.mid.now; left = c.lanes.inside.left.now; right = c.lanes.inside.right.now } in
    let is : IsWordUp c.args.lanes.now stops c.args.w word =
    subst (λ (l : LaneWords). IsWordUp l stops c.args.w word) c.lanes.view_is
    (word_up lanes stops c.args.w c.moved_down-free.result c.moved_down-left.result c.moved_down-right.result
    c.opened-opened.result c.at_top.result c.word_at.result word c.filled_down.type_inv
    c.moved_down-free.ensures c.moved_down-left.ensures c.moved_down-right.ensures c.opened-opened.ensures
    c.at_top.ensures.low c.at_top.ensures.top c.word_at.ensures c.filled_down.ensures) in
    record { inner = is.inner; last = is.last }
