use Rattle.std.proofs.Common.{subst}
use Rattle.class_planes.specs.inner.Runs.{LaneWords}
use Rattle.class_planes.proofs.StopWordLemmas.{IsWordDown, word_down}
use Rattle.class_planes.proofs.flag_words.word_down.Goals as goal

pub returns : goal.returns
returns c =
    let stops = c.args.stops.now in
    let word = c.filled_up.result in
    let lanes : LaneWords = record
    { mid = c.lanes.inside.mid.now; left = c.lanes.inside.left.now; right = c.lanes.inside.right.now } in
    let is : IsWordDown c.args.lanes.now stops c.args.w word =
    subst (λ (l : LaneWords). IsWordDown l stops c.args.w word) c.lanes.view_is
    (word_down lanes stops c.args.w c.moved_up-free.result c.moved_up-left.result c.moved_up-right.result
    c.opened-opened.result c.top_before.result word c.moved_up-free.ensures.bits c.moved_up-free.ensures.first
    c.moved_up-left.ensures.bits c.moved_up-right.ensures.bits c.opened-opened.ensures c.top_before.ensures.small
    c.top_before.ensures.bit c.filled_up.ensures.lowest c.filled_up.ensures.others) in
    record { inner = is.inner; first = is.first; none = is.none }
