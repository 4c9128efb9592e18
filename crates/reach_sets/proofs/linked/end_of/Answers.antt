use Rattle.std.proofs.Common.{sum, ap, arith}
use Rattle.reach_sets.specs.RegionOrder.{place}
use Rattle.reach_sets.specs.inner.EndMarks.{marked_before}
use Rattle.reach_sets.proofs.MarkLemmas.{before_below}
use Rattle.reach_sets.proofs.RowLemmas.{place_inside}
use Rattle.reach_sets.proofs.linked.end_of.Goals as goal

pub bounds-places-end : goal.bounds-places-end
bounds-places-end c =
    let regions = c.args.offsets.now in let words = c.args.marks.now in
    let low = before_below words (place regions c.args.id) (sum regions) (place_inside regions c.args.id c.requires.region) c.requires.marked in
    omega (arith, c.before-end.ensures, ap (marked_before words) c.place_of-place.ensures.place, low, c.requires.places)

pub returns-clause-inside : goal.returns-clause-inside
returns-clause-inside c =
    let regions = c.args.offsets.now in let words = c.args.marks.now in
    let low = before_below words (place regions c.args.id) (sum regions) (place_inside regions c.args.id c.requires.region) c.requires.marked in
    omega (arith, c.before-end.ensures, ap (marked_before words) c.place_of-place.ensures.place, low, c.requires.places)
