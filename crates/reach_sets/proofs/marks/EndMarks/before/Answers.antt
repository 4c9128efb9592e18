use Rattle.std.proofs.Common.{arith}
use Rattle.reach_sets.proofs.MarkLemmas.{before_le, before_read}
use Rattle.reach_sets.proofs.marks.EndMarks.before.Goals as goal

pub overflow_add-result : goal.overflow_add-result
overflow_add-result c =
    let k = c.args.place in
    let is = before_read c.self.inside.words.items c.self.inside.before.items c.args.self.now k c.index.result.now c.index-2.result.now c.self.invariant c.self.view_is c.requires c.index.ensures c.index-2.ensures in
    omega (arith, is, before_le c.args.self.now k, c.ranges.place.fits)

pub returns : goal.returns
returns c =
    before_read c.self.inside.words.items c.self.inside.before.items c.args.self.now c.args.place c.index.result.now c.index-2.result.now c.self.invariant c.self.view_is c.requires c.index.ensures c.index-2.ensures
