use Rattle.std.proofs.Common.{◌≡◌, ◌+◌, ◌^◌, ◌<◌, subst, arith, rules}
use Rattle.class_planes.specs.inner.Runs.{IsNext, open_up}
use Rattle.class_planes.proofs.WordLemmas.{next_here, none_here}
use Rattle.class_planes.proofs.OpeningLemmas.{next_far, none_far}
use Rattle.class_planes.proofs.forced_places.first_up.Goals as goal

pub returns-then-after-ne0-clause-some : goal.returns-then-after-ne0-clause-some
returns-then-after-ne0-clause-some c =
    let bit = open_up c.args.left.now c.args.right.now in
    let fits : c.first_forced_up.result < 2 ^ 64 = Prim.search rules in
    let there : c.args.from + 1 + c.lowest.result ≡ c.args.from + (1 + c.lowest.result) = omega arith in
    subst (IsNext bit c.args.from) there
    (next_here bit c.args.from c.lowest.result c.first_forced_up.result c.bits_after-after.result fits
    c.first_forced_up.ensures c.bits_after-after.ensures c.lowest.ensures.set c.lowest.ensures.none)

pub returns-clause-some : goal.returns-clause-some
returns-clause-some c =
    let bit = open_up c.args.left.now c.args.right.now in
    next_far bit c.args.from c.in-Some.place c.in-Some.ensures.some
    (none_here bit c.args.from c.first_forced_up.result c.bits_after-after.result c.first_forced_up.ensures
    c.bits_after-after.ensures c.if-after-ne0.false)

pub returns-in_default-clause-none : goal.returns-in_default-clause-none
returns-in_default-clause-none c =
    let bit = open_up c.args.left.now c.args.right.now in
    none_far bit c.args.from c.in_default.ensures.none
    (none_here bit c.args.from c.first_forced_up.result c.bits_after-after.result c.first_forced_up.ensures
    c.bits_after-after.ensures c.if-after-ne0.false)
