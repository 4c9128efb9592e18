use Rattle.class_planes.specs.inner.Runs.{open_down}
use Rattle.class_planes.proofs.WordLemmas.{last_here, none_before}
use Rattle.class_planes.proofs.OpeningLemmas.{last_steps, last_far, none_under_far}
use Rattle.class_planes.proofs.forced_places.first_down.Goals as goal

pub returns-then-before-ne0-clause-some : goal.returns-then-before-ne0-clause-some
returns-then-before-ne0-clause-some c =
    let bit = open_down c.args.left.now c.args.right.now in
    last_steps bit c.args.from c.highest.result
    (last_here bit c.args.from c.highest.result c.first_forced_down.result c.bits_before-before.result
    c.first_forced_down.ensures c.bits_before-before.ensures.kept c.bits_before-before.ensures.none
    c.highest.ensures.set c.highest.ensures.none)

pub returns-clause-some : goal.returns-clause-some
returns-clause-some c =
    let bit = open_down c.args.left.now c.args.right.now in
    last_far bit c.args.from c.in-Some.place c.in-Some.ensures.some
    (none_before bit c.args.from c.first_forced_down.result c.bits_before-before.result
    c.first_forced_down.ensures c.bits_before-before.ensures.kept c.if-before-ne0.false)

pub returns-in_default-clause-none : goal.returns-in_default-clause-none
returns-in_default-clause-none c =
    let bit = open_down c.args.left.now c.args.right.now in
    none_under_far bit c.args.from c.in_default.ensures.none
    (none_before bit c.args.from c.first_forced_down.result c.bits_before-before.result
    c.first_forced_down.ensures c.bits_before-before.ensures.kept c.if-before-ne0.false)
