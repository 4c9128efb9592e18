use Rattle.std.proofs.Common.{ℕ, set, ◌+◌, arith, refl}
use Rattle.class_planes.proofs.StopWordLemmas.{IsRenewedDown, IsWordDown, carry_down_same, more_down, none_down, settled_down}
use Rattle.class_planes.proofs.flag_words.renew_down.Goals.{After-word_down-word}
use Rattle.class_planes.proofs.flag_words.renew_down.Goals as goal

-- one word more is made anew
next : (c : After-word_down-word) → IsRenewedDown c.args.lanes.now c.args.first c.args.last (c.loop-w.w + 1) c.args.stops.now
    (set c.loop-w.stops c.loop-w.w c.word_down-word.result)
next c =
    let is : IsWordDown c.args.lanes.now c.loop-w.stops c.loop-w.w c.word_down-word.result = record
    { inner = c.word_down-word.ensures.inner; first = c.word_down-word.ensures.first; none = c.word_down-word.ensures.none } in
    more_down c.args.lanes.now c.args.first c.args.last c.loop-w.w c.word_down-word.result c.args.stops.now
    c.loop-w.stops (omega (arith, c.loop-w-test.true, c.loop-w.auto.stops)) is c.loop-w.invariant

pub loop-w-init : goal.loop-w-init
loop-w-init c = none_down c.args.lanes.now c.args.first c.args.last c.args.first c.args.stops.now refl

pub loop-w-preserved : goal.loop-w-preserved
loop-w-preserved c = next (goal.at.loop-w-preserved c).After-word_down-word

pub returns-then-settled-clause-renewed : goal.returns-then-settled-clause-renewed
returns-then-settled-clause-renewed c i low high =
    let past = c.if-last-w.true in
    (next (goal.at.returns-then-settled-clause-renewed c).After-word_down-word).near i (omega (arith, past, high)) low high

pub returns-then-settled-clause-kept : goal.returns-then-settled-clause-kept
returns-then-settled-clause-kept c i inside was =
    let w : ℕ = c.loop-w.w in
    let word : ℕ = c.word_down-word.result in
    settled_down c.args.lanes.now c.args.first c.args.last w c.args.stops.now (set c.loop-w.stops w word)
    (next (goal.at.returns-then-settled-clause-kept c).After-word_down-word)
    (carry_down_same c.args.stops.now c.loop-w.stops w word (omega (arith, c.loop-w-test.true, c.loop-w.auto.stops))
    (c.loop-w.invariant.kept w (omega arith)) c.if-settled.true) i was

pub returns-clause-renewed : goal.returns-clause-renewed
returns-clause-renewed c i low high =
    c.loop-w.invariant.near i (omega (arith, high, c.requires.last, c.requires.words, c.loop-w-test.false)) low high

pub returns-clause-kept : goal.returns-clause-kept
returns-clause-kept c i within was =
    c.loop-w.invariant.far i (omega (arith, within, c.requires.words, c.loop-w-test.false)) was
