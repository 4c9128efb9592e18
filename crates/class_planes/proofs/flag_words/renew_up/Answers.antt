use Rattle.std.proofs.Common.{ℕ, set, ◌-◌, ◌+◌, arith}
use Rattle.class_planes.proofs.StopWordLemmas.{IsRenewedUp, IsWordUp, carry_up_same, more_up, none_up, settled_up}
use Rattle.class_planes.proofs.flag_words.renew_up.Goals.{After-word_up-word}
use Rattle.class_planes.proofs.flag_words.renew_up.Goals as goal

-- one word more is made anew
next : (c : After-word_up-word) → IsRenewedUp c.args.lanes.now c.args.first c.args.last (c.words.w - 1) c.args.stops.now
    (set c.words.stops (c.words.w - 1) c.word_up-word.result)
next c =
    let some = c.words-test.true in
    let within = c.words.invariant.within in
    let u : ℕ = c.words.w - 1 in
    let is : IsWordUp c.args.lanes.now c.words.stops u c.word_up-word.result = record
    { inner = c.word_up-word.ensures.inner; last = c.word_up-word.ensures.last } in
    more_up c.args.lanes.now c.args.first c.args.last c.words.w u c.word_up-word.result c.args.stops.now c.words.stops
    (omega (arith, some)) (omega (arith, some))
    (omega (arith, some, within, c.requires.last, c.requires.words, c.words.auto.stops)) is c.words.invariant.renewed

pub words-init : goal.words-init
words-init c = record {
  within = omega arith;
  renewed = none_up c.args.lanes.now c.args.first c.args.last (c.args.last + 1) c.args.stops.now (omega arith);
}

pub words-preserved : goal.words-preserved
words-preserved c =
    let within = c.words.invariant.within in
    record { within = omega (arith, within); renewed = next (goal.at.words-preserved c).After-word_up-word }

pub returns-then-settled-clause-renewed : goal.returns-then-settled-clause-renewed
returns-then-settled-clause-renewed c i low high =
    let under = c.if-w-first.true in
    (next (goal.at.returns-then-settled-clause-renewed c).After-word_up-word).near i (omega (arith, under, low)) low high

pub returns-then-settled-clause-kept : goal.returns-then-settled-clause-kept
returns-then-settled-clause-kept c i inside was =
    let some = c.words-test.true in
    let within = c.words.invariant.within in
    let u : ℕ = c.words.w - 1 in
    let word : ℕ = c.word_up-word.result in
    settled_up c.args.lanes.now c.args.first c.args.last u c.args.stops.now (set c.words.stops u word)
    (next (goal.at.returns-then-settled-clause-kept c).After-word_up-word)
    (carry_up_same c.args.stops.now c.words.stops u word
    (omega (arith, some, within, c.requires.last, c.requires.words, c.words.auto.stops))
    (c.words.invariant.renewed.kept u (omega (arith, some))) c.if-settled.true) i was

pub returns-clause-renewed : goal.returns-clause-renewed
returns-clause-renewed c i low high =
    let none = c.words-test.false in c.words.invariant.renewed.near i (omega (arith, none)) low high

pub returns-clause-kept : goal.returns-clause-kept
returns-clause-kept c i within was =
    let none = c.words-test.false in c.words.invariant.renewed.far i (omega (arith, none)) was
