use Rattle.std.proofs.Common.{◌<◌, ◌-◌, List, length, get_or, sym, subst, ◌∙◌, arith}
use Rattle.std.proofs.lemmas.Option.{slice_get-get_or}
use Rattle.open_heap.specs.declared.entries.Entry.{Entry}
use Rattle.open_heap.proofs.Chains.{blank, IsGathering, gathering_goes_on, gathering_ends}
use Rattle.open_heap.proofs.buckets.gather.Goals as goal

pub bounds-later-after : goal.bounds-later-after
bounds-later-after c =
    let chain = c.requires.chain in
    let within = (c.walk.invariant.going chain.0 chain.1.0 chain.1.1).within in
    let more = c.walk-test.true in
    omega (arith, within, more)

pub walk-smaller : goal.walk-smaller
walk-smaller c =
    let chain = c.requires.chain in
    let later = c.args.later.now in
    let within = (c.walk.invariant.going chain.0 chain.1.0 chain.1.1).within in
    let more = c.walk-test.true in
    let number = c.walk.after - 1 in
    let inside : number < length later = omega (arith, within, more) in
    let next = (chain.1.1.links number (get_or later number blank) (slice_get-get_or later number blank inside)).within in
    omega (arith, next, more)

pub walk-preserved : goal.walk-preserved
walk-preserved c =
    let chain = c.requires.chain in
    let later = c.args.later.now in
    let within = (c.walk.invariant.going chain.0 chain.1.0 chain.1.1).within in
    let more = c.walk-test.true in
    let number = c.walk.after - 1 in
    let inside : number < length later = omega (arith, within, more) in
    let waiting = get_or later number blank in
    let known = slice_get-get_or later number blank inside in
    let next = (chain.1.1.links number waiting known).within in
    let len = c.push_reserved.ensures.len in
    let capacity = c.push_reserved.ensures.capacity in
    let room = c.walk.invariant.room in
    record {
      going = λ start bucket is.
          subst (λ (entries : List Entry). IsGathering start later bucket c.args.here.now.items entries waiting.next)
          (sym c.push_reserved.ensures.items)
          (gathering_goes_on start later bucket c.args.end c.args.here.now.items c.walk.here.items c.walk.after number waiting is
          (c.walk.invariant.going start bucket is) (omega (arith, more)) known);
      room = omega (arith, next, more, len, capacity, room);
      capacity = capacity ∙ c.walk.invariant.capacity;
    }

pub returns-clause-gathered : goal.returns-clause-gathered
returns-clause-gathered c = λ start bucket is.
    let done = c.walk-test.false in
    gathering_ends start c.args.later.now bucket c.args.here.now.items c.walk.here.items c.walk.after (omega (arith, done))
    (c.walk.invariant.going start bucket is)
