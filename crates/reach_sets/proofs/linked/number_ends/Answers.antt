use Rattle.std.proofs.Common.{◌≡◌, ◌+◌, ◌-◌, ◌<◌, ◌≤◌, ℕ, ap, sym, length, get_or, ◌∙◌, arith, Vec, Global}
use Rattle.std.proofs.lemmas.List.{get_or_read}
use Rattle.reach_sets.specs.inner.Linked.{children_before}
use Rattle.reach_sets.proofs.EndLemmas.{areas_more}
use Rattle.reach_sets.proofs.LinkedLemmas.{children_le}
use Rattle.reach_sets.proofs.linked.number_ends.Goals as goal
use Rattle.reach_sets.proofs.linked.number_ends.Goals.{then-parent-place+in_ok-push, else-parent-place+in_ok-push-2}

pub overflow_sub-places : goal.overflow_sub-places
overflow_sub-places c =
    let loop = c.loop-place in
    let inside : loop.place < length c.args.places.now = omega (arith, c.requires.each, c.loop-place-test.true) in
    omega (arith, c.requires.joined.counts loop.place (omega (arith, c.requires.joined.each, c.loop-place-test.true)), children_le c.args.parents.now loop.place, c.requires.above loop.place inside)

pub loop-place-preserved : goal.loop-place-preserved
loop-place-preserved c =
    let loop = c.loop-place in let parents = c.args.parents.now in let places = c.args.places.now in
    let here = loop.place in let areas = loop.areas.items in
    let long = loop.invariant.each in
    let low : here < length parents = c.loop-place-test.true in
    let within : length areas < length parents = omega (arith, long, low) in
    let inside : here < length places = omega (arith, c.requires.each, low) in
    let count : get_or c.args.joined.now here 0 ≡ children_before parents here = c.requires.joined.counts here (omega (arith, c.requires.joined.each, low)) in
    let few : get_or c.args.joined.now here 0 ≤ get_or places here 0 = omega (arith, count, children_le parents here, c.requires.above here inside) in
    let at_parent = ap (λ k. get_or parents k 0) long in
    elim c.if-parent-place.branch [
      | then-parent-place+in_ok-push w ↦
          let step = areas_more places parents areas c.if-parent-place.areas.items (get_or places here 0 - get_or c.args.joined.now here 0 + 1) c.requires.forest within
          (ap (λ (v : Vec ℕ Global). v.items) w.areas-is ∙ w.in_ok-push.ensures.items) loop.invariant.so_far
          (λ own. omega (arith, few, count, ap (children_before parents) long, ap (λ k. get_or places k 0) long))
          (λ apart. absurd (apart (at_parent ∙ w.if-parent-place.true ∙ sym long))) in
          record { each = omega (arith, step.0, long); so_far = step.1 }
      | else-parent-place+in_ok-push-2 w ↦
          let up = get_or parents here 0 in
          let upper : up < length areas = let h = c.requires.forest here low in omega (arith, h, w.if-parent-place.false, long) in
          let read = get_or_read areas up w.index.result.now upper w.index.ensures 0 in
          let step = areas_more places parents areas c.if-parent-place.areas.items w.index.result.now c.requires.forest within
          (ap (λ (v : Vec ℕ Global). v.items) w.areas-is ∙ w.in_ok-push-2.ensures.items) loop.invariant.so_far
          (λ own. absurd (w.if-parent-place.false (sym at_parent ∙ own ∙ long)))
          (λ apart. read ∙ ap (λ k. get_or areas k 0) (sym at_parent)) in
          record { each = omega (arith, step.0, long); so_far = step.1 }
    ]

pub returns : goal.returns
returns c =
    let loop = c.loop-place in
    record {
      each = omega (arith, loop.invariant.each, c.loop-place-test.false, loop.auto.place-end);
      root = loop.invariant.so_far.root;
      child = loop.invariant.so_far.child;
    }
