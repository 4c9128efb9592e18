use Rattle.std.proofs.Common.{◌<◌, ◌≡◌, length, refl, arith}
use Rattle.reach_sets.proofs.NumberLemmas.{root_in_place, child_in_place}
use Rattle.reach_sets.proofs.forests.number_trees.Goals as goal
use Rattle.reach_sets.proofs.forests.number_trees.Goals.{then-parent-place, else-parent-place}

pub loop-place-preserved : goal.loop-place-preserved
loop-place-preserved c =
    let loop = c.loop-place in let parents = c.args.places.now in
    let wide : length loop.places ≡ length parents = loop.auto.places in
    let last : loop.place < length parents = c.loop-place-test.true in
    let inside : loop.place < length loop.places = omega (arith, wide, last) in
    elim c.if-parent-place.branch [
      | then-parent-place w ↦
          let turn = root_in_place parents loop.places c.if-parent-place.places loop.count c.if-parent-place.count loop.place c.requires.forest wide inside
          loop.invariant.few loop.invariant.numbered loop.invariant.left w.if-parent-place.true w.places-is w.count-is in
          record { few = turn.0; numbered = turn.1.0; left = turn.1.1 }
      | else-parent-place w ↦
          let turn = child_in_place parents loop.places c.if-parent-place.places loop.count c.if-parent-place.count loop.place _ c.requires.forest wide inside
          loop.invariant.few loop.invariant.numbered loop.invariant.left w.if-parent-place.false refl w.places-is w.count-is in
          record { few = turn.0; numbered = turn.1.0; left = turn.1.1 }
    ]
