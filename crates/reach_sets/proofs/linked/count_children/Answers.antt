use Rattle.std.proofs.Common.{◌+◌, ap, sym, ◌∙◌, arith}
use Rattle.reach_sets.specs.inner.Linked.{children_before}
use Rattle.reach_sets.proofs.EndLemmas.{counts_more}
use Rattle.reach_sets.proofs.LinkedLemmas.{children_le, children_root, children_child}
use Rattle.reach_sets.proofs.linked.count_children.Goals as goal
use Rattle.reach_sets.proofs.linked.count_children.Goals.{then-parents-place, else-parents-place}

pub overflow_add-children : goal.overflow_add-children
overflow_add-children c =
    let loop = c.loop-place in
    omega (arith, loop.invariant.now, children_le c.args.parents.now loop.place, c.loop-place-test.true, c.requires)

pub loop-place-preserved : goal.loop-place-preserved
loop-place-preserved c =
    let loop = c.loop-place in let parents = c.args.parents.now in
    let step = counts_more (children_before parents) loop.joined.items c.push.new.self.items loop.children c.in_ok-push.ensures.items
    (loop.invariant.now ∙ ap (children_before parents) (sym loop.invariant.each)) loop.invariant.counts in
    record {
      each = omega (arith, step.0, loop.invariant.each);
      now = elim c.if-parents-place.branch [
        | then-parents-place w ↦ omega (arith, w.children-is, loop.invariant.now, children_child parents loop.place (loop.place + 1) (omega arith) w.if-parents-place.true)
        | else-parents-place w ↦ omega (arith, w.children-is, loop.invariant.now, children_root parents loop.place (loop.place + 1) (omega arith) w.if-parents-place.false)
      ];
      counts = step.1;
    }

pub returns : goal.returns
returns c =
    let loop = c.loop-place in let parents = c.args.parents.now in
    let step = counts_more (children_before parents) loop.joined.items c.push-2.new.self.items loop.children c.in_ok-push-2.ensures.items
    (loop.invariant.now ∙ ap (children_before parents) (sym loop.invariant.each)) loop.invariant.counts in
    record {
      each = omega (arith, step.0, loop.invariant.each, c.loop-place-test.false, loop.auto.place-end);
      counts = step.1;
    }
