use Rattle.std.proofs.Common.{◌-◌, ◌∙◌, suc, ap, refl, sym, arith}
use Rattle.std.specs.Prelude.{slice_index}
use Rattle.chunk_regions.proofs.label_spans.root.Goals as goal

pub loop-next-preserved : goal.loop-next-preserved
loop-next-preserved c =
    let links = c.args.links.now in
    let at = c.loop-next.at in
    let kept = c.loop-next.invariant in
    let some = kept.some in
    let known = kept.known in
    let next = kept.next in
    let less = c.loop-next-test.true in
    let to = c.requires.down (at - 1) (omega arith) in
    let least = to.0 in
    record {
      some = omega arith;
      known = omega arith;
      next = refl;
      steps = suc kept.steps;
      led = ap (λ k. slice_index links (k - 1)) kept.led ∙ sym next;
    }
