use Rattle.std.proofs.Common.{◌≡◌, ap, sym, subst, ◌∙◌}
use Rattle.std.specs.FinMap as map
use Rattle.obstruction_store.proofs.TouchingNumbers.{FitEach, FitEach-entries, PicksSoFar, PicksSoFar-first, PicksSoFar-touches, PicksSoFar-far, AreTouching-picked}
use Rattle.std.proofs.lemmas.Bool.{both_ways}
use Rattle.obstruction_store.proofs.stores.Store.touching.Goals as goal

pub loop-id-init : goal.loop-id-init
loop-id-init c =
    let all : c.into_iter-id-iterator.result ≡ map.entries c.args.self.now = c.into_iter-id-iterator.ensures.into_iter_gives ∙ c.entries-id-items.ensures ∙ ap map.entries c.in_ok-listed.ensures in
    record {
      fit = subst (FitEach c.args.size) (sym all) (FitEach-entries c.args.size c.args.self.now c.requires);
      so_far = subst (λ ids. PicksSoFar c.args.size c.args.rect c.args.clearance c.args.self.now ids c.into_iter-id-iterator.result) (sym c.new-ids.ensures)
          (PicksSoFar-first c.args.size c.args.rect c.args.clearance c.args.self.now c.into_iter-id-iterator.result all);
    }

pub touches-requires : goal.touches-requires
touches-requires c = (subst (FitEach c.args.size) c.in-Some.ensures.steps c.loop-id.invariant.fit).0

pub loop-id-preserved : goal.loop-id-preserved
loop-id-preserved c = record {
  fit = (subst (FitEach c.args.size) c.in-Some.ensures.steps c.loop-id.invariant.fit).1;
  so_far = PicksSoFar-far c.args.size c.args.rect c.args.clearance c.args.self.now c.loop-id.ids (c.in-Some.id, c.in-Some.obstruction.now)
      c.loop-id.id-iterator c.next.new.self c.in-Some.ensures.steps
      (λ touches. both_ways c.touches.result c.if-touches.false (c.touches.ensures.1 touches)) c.loop-id.invariant.so_far;
}

pub loop-id-preserved-in-Continue-branch-2 : goal.loop-id-preserved-in-Continue-branch-2
loop-id-preserved-in-Continue-branch-2 c = record {
  fit = (subst (FitEach c.args.size) c.in-Some.ensures.steps c.loop-id.invariant.fit).1;
  so_far = subst (λ ids. PicksSoFar c.args.size c.args.rect c.args.clearance c.args.self.now ids c.next.new.self) (sym c.in_ok-push.ensures.ok)
      (PicksSoFar-touches c.args.size c.args.rect c.args.clearance c.args.self.now c.loop-id.ids (c.in-Some.id, c.in-Some.obstruction.now)
      c.loop-id.id-iterator c.next.new.self c.in-Some.ensures.steps (c.touches.ensures.0 c.if-touches.true) c.loop-id.invariant.so_far);
}

pub returns : goal.returns
returns c = AreTouching-picked c.args.size c.args.rect c.args.clearance c.args.self.now c.loop-id.ids c.loop-id.id-iterator
    c.in-None.ensures.steps.0 c.loop-id.invariant.so_far
