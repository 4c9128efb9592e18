use Rattle.std.proofs.Common.{ℕ, ◌≡◌, ◌+◌, ◌*◌, ◌<◌, ◌≤◌, Bool, true, false, IsTrue, get_or, sym, subst, arith}
use Rattle.std.proofs.lemmas.Bool.{both_ways, le-ltb}
use Rattle.std.proofs.lemmas.List.{get_or_read}
use Rattle.nav_types.specs.declared.cells.Cell.{Cell}
use Rattle.nav_types.specs.Places.{cell_of}
use Rattle.walks.proofs.Tracing.{IsNearest, nearest_none, nearest_takes, nearest_keeps, nearest_some, nearest_all}
use Rattle.walks.proofs.distances.Distances.nearest.Goals as goal
use Rattle.walks.proofs.distances.Distances.nearest.Goals.{then-cost-least, else-cost-least, then-nearer, else-nearer}

pub loop-place-init : goal.loop-place-init
loop-place-init g c = nearest_none _ _

pub loop-place-preserved : goal.loop-place-preserved
loop-place-preserved g c =
    let size = g.V.View.extent c.args.view.now in
    let costs = c.args.self.now.costs.items in
    let at = c.loop-place.place in
    let cost = c.index-cost.result.now in
    let hit : ℕ → Bool = λ k. g.A.Aim.hit c.args.aim.now size (cell_of size k) in
    let value : cost ≡ get_or costs at 0 = get_or_read costs at cost (omega (arith, c.requires.covers, c.cell_count-place-end.ensures.value, c.loop-place-test.true)) c.index-cost.ensures 0 in
    let hit_here : Cell → Bool = g.A.Aim.hit c.args.aim.now size in
    let taken : c.if-cost-least.nearer ≡ true → (cost < c.loop-place.least) × IsTrue (hit at) = λ e.
    elim c.if-cost-least.branch [
      | then-cost-least w ↦
          let same : w.cell_at_place.result ≡ cell_of size at = w.cell_at_place.ensures.value in
          let tested : c.if-cost-least.nearer ≡ hit_here w.cell_at_place.result = cc in
          let P = λ (cell : Cell). IsTrue (hit_here cell) in
          let Q = λ (test : Bool). IsTrue test in
          (w.if-cost-least.true, subst P same (subst Q tested e))
      | else-cost-least w ↦
          let no_less = le-ltb cost c.loop-place.least w.if-cost-least.false in
          let tested : c.if-cost-least.nearer ≡ false = cc in
          absurd (both_ways c.if-cost-least.nearer tested e)
    ] in
    let kept : c.if-cost-least.nearer ≡ false → IsTrue (hit at) → c.loop-place.least ≤ get_or costs at 0 = λ e target.
    elim c.if-cost-least.branch [
      | then-cost-least w ↦
          let same : w.cell_at_place.result ≡ cell_of size at = w.cell_at_place.ensures.value in
          let tested : c.if-cost-least.nearer ≡ hit_here w.cell_at_place.result = cc in
          let P = λ (cell : Cell). IsTrue (hit_here cell) in
          let Q = λ (test : Bool). IsTrue test in
          absurd (both_ways c.if-cost-least.nearer e (subst Q (sym tested) (subst P (sym same) target)))
      | else-cost-least w ↦ omega (arith, w.if-cost-least.false, value)
    ] in
    elim c.if-nearer.branch [
      | then-nearer w ↦
          let facts = taken w.if-nearer.true in
          let step = nearest_takes costs hit at c.loop-place.least c.loop-place.best cost c.loop-place.invariant facts.1 value facts.0 in
          let P = λ (least : ℕ). IsNearest costs hit (at + 1) least at in
          let Q = λ (best : ℕ). IsNearest costs hit (at + 1) c.if-nearer.least best in
          subst Q (sym w.best-is) (subst P (sym w.least-is) step)
      | else-nearer w ↦
          let step = nearest_keeps costs hit at c.loop-place.least c.loop-place.best c.loop-place.invariant (kept w.if-nearer.false) in
          let P = λ (least : ℕ). IsNearest costs hit (at + 1) least c.loop-place.best in
          let Q = λ (best : ℕ). IsNearest costs hit (at + 1) c.if-nearer.least best in
          subst Q (sym w.best-is) (subst P (sym w.least-is) step)
    ]

pub cell_at_place-requires-2 : goal.cell_at_place-requires-2
cell_at_place-requires-2 g c =
    let size = g.V.View.extent c.args.view.now in
    let costs = c.args.self.now.costs.items in
    let hit : Cell → Bool = g.A.Aim.hit c.args.aim.now size in
    let some = nearest_some size costs hit c.loop-place.place c.loop-place.least c.loop-place.best c.loop-place.invariant (omega (arith, c.loop-place-test.false, c.cell_count-place-end.ensures.value)) c.requires.some in
    let found = c.loop-place.invariant.found some in
    omega (arith, found.0, c.loop-place.auto.place-end, c.cell_count-place-end.ensures.value)

pub returns : goal.returns
returns g c =
    let size = g.V.View.extent c.args.view.now in
    let costs = c.args.self.now.costs.items in
    let hit : Cell → Bool = g.A.Aim.hit c.args.aim.now size in
    let count = c.loop-place.place in
    let whole : count ≡ size.w * size.h = omega (arith, c.loop-place-test.false, c.loop-place.auto.place-end, c.cell_count-place-end.ensures.value) in
    let some = nearest_some size costs hit count c.loop-place.least c.loop-place.best c.loop-place.invariant (omega arith) c.requires.some in
    let all = nearest_all size costs hit count c.loop-place.least c.loop-place.best c.cell_at_place-2.result c.loop-place.invariant whole some c.cell_at_place-2.ensures.value in
    record { reached = all.reached; hit = all.is_hit; nearest = all.nearest; first = all.first }
