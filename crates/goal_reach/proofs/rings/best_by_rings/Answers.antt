use Rattle.std.proofs.Common.{◌+◌, ◌≤◌, subst, sym, ◌∙◌}
use Rattle.nav_types.specs.declared.cells.Cell.{Cell}
use Rattle.nav_types.specs.declared.cells.Rect.{Rect}
use Rattle.nav_types.specs.declared.cells.Size.{Size}
use Rattle.nav_types.specs.Cells.{IsInside, IsInRect}
use Rattle.goal_reach.specs.inner.Rings.{clipped, widened, Encloses}
use Rattle.goal_reach.proofs.Ringing.{same_rect, wider_holds, ring_adds, all_of_map, none_beyond}
use Rattle.goal_reach.proofs.rings.best_by_rings.Goals as goal
use Rattle.goal_reach.proofs.rings.best_by_rings.Goals.{then-eq-via-then-eq, then-eq-via-else-eq+then-is_below}

pub returns-then-eq : goal.returns-then-eq
returns-then-eq g c =
    let choice = c.args.choice.now in
    let rank = g.C.Choice.rank_of choice in let offered = g.C.Choice.offered choice in
    let size = c.size-size.result in let core = c.core-core.result in let ring = c.loop-ring.ring in
    let P : Size → Type 0 = λ it. (cell : Cell) → offered cell → IsInside it cell in
    let within = subst P (sym c.size-size.ensures) c.requires.within in
    elim c.then-eq.branch [
      | then-eq-via-then-eq w ↦ all_of_map rank offered size core ring c.loop-ring.best within
          (sym c.widened-inner.ensures.value ∙ same_rect c.widened-inner.result c.of_map-whole.result (sym c.eq.ensures ∙ w.if-eq.true) ∙ c.of_map-whole.ensures.value) c.loop-ring.invariant
      | then-eq-via-else-eq+then-is_below w ↦ (let least = w.least_beyond.result in
          let Q : Rect → Type 0 = λ it. (cell : Cell) → IsInside (g.C.Choice.extent choice) cell → (IsInRect (widened ring it) cell → ⊥) → least ≤ rank cell in
          none_beyond rank offered (g.C.Choice.extent choice) core ring least c.loop-ring.best c.requires.within (subst Q (sym c.core-core.ensures.same) w.least_beyond.ensures)
          (w.is_below.ensures.0 w.if-is_below.true) c.loop-ring.invariant)
    ]

pub best_on_ring-requires-clause-holds : goal.best_on_ring-requires-clause-holds
best_on_ring-requires-clause-holds g c =
    let size = c.size-size.result in let core = c.core-core.result in let ring = c.loop-ring.ring in
    let P : Rect → Type 0 = λ outer. Encloses outer c.widened-inner.result in
    let Q : Rect → Type 0 = λ it. Encloses (clipped size (widened (ring + 1) core)) it in
    subst P (sym c.widened-outer.ensures.value) (subst Q (sym c.widened-inner.ensures.value) (wider_holds size core ring))

pub loop-ring-preserved : goal.loop-ring-preserved
loop-ring-preserved g c =
    let choice = c.args.choice.now in
    let rank = g.C.Choice.rank_of choice in let offered = g.C.Choice.offered choice in
    let size = c.size-size.result in let core = c.core-core.result in let ring = c.loop-ring.ring in
    let P : Size → Type 0 = λ it. (cell : Cell) → offered cell → IsInside it cell in
    ring_adds rank offered size core c.widened-inner.result c.widened-outer.result ring c.loop-ring.best c.best_on_ring.result c.better-best.result
    (subst P (sym c.size-size.ensures) c.requires.within) c.widened-inner.ensures.value c.widened-outer.ensures.value c.loop-ring.invariant c.best_on_ring.ensures
    c.better-best.ensures.one c.better-best.ensures.first c.better-best.ensures.second
