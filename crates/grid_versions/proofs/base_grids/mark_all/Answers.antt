use Rattle.std.proofs.Common.{◌≡◌, ◌*◌, ◌<◌, ◌≤◌, ℕ, List, ⊎_elim, get_or, refl, sym, ap, subst, ◌∙◌, arith}
use Rattle.std.specs.Prelude.{IsTrue}
use Rattle.std.proofs.lemmas.Bool.{cases_lt}
use Rattle.std.proofs.lemmas.List.Elements.{All-contains, All-from_get_or, All-get_or, Contains-get_or}
use Rattle.nav_types.specs.declared.cells.Rect.{Rect}
use Rattle.nav_types.specs.declared.cells.Size.{Size}
use Rattle.nav_types.specs.Cells.{IsInside, IsInRect, IsRectInside}
use Rattle.nav_types.specs.Numbering.{rows}
use Rattle.lane_rows.specs.Rows.{has_class}
use Rattle.grid_versions.specs.inner.Marking.{IsMarked, IsRectMarked}
use Rattle.grid_versions.proofs.MarkLemmas.{listed_from}
use Rattle.grid_versions.proofs.base_grids.mark_all.Goals as goal

pub mark_if-requires-clause-inside : goal.mark_if-requires-clause-inside
mark_if-requires-clause-inside c =
    let none : Rect × ℕ = (record { i0 = 0; j0 = 0; i1 = 0; j1 = 0 }, 0) in
    subst (λ (s : Size). IsRectInside s (get_or c.args.base.now c.loop-entry.entry-index none).0)
    (sym c.loop-entry.invariant.extent)
    (All-get_or (λ (entry : Rect × ℕ). IsRectInside c.args.grid.now.size entry.0) c.args.base.now
    c.loop-entry.entry-index none c.loop-entry-test.true c.requires.inside)

pub loop-entry-preserved : goal.loop-entry-preserved
loop-entry-preserved c =
    let none : Rect × ℕ = (record { i0 = 0; j0 = 0; i1 = 0; j1 = 0 }, 0) in
    let base : List (Rect × ℕ) = c.args.base.now in
    let i = c.loop-entry.entry-index in
    let run = c.args.run in
    let here : Rect × ℕ = get_or base i none in
    let size = c.args.grid.now.size in
    let now = c.loop-entry.grid in
    let new = c.mark_if.new.grid in
    let extent : new.size ≡ size = c.mark_if.ensures.size ∙ c.loop-entry.invariant.extent in
    record {
      extent = extent;
      within = λ k cell inside m.
          let inside_now : IsInside now.size cell = subst (λ (s : Size). IsInside s cell) c.mark_if.ensures.size inside in
          ⊎_elim
          (λ (was : IsMarked now run k cell). c.loop-entry.invariant.within k cell inside_now was)
          (λ (of : IsTrue (has_class k here.1) × IsInRect here.0 cell).
          listed_from base here.0 here.1 k cell (Contains-get_or base i none c.loop-entry-test.true) of.0 of.1)
          (c.mark_if.ensures.within k cell inside_now m);
      kept = λ k cell inside m.
          c.mark_if.ensures.kept k cell
          (subst (λ (s : Size). IsInside s cell) (sym c.loop-entry.invariant.extent) inside)
          (c.loop-entry.invariant.kept k cell inside m);
      marked = λ p low entry is least most. ⊎_elim
          (λ (earlier : p < i). λ k cell set inside.
          let rect_inside : IsRectInside size entry.0 =
          subst (λ (e : Rect × ℕ). IsRectInside size e.0) (sym is)
          (All-get_or (λ (e : Rect × ℕ). IsRectInside size e.0) base p none (omega (arith, c.loop-entry-test.true)) c.requires.inside) in
          let column = rect_inside.last_column in let row = rect_inside.last_row in
          let east = inside.east in let north = inside.north in
          let in_map : IsInside size cell = record { column = omega arith; row = omega arith } in
          c.mark_if.ensures.kept k cell (subst (λ (s : Size). IsInside s cell) (sym c.loop-entry.invariant.extent) in_map)
          (c.loop-entry.invariant.marked p earlier entry is least most k cell set inside))
          (λ (last : i ≤ p).
          let same : entry ≡ here = is ∙ ap (λ (n : ℕ). get_or base n none) (omega arith) in
          subst (λ (e : Rect × ℕ). IsRectMarked new run e.0 e.1) (sym same)
          (c.mark_if.ensures.marked (subst (λ (e : Rect × ℕ). run ≤ rows e.0) same least)
          (subst (λ (e : Rect × ℕ). rows e.0 ≤ 2 * run) same most)))
          (cases_lt p i);
    }

pub returns-clause-marked : goal.returns-clause-marked
returns-clause-marked c = λ rect mask has.
    let none : Rect × ℕ = (record { i0 = 0; j0 = 0; i1 = 0; j1 = 0 }, 0) in
    let base : List (Rect × ℕ) = c.args.base.now in
    let run = c.args.run in
    All-contains
    (λ (e : Rect × ℕ). run ≤ rows e.0 → rows e.0 ≤ 2 * run → IsRectMarked c.loop-entry.grid run e.0 e.1) base (rect, mask)
    (All-from_get_or
    (λ (e : Rect × ℕ). run ≤ rows e.0 → rows e.0 ≤ 2 * run → IsRectMarked c.loop-entry.grid run e.0 e.1) base none
    (λ p low. c.loop-entry.invariant.marked p (omega (arith, low, c.loop-entry-test.false)) (get_or base p none) refl))
    has
