use Rattle.std.proofs.Common.{◌≡◌, ◌-◌, ◌*◌, ◌/◌, ◌<◌, ◌≤◌, ℕ, List, sym, ap, subst, ◌∙◌, ⊎_elim, arith}
use Rattle.std.specs.Prelude.{All}
use Rattle.std.proofs.lemmas.Bool.{cases_lt}
use Rattle.std.proofs.lemmas.List.Elements.{All-contains}
use Rattle.nav_types.specs.declared.cells.Rect.{Rect}
use Rattle.nav_types.specs.declared.cells.Size.{Size}
use Rattle.nav_types.specs.Cells.{IsInside, IsRectInside}
use Rattle.nav_types.specs.Numbering.{rows}
use Rattle.grid_versions.specs.Passing.{is_listed}
use Rattle.grid_versions.specs.inner.Marking.{AreMarks}
use Rattle.grid_versions.proofs.MarkLemmas.{spread_to, spread_from, marks_are_bits}
use Rattle.grid_versions.proofs.base_grids.base_grid.Goals as goal

pub halve-init : goal.halve-init
halve-init c = record {
  some = c.most_rows-run.ensures.some;
  marks = record {
    extent = c.mark_all.ensures.size ∙ c.in_ok-grid.ensures.size ∙ c.size.ensures;
    within = c.mark_all.ensures.within;
    all = λ rect mask has least.
        let most = c.most_rows-run.ensures.most rect mask has in
        c.mark_all.ensures.marked rect mask has least (omega arith);
  };
}

pub mark_all-requires-in-halve-clause-within : goal.mark_all-requires-in-halve-clause-within
mark_all-requires-in-halve-clause-within c = λ k cell inside m.
    let run = c.halve.run in
    let more : 1 < run = c.halve-test.true in
    let before : IsInside c.halve.grid.size cell = subst (λ (s : Size). IsInside s cell) c.spread.ensures.size inside in
    c.halve.invariant.marks.within k cell before
    (spread_from c.halve.grid c.spread.new.grid run (run / 2) (omega arith) (omega arith) c.spread.ensures.first
    c.spread.ensures.later k cell before m)

pub halve-preserved : goal.halve-preserved
halve-preserved c =
    let size = c.args.map.now.size in
    let base : List (Rect × ℕ) = c.as_slice-base.result.now in
    let run = c.halve.run in
    let more : 1 < run = c.halve-test.true in
    let marks = c.halve.invariant.marks in
    let all_inside : All (λ (e : Rect × ℕ). IsRectInside size e.0) base =
    subst (λ (es : List (Rect × ℕ)). All (λ (e : Rect × ℕ). IsRectInside size e.0) es) (sym c.as_slice-base.ensures)
    c.base.ensures.inside in
    let marked = c.mark_all-in-halve.ensures in
    record {
      some = omega arith;
      marks = record {
        extent = marked.size ∙ c.spread.ensures.size ∙ marks.extent;
        within = marked.within;
        all = λ rect mask has least k cell set at.
            let rect_inside = All-contains (λ (e : Rect × ℕ). IsRectInside size e.0) base (rect, mask) all_inside has in
            let column = rect_inside.last_column in let row = rect_inside.last_row in
            let east = at.east in let north = at.north in
            let in_map : IsInside size cell = record { column = omega arith; row = omega arith } in
            let before : IsInside c.halve.grid.size cell =
            subst (λ (s : Size). IsInside s cell) (sym marks.extent) in_map in
            let spread : IsInside c.spread.new.grid.size cell =
            subst (λ (s : Size). IsInside s cell) (sym c.spread.ensures.size) before in
            ⊎_elim
            (λ (high : 2 * (run - run / 2) < rows rect).
            marked.kept k cell spread
            (spread_to c.halve.grid c.spread.new.grid run (run / 2) (omega arith) (omega arith) c.spread.ensures.first
            c.spread.ensures.later k cell before (marks.all rect mask has (omega arith) k cell set at)))
            (λ (low : rows rect ≤ 2 * (run - run / 2)). marked.marked rect mask has least low k cell set at)
            (cases_lt (2 * (run - run / 2)) (rows rect));
      };
    }

pub returns-clause-bits : goal.returns-clause-bits
returns-clause-bits c = λ k cell inside.
    let size = c.args.map.now.size in
    let base : List (Rect × ℕ) = c.as_slice-base.result.now in
    let some = c.halve.invariant.some in
    let one : c.halve.run ≡ 1 = omega (arith, c.halve-test.false) in
    marks_are_bits base size c.halve.grid
    (subst (λ (n : ℕ). AreMarks base size n c.halve.grid) one c.halve.invariant.marks) k cell inside
    ∙ ap (λ (es : List (Rect × ℕ)). is_listed es k cell) (c.as_slice-base.ensures ∙ c.base.ensures.base)
