use Rattle.std.proofs.Common.{ℕ, ◌≡◌, ◌<◌, ◌+◌, ◌-◌, ◌*◌, ◌==◌, ◌∙◌, Option, Some, IsSomeAnd, ap, inl, inr, sym, subst, arith}
use Rattle.std.specs.Prelude.{IfSome}
use Rattle.std.proofs.lemmas.Bool.{cases_lt}
use Rattle.nav_types.specs.declared.cells.Cell.{Cell}
use Rattle.nav_types.specs.declared.cells.Chunk.{Chunk}
use Rattle.nav_types.specs.declared.cells.Rect.{Rect}
use Rattle.nav_types.specs.declared.cells.Size.{Size}
use Rattle.nav_types.specs.Cells.{IsInRect, cell_at}
use Rattle.nav_types.specs.Rects.{IsPartOf, chunk_rect}
use Rattle.region_edges.specs.Edges.{PassesInside}
use Rattle.class_planes.specs.Planes.{PlaneCells, is_passable}
use Rattle.class_planes.proofs.PlaneLemmas.{only_inside}
use Rattle.chunk_regions.specs.Labelling.{cell_of}
use Rattle.chunk_regions.proofs.LabelLemmas.{in_rect}
use Rattle.grid_versions.proofs.BitLemmas.{flag_bit}
use Rattle.grid_versions.proofs.ChangeLemmas.{same_unless}
use Rattle.grid_versions.proofs.TallyLemmas.{differing_inside}
use Rattle.grid_versions.proofs.chunk_bits.changed_rows.Goals as goal

-- the dirty part lies in the chunk
within_here : (dirty : Option Rect) (chunk part : Rect) → IfSome dirty (IsPartOf chunk) → dirty ≡ Some part → IsPartOf chunk part
within_here dirty chunk part inside is = subst (λ (o : Option Rect). IfSome o (IsPartOf chunk)) is inside

-- a cell of the chunk outside the dirty part is as it was
outside : (before plane : PlaneCells) (chunk : Chunk) (dirty : Option Rect) → before.size ≡ plane.size
    → ((cell : Cell) → IsInRect (chunk_rect plane.size chunk) cell → ¬ IsSomeAnd dirty (λ (part : Rect). IsInRect part cell)
    → is_passable before cell ≡ is_passable plane cell) → (row column : ℕ) → row < 96 → column < 96
    → ¬ IsSomeAnd dirty (λ (part : Rect). IsInRect part (cell_of chunk row column))
    → is_passable before (cell_of chunk row column) ≡ is_passable plane (cell_of chunk row column)
outside before plane chunk dirty size same row column in_row side out =
    let cell = cell_of chunk row column in
    let was = is_passable before in
    let is = is_passable plane in
    same_unless (was cell) (is cell) (λ apart.
    let inside = differing_inside was is plane.size (subst (λ (s : Size). PassesInside was s) size (only_inside before)) (only_inside plane) cell apart in
    apart (same cell (in_rect plane.size chunk cell inside (omega arith) (omega arith)) out))

pub returns-in_default-clause-agree : goal.returns-in_default-clause-agree
returns-in_default-clause-agree c = record {
  inside = only_inside c.args.plane.now;
  agree = λ row column other in_row side.
      outside c.args.before.now c.args.plane.now c.args.chunk c.args.dirty c.requires.size c.requires.same row column in_row side
      (λ reached. subst (λ (o : Option Rect). IsSomeAnd o (λ (part : Rect). IsInRect part (cell_of c.args.chunk row column))) c.in_default.is reached);
}

pub loop-j-init : goal.loop-j-init
loop-j-init c =
    let within = within_here c.args.dirty (chunk_rect c.args.plane.now.size c.args.chunk) c.in-Some.part c.requires.part c.in-Some.is in
    let south = within.first.south in
    record {
      order = omega arith;
      behind = omega (arith, south);
      agree = λ row column earlier other in_row side.
          outside c.args.before.now c.args.plane.now c.args.chunk c.args.dirty c.requires.size c.requires.same row column in_row side
          (λ reached.
          let here = subst (λ (o : Option Rect). IsSomeAnd o (λ (part : Rect). IsInRect part (cell_of c.args.chunk row column))) c.in-Some.is reached in
          let from = here.south in
          absurd (omega (arith, from, earlier)));
    }

pub loop-j-preserved : goal.loop-j-preserved
loop-j-preserved c =
    let before = c.args.before.now in
    let plane = c.args.plane.now in
    let chunk = c.args.chunk in
    let rect = c.of_chunk-rect.result in
    let west : rect.i0 ≡ 96 * chunk.ci = ap (λ (r : Rect). r.i0) c.of_chunk-rect.ensures.value in
    let south : rect.j0 ≡ 96 * chunk.cj = ap (λ (r : Rect). r.j0) c.of_chunk-rect.ensures.value in
    let within = within_here c.args.dirty (chunk_rect c.args.plane.now.size c.args.chunk) c.in-Some.part c.requires.part c.in-Some.is in
    let first = within.first.south in
    let j = c.loop-j.j in
    let low = c.loop-j.auto.j in
    let inv = c.loop-j.invariant in
    let most = c.with_row-rows.ensures.behind in
    record {
      order = c.with_row-rows.ensures.order;
      behind = omega arith;
      agree = λ row column small other in_row side. elim (cases_lt (96 * chunk.cj + row) j) [
        | inl earlier ↦ inv.agree row column earlier (c.with_row-rows.ensures.earlier row (omega arith) other) in_row side
        | inr newest ↦
            let here : row ≡ j - rect.j0 = omega arith in
            let at : j ≡ 96 * chunk.cj + row = omega arith in
            let same = c.same_words-same.ensures (c.with_row-rows.ensures.own (elim other [ inl less ↦ inl (omega arith) | inr more ↦ inr (omega arith) ])) column side in
            let one : is_passable before (cell_at (rect.i0 + column) j) ≡ is_passable plane (cell_at (rect.i0 + column) j) =
            sym (flag_bit (is_passable before (cell_at (rect.i0 + column) j)))
            ∙ ap (λ b. b == 1) (sym (c.row_words.ensures.bits (rect.i0 + column)) ∙ same ∙ c.row_words-in-loop-j.ensures.bits (rect.i0 + column))
            ∙ flag_bit (is_passable plane (cell_at (rect.i0 + column) j)) in
            let is : cell_at (rect.i0 + column) j ≡ cell_of chunk row column =
            ap (λ i. cell_at (i + column) j) west ∙ ap (λ k. cell_at (96 * chunk.ci + column) k) at in
            ap (is_passable before) (sym is) ∙ one ∙ ap (is_passable plane) is
      ];
    }

pub returns-clause-agree : goal.returns-clause-agree
returns-clause-agree c =
    let chunk = c.args.chunk in
    let inv = c.loop-j.invariant in
    let past_end = c.loop-j-test.false in
    record {
      inside = only_inside c.args.plane.now;
      agree = λ row column other in_row side. elim (cases_lt (96 * chunk.cj + row) c.loop-j.j) [
        | inl read ↦ inv.agree row column read other in_row side
        | inr after ↦
            outside c.args.before.now c.args.plane.now c.args.chunk c.args.dirty c.requires.size c.requires.same row column in_row side
            (λ reached.
            let here = subst (λ (o : Option Rect). IsSomeAnd o (λ (part : Rect). IsInRect part (cell_of chunk row column))) c.in-Some.is reached in
            let to = here.north in
            absurd (omega (arith, to, after, past_end)))
      ];
    }

pub returns-clause-within : goal.returns-clause-within
returns-clause-within c =
    let within = within_here c.args.dirty (chunk_rect c.args.plane.now.size c.args.chunk) c.in-Some.part c.requires.part c.in-Some.is in
    let north = within.last.north in
    let behind = c.loop-j.invariant.behind in
    let past_end = c.loop-j-test.false in
    let end = c.loop-j.auto.j-end in
    omega arith

pub returns-clause-map : goal.returns-clause-map
returns-clause-map c =
    let within = within_here c.args.dirty (chunk_rect c.args.plane.now.size c.args.chunk) c.in-Some.part c.requires.part c.in-Some.is in
    let north = within.last.north in
    let behind = c.loop-j.invariant.behind in
    let past_end = c.loop-j-test.false in
    let end = c.loop-j.auto.j-end in
    let row = c.requires.inside.row in
    omega arith
