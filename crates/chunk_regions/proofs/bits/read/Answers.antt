use Rattle.std.proofs.Common.{ℕ, ◌≡◌, ◌≢◌, ◌<◌, ◌+◌, ◌-◌, ◌*◌, ◌==◌, ◌∙◌, List, ap, inl, inr, length, set, IsTrue, sym, subst, arith}
use Rattle.std.specs.Int.{bit_at}
use Rattle.std.specs.Prelude.{slice_index}
use Rattle.std.proofs.lemmas.Bool.{cases_lt}
use Rattle.std.proofs.lemmas.List.{length-replicate, get_or-replicate, length-set, get_or-set_same, get_or-set_other}
use Rattle.nav_types.specs.declared.cells.Cell.{Cell}
use Rattle.nav_types.specs.declared.cells.Rect.{Rect}
use Rattle.nav_types.specs.declared.cells.Size.{Size}
use Rattle.nav_types.specs.Cells.{cell_at, IsInside}
use Rattle.chunk_regions.proofs.BitLemmas.{pow_at_most, clear_past, clear_row}
use Rattle.chunk_regions.proofs.ChunkLemmas.{shut_past}
use Rattle.chunk_regions.proofs.bits.read.Goals as goal

pub loop-j-init : goal.loop-j-init
loop-j-init g c = record {
  long = ap (λ (rows : List ℕ). length rows) c.new-bits.ensures ∙ length-replicate {A = ℕ} 96 0;
  done = λ row column within less. absurd (omega arith);
  rest = λ row within from. ap (λ (rows : List ℕ). slice_index rows row) c.new-bits.ensures ∙ get_or-replicate 96 row 0 0 within;
}

pub set_row-requires-clause-few : goal.set_row-requires-clause-few
set_row-requires-clause-few g c =
    let rect = c.of_chunk-rect.result in
    let few = c.row_bits.ensures.few in
    let wide = c.of_chunk-rect.ensures.patch.wide in
    let most = pow_at_most (rect.i1 + 1 - rect.i0) 96 (omega arith) in
    omega arith

pub loop-j-preserved : goal.loop-j-preserved
loop-j-preserved g c =
    let passes = g.V.View.passes c.args.view.now c.args.class in
    let chunk = c.args.chunk in
    let rect = c.of_chunk-rect.result in
    let size = c.size.result in
    let j = c.loop-j.j in
    let old = c.loop-j.bits in
    let bits = c.row_bits.result in
    let here = j - rect.j0 in
    let new = c.set_row.new.self in
    let long = c.loop-j.invariant.long in
    let low = c.loop-j.auto.j in
    let below = c.loop-j-test.true in
    let high = c.of_chunk-rect.ensures.patch.high in
    let stored : new ≡ set old here bits = c.set_row.ensures in
    let other : (row : ℕ) → row ≢ here → slice_index new row ≡ slice_index old row = λ row apart.
    ap (λ (rows : List ℕ). slice_index rows row) stored ∙ get_or-set_other old here row bits 0 apart in
    let own : slice_index new here ≡ bits = ap (λ (rows : List ℕ). slice_index rows here) stored ∙ get_or-set_same old here bits 0 (omega arith) in
    let inside = λ (cell : Cell). g.met.V.View.within c.args.view.now c.args.class cell in
    let within : (cell : Cell) → IsTrue (passes cell) → IsInside size cell = λ cell passing. subst (λ (s : Size). IsInside s cell) (sym c.size.ensures) (inside cell passing) in
    let west = ap (λ (r : Rect). r.i0) c.of_chunk-rect.ensures.value in
    let east = ap (λ (r : Rect). r.i1) c.of_chunk-rect.ensures.value in
    let columns = c.of_chunk-rect.ensures.patch.columns in
    let whole : (column : ℕ) → column < 96 → (bit_at bits column == 1) ≡ passes (cell_at (rect.i0 + column) j) = λ column less.
    elim (cases_lt rect.i1 (rect.i0 + column)) [
      | inl past ↦ clear_past bits (rect.i1 + 1 - rect.i0) column c.row_bits.ensures.few (omega arith)
          ∙ sym (shut_past passes size within (cell_at (rect.i0 + column) j) (inl (omega arith)))
      | inr most ↦ c.row_bits.ensures.bits column most
    ] in
    record {
      long = ap (λ (rows : List ℕ). length rows) stored ∙ length-set old here bits ∙ long;
      done = λ row column less before. elim (cases_lt (rect.j0 + row) j) [
        | inl earlier ↦ ap (λ b. bit_at b column == 1) (other row (λ same. omega arith)) ∙ c.loop-j.invariant.done row column less earlier
        | inr newest ↦
            let same : row ≡ here = omega arith in
            let at : j ≡ rect.j0 + row = omega arith in
            ap (λ r. bit_at (slice_index new r) column == 1) same ∙ ap (λ b. bit_at b column == 1) own ∙ whole column less
            ∙ ap (λ k. passes (cell_at (rect.i0 + column) k)) at
      ];
      rest = λ row less from. other row (λ same. omega arith) ∙ c.loop-j.invariant.rest row less (omega arith);
    }

pub returns : goal.returns
returns g c =
    let passes = g.V.View.passes c.args.view.now c.args.class in
    let chunk = c.args.chunk in
    let rect = c.of_chunk-rect.result in
    let size = c.size.result in
    let past = c.loop-j-test.false in
    let end = c.loop-j.auto.j-end in
    let inside = λ (cell : Cell). g.met.V.View.within c.args.view.now c.args.class cell in
    let within : (cell : Cell) → IsTrue (passes cell) → IsInside size cell = λ cell passing. subst (λ (s : Size). IsInside s cell) (sym c.size.ensures) (inside cell passing) in
    let west = ap (λ (r : Rect). r.i0) c.of_chunk-rect.ensures.value in
    let south = ap (λ (r : Rect). r.j0) c.of_chunk-rect.ensures.value in
    let north = ap (λ (r : Rect). r.j1) c.of_chunk-rect.ensures.value in
    let rows = c.of_chunk-rect.ensures.patch.rows in
    record {
      set = λ row column in_row in_column.
          let place : passes (cell_at (rect.i0 + column) (rect.j0 + row)) ≡ passes (cell_at (96 * chunk.ci + column) (96 * chunk.cj + row)) =
          ap (λ i. passes (cell_at (i + column) (rect.j0 + row))) west ∙ ap (λ j. passes (cell_at (96 * chunk.ci + column) (j + row))) south in
          elim (cases_lt (rect.j0 + row) c.loop-j.j) [
            | inl earlier ↦ c.loop-j.invariant.done row column in_column earlier ∙ place
            | inr later ↦
                ap (λ b. bit_at b column == 1) (c.loop-j.invariant.rest row in_row later) ∙ clear_row column
                ∙ sym (shut_past passes size within (cell_at (rect.i0 + column) (rect.j0 + row)) (inr (omega arith))) ∙ place
          ];
    }
