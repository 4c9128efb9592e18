use Rattle.std.proofs.Common.{ℕ, ◌≡◌, ◌≢◌, ◌<◌, ◌+◌, ◌-◌, ◌*◌, ◌==◌, ◌∙◌, List, ap, inl, inr, length, set, sym, arith}
use Rattle.std.specs.Int.{bit_at}
use Rattle.std.specs.Prelude.{slice_index}
use Rattle.std.proofs.lemmas.Bool.{cases_lt}
use Rattle.std.proofs.lemmas.List.{length-replicate, get_or-replicate, length-set, get_or-set_same, get_or-set_other}
use Rattle.nav_types.specs.declared.cells.Rect.{Rect}
use Rattle.nav_types.specs.declared.cells.Size.{Size}
use Rattle.nav_types.specs.Cells.{cell_at}
use Rattle.class_planes.specs.Planes.{is_passable}
use Rattle.class_planes.proofs.PlaneLemmas.{only_inside}
use Rattle.chunk_regions.proofs.BitLemmas.{clear_row}
use Rattle.chunk_regions.proofs.ChunkLemmas.{shut_past}
use Rattle.grid_versions.proofs.BitLemmas.{flag_bit}
use Rattle.grid_versions.proofs.chunk_bits.passable_cells.Goals as goal

pub loop-j-init : goal.loop-j-init
loop-j-init c =
    let south : c.of_chunk-rect.result.j0 ≡ 96 * c.args.chunk.cj = ap (λ (r : Rect). r.j0) c.of_chunk-rect.ensures.value in
    record {
      long = ap (λ (rows : List ℕ). length rows) c.new-bits.ensures ∙ length-replicate {A = ℕ} 96 0;
      set = λ row column small before. absurd (omega arith);
      rest = λ row within from. ap (λ (rows : List ℕ). slice_index rows row) c.new-bits.ensures ∙ get_or-replicate 96 row 0 0 within;
    }

pub loop-j-preserved : goal.loop-j-preserved
loop-j-preserved c =
    let plane = c.args.plane.now in
    let chunk = c.args.chunk in
    let rect = c.of_chunk-rect.result in
    let west : rect.i0 ≡ 96 * chunk.ci = ap (λ (r : Rect). r.i0) c.of_chunk-rect.ensures.value in
    let south : rect.j0 ≡ 96 * chunk.cj = ap (λ (r : Rect). r.j0) c.of_chunk-rect.ensures.value in
    let high = c.of_chunk-rect.ensures.patch.high in
    let j = c.loop-j.j in
    let old = c.loop-j.bits in
    let words = c.row_words.result.now in
    let bits = c.bits_from.result in
    let here = j - rect.j0 in
    let new = c.set_row.new.self in
    let low = c.loop-j.auto.j in
    let below = c.loop-j-test.true in
    let inv = c.loop-j.invariant in
    let long = inv.long in
    let stored : new ≡ set old here bits = c.set_row.ensures in
    let other : (row : ℕ) → row ≢ here → slice_index new row ≡ slice_index old row = λ row apart.
    ap (λ (rows : List ℕ). slice_index rows row) stored ∙ get_or-set_other old here row bits 0 apart in
    let own : slice_index new here ≡ bits = ap (λ (rows : List ℕ). slice_index rows here) stored ∙ get_or-set_same old here bits 0 (omega arith) in
    let whole : (column : ℕ) → column < 96 → (bit_at bits column == 1) ≡ is_passable plane (cell_at (rect.i0 + column) j) = λ column small.
    ap (λ b. b == 1) (c.bits_from.ensures.bits column small ∙ c.row_words.ensures.bits (rect.i0 + column))
    ∙ flag_bit (is_passable plane (cell_at (rect.i0 + column) j)) in
    record {
      long = ap (λ (rows : List ℕ). length rows) stored ∙ length-set old here bits ∙ long;
      set = λ row column small before. elim (cases_lt (96 * chunk.cj + row) j) [
        | inl earlier ↦ ap (λ b. bit_at b column == 1) (other row (λ same. omega arith)) ∙ inv.set row column small earlier
        | inr newest ↦
            let same : row ≡ here = omega arith in
            let at : j ≡ 96 * chunk.cj + row = omega arith in
            ap (λ r. bit_at (slice_index new r) column == 1) same ∙ ap (λ b. bit_at b column == 1) own ∙ whole column small
            ∙ ap (λ i. is_passable plane (cell_at (i + column) j)) west
            ∙ ap (λ k. is_passable plane (cell_at (96 * chunk.ci + column) k)) at
      ];
      rest = λ row less from. other row (λ same. omega arith) ∙ inv.rest row less (omega arith);
    }

pub returns : goal.returns
returns c =
    let plane = c.args.plane.now in
    let chunk = c.args.chunk in
    let rect = c.of_chunk-rect.result in
    let inv = c.loop-j.invariant in
    let past_end = c.loop-j-test.false in
    let end = c.loop-j.auto.j-end in
    let upright = c.of_chunk-rect.ensures.patch.rows in
    let north = ap (λ (r : Rect). r.j1) c.of_chunk-rect.ensures.value in
    let high = ap (λ (s : Size). s.h) c.size.ensures in
    record {
      set = λ row column in_row in_column. elim (cases_lt (96 * chunk.cj + row) c.loop-j.j) [
        | inl read ↦ inv.set row column in_column read
        | inr after ↦
            let cell = cell_at (96 * chunk.ci + column) (96 * chunk.cj + row) in
            ap (λ b. bit_at b column == 1) (inv.rest row in_row after) ∙ clear_row column
            ∙ sym (shut_past (is_passable plane) plane.size (only_inside plane) cell (inr (omega arith)))
      ];
    }
