use Rattle.std.proofs.Common.{ℕ, ◌≡◌, ◌≢◌, ◌<◌, ◌+◌, ◌*◌, ◌==◌, ◌∙◌, List, ap, inl, inr, length, set, arith}
use Rattle.std.specs.Int.{bit_at}
use Rattle.std.specs.Prelude.{slice_index}
use Rattle.std.proofs.lemmas.Bool.{cases_lt}
use Rattle.std.proofs.lemmas.List.{length-replicate, length-set, get_or-set_same, get_or-set_other}
use Rattle.nav_types.specs.declared.cells.Rect.{Rect}
use Rattle.nav_types.specs.Cells.{cell_at}
use Rattle.class_planes.specs.Planes.{is_passable}
use Rattle.grid_versions.proofs.BitLemmas.{flag_bit}
use Rattle.grid_versions.proofs.chunk_bits.passable_in_rows.Goals as goal

pub loop-row-init : goal.loop-row-init
loop-row-init c = record {
  long = ap (λ (rows : List ℕ). length rows) c.new-bits.ensures ∙ length-replicate {A = ℕ} 96 0;
  set = λ row column low before side. absurd (omega arith);
}

pub loop-row-preserved : goal.loop-row-preserved
loop-row-preserved c =
    let plane = c.args.plane.now in
    let chunk = c.args.chunk in
    let rect = c.of_chunk-rect.result in
    let west : rect.i0 ≡ 96 * chunk.ci = ap (λ (r : Rect). r.i0) c.of_chunk-rect.ensures.value in
    let south : rect.j0 ≡ 96 * chunk.cj = ap (λ (r : Rect). r.j0) c.of_chunk-rect.ensures.value in
    let at = c.loop-row.row in
    let old = c.loop-row.bits in
    let bits = c.bits_from.result in
    let new = c.set_row.new.self in
    let inv = c.loop-row.invariant in
    let long = inv.long in
    let few = c.loop-row-test.true in
    let within = c.requires.within in
    let stored : new ≡ set old at bits = c.set_row.ensures in
    let other : (row : ℕ) → row ≢ at → slice_index new row ≡ slice_index old row = λ row apart.
    ap (λ (rows : List ℕ). slice_index rows row) stored ∙ get_or-set_other old at row bits 0 apart in
    let own : slice_index new at ≡ bits = ap (λ (rows : List ℕ). slice_index rows at) stored ∙ get_or-set_same old at bits 0 (omega arith) in
    let whole : (column : ℕ) → column < 96 → (bit_at bits column == 1) ≡ is_passable plane (cell_at (rect.i0 + column) (rect.j0 + at)) = λ column small.
    ap (λ b. b == 1) (c.bits_from.ensures.bits column small ∙ c.row_words.ensures.bits (rect.i0 + column))
    ∙ flag_bit (is_passable plane (cell_at (rect.i0 + column) (rect.j0 + at))) in
    record {
      long = ap (λ (rows : List ℕ). length rows) stored ∙ length-set old at bits ∙ long;
      set = λ row column low before small. elim (cases_lt row at) [
        | inl earlier ↦ ap (λ b. bit_at b column == 1) (other row (λ same. omega arith)) ∙ inv.set row column low earlier small
        | inr newest ↦
            let same : row ≡ at = omega arith in
            let there : rect.j0 + at ≡ 96 * chunk.cj + row = omega arith in
            ap (λ r. bit_at (slice_index new r) column == 1) same ∙ ap (λ b. bit_at b column == 1) own ∙ whole column small
            ∙ ap (λ i. is_passable plane (cell_at (i + column) (rect.j0 + at))) west
            ∙ ap (λ k. is_passable plane (cell_at (96 * chunk.ci + column) k)) there
      ];
    }

pub returns : goal.returns
returns c =
    let done : c.loop-row.row ≡ c.args.rows.to = omega (arith, c.loop-row-test.false, c.loop-row.auto.row-end) in
    record { set = λ row column low high side. c.loop-row.invariant.set row column low (omega arith) side }
