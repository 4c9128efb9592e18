use Rattle.std.proofs.Common.{ℕ, ◌≡◌, ◌+◌, ◌-◌, ◌*◌, ◌==◌, ◌∙◌, ap, inl, inr, sym, subst, arith}
use Rattle.std.specs.Prelude.{IsTrue}
use Rattle.std.proofs.lemmas.Bool.{cases_lt}
use Rattle.nav_types.specs.declared.cells.Cell.{Cell}
use Rattle.nav_types.specs.declared.cells.Rect.{Rect}
use Rattle.nav_types.specs.Cells.{cell_at}
use Rattle.nav_types.proofs.CellOrder.{same_cell}
use Rattle.lane_rows.specs.Rows.{one_if}
use Rattle.class_planes.specs.Planes.{is_passable}
use Rattle.grid_versions.proofs.BitLemmas.{flag_bit}
use Rattle.grid_versions.proofs.chunk_bits.still_pass.Goals as goal

pub loop-j-init : goal.loop-j-init
loop-j-init c = λ cell inside early here_passes. absurd (let south = inside.south in omega arith)

pub loop-j-preserved : goal.loop-j-preserved
loop-j-preserved c = λ cell inside early here_passes. elim (cases_lt cell.j c.loop-j.j) [
  | inl earlier ↦ c.loop-j.invariant cell inside earlier here_passes
  | inr newest ↦
      let before = is_passable c.args.before.now in
      let plane = is_passable c.args.plane.now in
      let j : ℕ = c.loop-j.j in
      let rect = c.of_chunk-rect.result in
      let west : rect.i0 ≡ 96 * c.args.chunk.ci = ap (λ (r : Rect). r.i0) c.of_chunk-rect.ensures.value in
      let first = c.requires.part.first.west in
      let last = c.requires.part.last.east in
      let a = inside.west in
      let b = inside.east in
      let k : ℕ = cell.i - rect.i0 in
      let is : cell ≡ cell_at (rect.i0 + k) j = same_cell cell (cell_at (rect.i0 + k) j) (omega arith) (omega arith) in
      let was : IsTrue (before (cell_at (rect.i0 + k) j)) = subst (λ (one : Cell). IsTrue (before one)) is here_passes in
      let set = c.holds_words.ensures c.if-not-holds_words.false k (omega arith)
      (c.row_words-in-loop-j.ensures.bits (rect.i0 + k) ∙ ap one_if was) in
      let now : IsTrue (plane (cell_at (rect.i0 + k) j)) = sym (flag_bit (plane (cell_at (rect.i0 + k) j)))
      ∙ ap (λ n. n == 1) (sym (c.row_words.ensures.bits (rect.i0 + k)) ∙ set) in
      subst (λ (one : Cell). IsTrue (plane one)) (sym is) now
]

pub returns : goal.returns
returns c = λ _ cell inside here_passes. c.loop-j.invariant cell inside (let north = inside.north in omega (arith, c.loop-j-test.false)) here_passes
