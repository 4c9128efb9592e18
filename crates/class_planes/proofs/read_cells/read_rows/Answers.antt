use Rattle.std.proofs.Common.{ℕ, ◌≡◌, ◌<◌, ◌≤◌, ◌+◌, ◌-◌, ◌*◌, ◌++◌, List, length, length-append, take, drop, ap, ◌∙◌, arith}
use Rattle.std.proofs.lemmas.List.{length-drop, length-take-le}
use Rattle.nav_types.specs.declared.cells.Rect.{Rect}
use Rattle.nav_types.specs.Cells.{cell_at}
use Rattle.nav_types.specs.Rows.{bit_of}
use Rattle.class_planes.specs.inner.Reading.{width_of}
use Rattle.class_planes.proofs.LineLemmas.{part_long}
use Rattle.class_planes.proofs.ReadLemmas.{rows_more, row_within}
use Rattle.class_planes.proofs.read_cells.read_rows.Goals as goal

pub loop-j-preserved : goal.loop-j-preserved
loop-j-preserved g c =
    let view = c.args.view.now in
    let passes = g.V.View.passes view in
    let rect : Rect = c.args.rect in
    let wide : ℕ = c.from-width.result + 1 in
    let j : ℕ = c.loop-j.j in
    let k : ℕ = j - rect.j0 in
    let rows : ℕ = rect.j1 - rect.j0 + 1 in
    let start : ℕ = c.from.result * wide in
    let end : ℕ = start + wide in
    let old : List ℕ = c.loop-j.numbers in
    let new : List ℕ = c.read_row.new.row in
    let low : rect.j0 ≤ j = c.loop-j.auto.j in
    let high : j < rect.j1 + 1 = omega (arith, c.loop-j-test.true) in
    let below : k < rows = omega (arith, low, high) in
    let same : wide ≡ width_of rect = ap (λ n. n + 1) c.from-width.ensures in
    let at : start ≡ k * width_of rect = ap (λ n. n * wide) c.from.ensures ∙ ap (λ n. k * n) same in
    let long : length old ≡ rows * width_of rect = c.loop-j.invariant.long ∙ c.requires.whole in
    let fits : k * width_of rect + width_of rect ≤ length old = row_within (length old) k rows (width_of rect) long below in
    let to : end ≤ length old = omega (arith, at, same, fits) in
    let part : length new ≡ wide = c.read_row.ensures.stays ∙ part_long old start end wide (omega arith) to in
    let rest : List ℕ = drop (end - start) (drop start old) in
    let there : j ≡ rect.j0 + k = omega (arith, low) in
    record {
      long = length-append (take start old) (new ++ rest)
          ∙ omega (arith, length-append new rest, length-take-le start old (omega (arith, to)), length-drop (end - start) (drop start old), length-drop start old, part, to)
          ∙ c.loop-j.invariant.long;
      each = λ m less. rows_more (g.V.View.class_count view) passes rect k start rows old new rest at long below (part ∙ same)
          c.loop-j.invariant.each
          (λ class column known few within.
          c.read_row.ensures.bits class column known few within
          ∙ ap (λ n. bit_of (passes class (cell_at (rect.i0 + column) n))) there)
          m (omega (arith, less, low));
    }
