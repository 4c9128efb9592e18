use Rattle.std.proofs.Common.{ℕ, List, get_or, arith}
use Rattle.std.proofs.lemmas.List.{get_or_default}
use Rattle.nav_types.specs.declared.cells.Rect.{Rect}
use Rattle.class_planes.specs.inner.Lines.{RowTable}
use Rattle.class_planes.specs.inner.StopLines.{map_lines}
use Rattle.class_planes.proofs.ColumnLemmas.{columns_but_more}
use Rattle.class_planes.proofs.transposed.write_rects.Goals as goal

pub loop-rect-init : goal.loop-rect-init
loop-rect-init c m j small within out =
    c.requires.before m j small within (λ k d below inside. out k d (omega arith) below inside)

pub write_rect-requires-clause-inside : goal.write_rect-requires-clause-inside
write_rect-requires-clause-inside c =
    let none : Rect = record { i0 = 0; j0 = 0; i1 = 0; j1 = 0 } in
    c.requires.inside c.loop-rect.rect-index none c.loop-rect-test.true

pub loop-rect-preserved : goal.loop-rect-preserved
loop-rect-preserved c =
    let table : RowTable = record { size = c.args.map.now.size; rows = map_lines c.args.map.now.rows.now } in
    let none : Rect = record { i0 = 0; j0 = 0; i1 = 0; j1 = 0 } in
    let rects : List Rect = c.args.rects.now in
    let at : ℕ = c.loop-rect.rect-index in
    columns_but_more table c.args.band rects at (get_or rects at none) c.loop-rect.words c.write_rect.new.words
    (λ d. get_or_default rects at d none c.loop-rect-test.true) c.loop-rect.invariant c.write_rect.ensures.set
    c.write_rect.ensures.kept

pub returns-clause-bits : goal.returns-clause-bits
returns-clause-bits c m j small within =
    c.loop-rect.invariant m j small within (λ k d least below inside. absurd (omega (arith, least, below, c.loop-rect-test.false)))
