use Rattle.std.proofs.Common.{Bool, ◌&&◌, IsTrue}
use Rattle.nav_types.specs.declared.directions.Dir.{Dir}
use Rattle.nav_types.specs.declared.directions.Dir.TheVariants.{N, E, S, W, NE, SE, SW, NW}
use Rattle.nav_types.specs.DirSets.{holds}
use Rattle.nav_types.specs.Directions.{row_part, column_part}
use Rattle.nav_types.proofs.DirSetLemmas.{gathered, adds_where, same_answer, as_true}
use Rattle.nav_types.proofs.directions.DirSet.with_parts.Goals as goal

pub returns : goal.returns
returns c = λ dir.
    let parts : Dir → Bool = λ way. holds c.args.self way && (holds c.args.self (row_part way) && holds c.args.self (column_part way)) in
    let Wanted : Dir → Type 0 = λ way. IsTrue (parts way) in
    same_answer (holds c.with_where.result dir) (parts dir) (gathered Wanted
    c.new-none.result c.with_where-n.result c.with_where-e.result c.with_where-s.result c.with_where-w.result
    c.with_where-ne.result c.with_where-se.result c.with_where-sw.result c.with_where.result c.new-none.ensures
    (adds_where Wanted N c.new-none.result c.with_where-n.result c.has_parts.result (as_true c.has_parts.result (parts N) c.has_parts.ensures) c.with_where-n.ensures)
    (adds_where Wanted E c.with_where-n.result c.with_where-e.result c.has_parts-2.result (as_true c.has_parts-2.result (parts E) c.has_parts-2.ensures) c.with_where-e.ensures)
    (adds_where Wanted S c.with_where-e.result c.with_where-s.result c.has_parts-3.result (as_true c.has_parts-3.result (parts S) c.has_parts-3.ensures) c.with_where-s.ensures)
    (adds_where Wanted W c.with_where-s.result c.with_where-w.result c.has_parts-4.result (as_true c.has_parts-4.result (parts W) c.has_parts-4.ensures) c.with_where-w.ensures)
    (adds_where Wanted NE c.with_where-w.result c.with_where-ne.result c.has_parts-5.result (as_true c.has_parts-5.result (parts NE) c.has_parts-5.ensures) c.with_where-ne.ensures)
    (adds_where Wanted SE c.with_where-ne.result c.with_where-se.result c.has_parts-6.result (as_true c.has_parts-6.result (parts SE) c.has_parts-6.ensures) c.with_where-se.ensures)
    (adds_where Wanted SW c.with_where-se.result c.with_where-sw.result c.has_parts-7.result (as_true c.has_parts-7.result (parts SW) c.has_parts-7.ensures) c.with_where-sw.ensures)
    (adds_where Wanted NW c.with_where-sw.result c.with_where.result c.has_parts-8.result (as_true c.has_parts-8.result (parts NW) c.has_parts-8.ensures) c.with_where.ensures) dir)
