use Rattle.nav_types.specs.declared.directions.Dir.{Dir}
use Rattle.nav_types.specs.declared.directions.Dir.TheVariants.{N, E, S, W, NE, SE, SW, NW}
use Rattle.nav_types.specs.Beside.{IsFreeBeside}
use Rattle.nav_types.proofs.DirSetLemmas.{gathered, adds_where}
use Rattle.nav_types.proofs.views.free_beside.Goals as goal

pub returns : goal.returns
returns g c =
    let Wanted : Dir → Type 0 = λ way. IsFreeBeside (g.V.View.passes c.args.view.now c.args.class) c.args.cell way in
    gathered Wanted
    c.new-none.result c.with_where-n.result c.with_where-e.result c.with_where-s.result c.with_where-w.result
    c.with_where-ne.result c.with_where-se.result c.with_where-sw.result c.with_where.result c.new-none.ensures
    (adds_where Wanted N c.new-none.result c.with_where-n.result c.is_free_beside.result c.is_free_beside.ensures c.with_where-n.ensures)
    (adds_where Wanted E c.with_where-n.result c.with_where-e.result c.is_free_beside-2.result c.is_free_beside-2.ensures c.with_where-e.ensures)
    (adds_where Wanted S c.with_where-e.result c.with_where-s.result c.is_free_beside-3.result c.is_free_beside-3.ensures c.with_where-s.ensures)
    (adds_where Wanted W c.with_where-s.result c.with_where-w.result c.is_free_beside-4.result c.is_free_beside-4.ensures c.with_where-w.ensures)
    (adds_where Wanted NE c.with_where-w.result c.with_where-ne.result c.is_free_beside-5.result c.is_free_beside-5.ensures c.with_where-ne.ensures)
    (adds_where Wanted SE c.with_where-ne.result c.with_where-se.result c.is_free_beside-6.result c.is_free_beside-6.ensures c.with_where-se.ensures)
    (adds_where Wanted SW c.with_where-se.result c.with_where-sw.result c.is_free_beside-7.result c.is_free_beside-7.ensures c.with_where-sw.ensures)
    (adds_where Wanted NW c.with_where-sw.result c.with_where.result c.is_free_beside-8.result c.is_free_beside-8.ensures c.with_where.ensures)
