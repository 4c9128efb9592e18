use Rattle.nav_types.specs.declared.directions.Dir.{Dir}
use Rattle.nav_types.specs.Beside.{IsFreeBeside}
use Rattle.nav_types.proofs.DirSetLemmas.{gathered}
use Rattle.jump_scan.proofs.pruning.beside.Goals as goal

pub returns : goal.returns
returns g c =
    gathered (λ (way : Dir). IsFreeBeside (g.V.View.passes c.args.view.now c.args.class) c.args.cell way)
    c.new-none.result c.with_free-n.result c.with_free-e.result c.with_free-s.result c.with_free-w.result c.with_free-ne.result c.with_free-se.result c.with_free-sw.result c.with_free.result
    c.new-none.ensures c.with_free-n.ensures c.with_free-e.ensures c.with_free-s.ensures c.with_free-w.ensures c.with_free-ne.ensures c.with_free-se.ensures c.with_free-sw.ensures c.with_free.ensures
