use Rattle.std.proofs.Common.{subst}
use Rattle.nav_types.specs.declared.cells.Size.{Size}
use Rattle.nav_types.specs.Frames.{IsFrame}
use Rattle.goal_reach.specs.Targets.{framed_by}
use Rattle.turn_core.proofs.Searchable.{spans_hits}
use Rattle.turn_core.proofs.searches.TargetSearch.marked.Goals as goal

pub returns : goal.returns
returns c =
    let search = c.args.self.now in
    let rect = c.bounds-rect.result in
    let tables = c.in_ok-tables.tables.now in
    let frame = subst (λ (s : Size). IsFrame (framed_by search.target.now) s rect) c.size.ensures c.bounds-rect.ensures in
    record {
      frame = frame;
      gentle = c.in_ok-tables.ensures.gentle;
      spanned = spans_hits search.version.now search.class search.target.now rect tables c.span_of-span.result
          c.in_ok-cell.cell frame c.in_ok-cell.ensures.some c.span_of-span.ensures;
    }
