use Rattle.std.proofs.Common.{ℕ, ◌+◌, List, sym, subst}
use Rattle.landmarks.specs.HalfTables.{Half, IsBegun}
use Rattle.landmarks.specs.inner.Fields.{AreGentleBefore}
use Rattle.landmarks.proofs.half_tables.HalfTable.checked_on.Goals as goal

pub returns-clause-begun : goal.returns-clause-begun
returns-clause-begun c = λ passes begun.
    let inside = c.half.inside in
    let width = inside.size.w + 2 in
    let is : Half = record {
      size = inside.size;
      class = inside.class;
      rows = inside.rows;
      checked = inside.checked;
      marks = inside.spread.marks.items;
    } in
    let was : IsBegun passes is = subst (λ (half : Half). IsBegun passes half) (sym c.half.view_is) begun in
    let before : AreGentleBefore width inside.checked c.deref.result.now =
    subst (λ (marks : List ℕ). AreGentleBefore width inside.checked marks) (sym c.deref.ensures.value) was.gentle in
    let after : AreGentleBefore width c.min-end.result c.deref.result.now =
    c.are_gentle.ensures c.if-not-are_gentle.false before in
    record {
      inside = was.inside;
      marks = was.marks;
      gentle = subst (λ (marks : List ℕ). AreGentleBefore width c.min-end.result marks) c.deref.ensures.value after;
    }
