use Rattle.std.proofs.Common.{◌≡◌, ℕ, inl, Option, get_or, sym, ap, subst, arith}
use Rattle.nav_types.specs.Cells.{IsInside}
use Rattle.flow_field.specs.Flows.{FieldCells, IsFar, IsFieldOf}
use Rattle.flow_field.specs.inner.Marks.{spot_of, mark_of, cells_of}
use Rattle.flow_field.proofs.Reading.{far_at, reached_of_some}
use Rattle.flow_field.proofs.Following.{next_of}
use Rattle.flow_field.proofs.fields.Field.next.Goals as goal

pub returns-in-Some : goal.returns-in-Some
returns-in-Some c = λ passes hit start field.
    let table = c.self.inside.table in
    let marks = table.marks.items in
    let cell = c.args.cell in
    let inside : IsInside table.size cell = subst (λ (f : FieldCells). IsInside f.size cell) (sym c.self.view_is) c.requires.inside in
    let own : IsFieldOf passes hit start (cells_of table.size marks) = subst (λ (f : FieldCells). IsFieldOf passes hit start f) (sym c.self.view_is) field in
    let parts = reached_of_some (mark_of table.size marks cell) c.in-Some.field-0 c.in-Some.ensures in
    let is : c.spot.result ≡ spot_of table.size cell = c.spot.ensures.value in
    let same : get_or marks c.spot.result 0 ≡ mark_of table.size marks cell = ap (λ (k : ℕ). get_or marks k 0) is in
    next_of passes hit start table.size marks cell c.spot.result c.step_from.result
    (record { table = table.sound; field = own; inside = inside; is = is; known = record { some = omega (arith, parts.0, same); known = omega (arith, parts.1, same) } })
    c.step_from.ensures.some c.step_from.ensures.none

pub returns-in-None : goal.returns-in-None
returns-in-None c = λ passes hit start field.
    let table = c.self.inside.table in
    let marks = table.marks.items in
    let cell = c.args.cell in
    let inside : IsInside table.size cell = subst (λ (f : FieldCells). IsInside f.size cell) (sym c.self.view_is) c.requires.inside in
    let own : IsFieldOf passes hit start (cells_of table.size marks) = subst (λ (f : FieldCells). IsFieldOf passes hit start f) (sym c.self.view_is) field in
    inl (subst (λ (far : Option ℕ). IsFar passes hit start cell far) (sym c.in-None.ensures) (far_at passes hit start table.size marks cell own inside))
