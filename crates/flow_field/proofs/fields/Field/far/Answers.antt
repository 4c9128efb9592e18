use Rattle.std.proofs.Common.{◌≡◌, ℕ, Option, Some, None, sym, ap, ◌∙◌, subst}
use Rattle.nav_types.specs.Cells.{IsInside}
use Rattle.flow_field.specs.Flows.{FieldCells, IsFar, far_in}
use Rattle.flow_field.proofs.Reading.{far_in_is}
use Rattle.flow_field.proofs.fields.Field.far.Goals as goal

pub returns-in-Some-clause-value : goal.returns-in-Some-clause-value
returns-in-Some-clause-value c =
    let table = c.self.inside.table in
    let inside : IsInside table.size c.args.cell = subst (λ (f : FieldCells). IsInside f.size c.args.cell) (sym c.self.view_is) c.requires.inside in
    c.in-Some.ensures ∙ (sym (far_in_is table.size table.marks.items c.args.cell inside) ∙ ap (λ (f : FieldCells). far_in f c.args.cell) c.self.view_is)

pub returns-in-Some-clause-far : goal.returns-in-Some-clause-far
returns-in-Some-clause-far c = λ passes hit start field.
    let table = c.self.inside.table in
    let inside : IsInside table.size c.args.cell = subst (λ (f : FieldCells). IsInside f.size c.args.cell) (sym c.self.view_is) c.requires.inside in
    let is : Some c.in-Some.distance ≡ far_in c.args.self.now c.args.cell =
    c.in-Some.ensures ∙ (sym (far_in_is table.size table.marks.items c.args.cell inside) ∙ ap (λ (f : FieldCells). far_in f c.args.cell) c.self.view_is) in
    subst (λ (far : Option ℕ). IsFar passes hit start c.args.cell far) (sym is) (field.fars c.args.cell c.requires.inside)

pub returns-in-None-clause-value : goal.returns-in-None-clause-value
returns-in-None-clause-value c =
    let table = c.self.inside.table in
    let inside : IsInside table.size c.args.cell = subst (λ (f : FieldCells). IsInside f.size c.args.cell) (sym c.self.view_is) c.requires.inside in
    c.in-None.ensures ∙ (sym (far_in_is table.size table.marks.items c.args.cell inside) ∙ ap (λ (f : FieldCells). far_in f c.args.cell) c.self.view_is)

pub returns-in-None-clause-far : goal.returns-in-None-clause-far
returns-in-None-clause-far c = λ passes hit start field.
    let table = c.self.inside.table in
    let inside : IsInside table.size c.args.cell = subst (λ (f : FieldCells). IsInside f.size c.args.cell) (sym c.self.view_is) c.requires.inside in
    let none : Option ℕ = None in
    let is : none ≡ far_in c.args.self.now c.args.cell =
    c.in-None.ensures ∙ (sym (far_in_is table.size table.marks.items c.args.cell inside) ∙ ap (λ (f : FieldCells). far_in f c.args.cell) c.self.view_is) in
    subst (λ (far : Option ℕ). IsFar passes hit start c.args.cell far) (sym is) (field.fars c.args.cell c.requires.inside)
