use Rattle.std.proofs.Common.{ap, sym, ◌+◌, ◌∙◌, subst}
use Rattle.nav_types.specs.declared.cells.Size.{Size}
use Rattle.flow_field.specs.Flows.{IsFieldOf, FieldCells}
use Rattle.flow_field.specs.inner.Marks.{IsTable, cells_of}
use Rattle.flow_field.specs.inner.Spreads.{WaitsIn}
use Rattle.flow_field.proofs.Ending.{spread_out, field_of_spread, table_of_sound}
use Rattle.flow_field.proofs.making.field.Goals as goal

pub run-requires : goal.run-requires
run-requires g c =
    let size = g.M.View.extent c.args.map.now in
    (g.M.View.passes c.args.map.now c.args.class, (g.A.Aim.hit c.args.aim.now size, (c.args.start, (size, (ap (λ (s : Size). s.w + 2) (sym c.size-size.ensures), c.in_ok-find_targets.ensures)))))

pub invariant_of-of : goal.invariant_of-of
invariant_of-of g c =
    let size = g.M.View.extent c.args.map.now in
    let passes = g.M.View.passes c.args.map.now c.args.class in
    let hit = g.A.Aim.hit c.args.aim.now size in
    let marks = c.run.new.self.marks.items in
    let done = c.in_ok-run.ensures in
    let spreads = done.keeps passes hit c.args.start size (ap (λ (s : Size). s.w + 2) (sym c.size-size.ensures)) c.in_ok-find_targets.ensures in
    record { sound = subst (λ (s : Size). IsTable s marks) (sym c.size-size.ensures) (table_of_sound passes hit c.args.start size marks spreads.sound) }

pub returns-clause-field : goal.returns-clause-field
returns-clause-field g c =
    let size = g.M.View.extent c.args.map.now in
    let passes = g.M.View.passes c.args.map.now c.args.class in
    let hit = g.A.Aim.hit c.args.aim.now size in
    let marks = c.run.new.self.marks.items in
    let done = c.in_ok-run.ensures in
    let spreads = done.keeps passes hit c.args.start size (ap (λ (s : Size). s.w + 2) (sym c.size-size.ensures)) c.in_ok-find_targets.ensures in
    let spread = spread_out passes hit c.args.start size marks (WaitsIn c.run.new.self) spreads done.none in
    let field = field_of_spread passes hit c.args.start size marks spread c.requires.start c.requires.reach in
    subst (λ (f : FieldCells). IsFieldOf passes hit c.args.start f) (sym (c.of.ensures ∙ ap (λ (s : Size). cells_of s marks) c.size-size.ensures)) field
