use Rattle.std.proofs.Common.{◌≡◌, ◌-◌, ◌∙◌, ap, sym, subst, arith}
use Rattle.std.specs.Prelude.{slice_index}
use Rattle.std.proofs.lemmas.Grind.{get_or_default_zero}
use Rattle.std.proofs.lemmas.Option.{slice_get_within}
use Rattle.nav_types.specs.Cells.{IsInRect}
use Rattle.nav_types.specs.Numbering.{number_of}
use Rattle.chunk_regions.specs.Labelling.{Labelling}
use Rattle.chunk_regions.proofs.SpanLemmas.{region_at-held, region_at-none}
use Rattle.chunk_regions.proofs.ChunkLemmas.{number_of-numbered_by}
use Rattle.chunk_regions.proofs.labels.Labels.at.Goals as goal

pub overflow_sub-column : goal.overflow_sub-column
overflow_sub-column c =
    let inside = subst (λ (l : Labelling). IsInRect l.cells.rect c.args.cell) (sym c.self.view_is) c.requires in
    inside.west

pub overflow_cast-column : goal.overflow_cast-column
overflow_cast-column c =
    let inside = subst (λ (l : Labelling). IsInRect l.cells.rect c.args.cell) (sym c.self.view_is) c.requires in
    let east = inside.east in
    let wide = c.self.invariant.0.wide in
    omega arith

pub overflow_sub-cell : goal.overflow_sub-cell
overflow_sub-cell c =
    let inside = subst (λ (l : Labelling). IsInRect l.cells.rect c.args.cell) (sym c.self.view_is) c.requires in
    inside.south

pub holding-requires : goal.holding-requires
holding-requires c =
    let inside = subst (λ (l : Labelling). IsInRect l.cells.rect c.args.cell) (sym c.self.view_is) c.requires in
    let north = inside.north in
    let high = c.self.invariant.0.high in
    omega arith

pub index-requires : goal.index-requires
index-requires c =
    let held = c.in-Some.ensures.held in
    let within = slice_get_within c.self.inside.spans.spans c.in-Some.at held.span held.found in
    let same_length = c.self.invariant.1 in
    omega arith

pub returns-in-Some : goal.returns-in-Some
returns-in-Some c =
    let runs = c.self.inside.spans in
    let regions = c.self.inside.regions.items in
    let rect = c.self.inside.rect in
    let cell = c.args.cell in
    let at = c.in-Some.at in
    let held = c.in-Some.ensures.held in
    let inside = subst (λ (l : Labelling). IsInRect l.cells.rect cell) (sym c.self.view_is) c.requires in
    let same_length = c.self.invariant.1 in
    let within = slice_get_within runs.spans at held.span held.found in
    let read : c.index.result.now ≡ slice_index regions at = c.index.ensures ∙ get_or_default_zero regions at c.index.result.now (omega arith) in
    read
    ∙ sym (ap (λ (l : Labelling). number_of l.cells cell) (sym c.self.view_is) ∙ number_of-numbered_by runs regions rect cell inside
    ∙ region_at-held runs regions (cell.j - rect.j0) at (cell.i - rect.i0) c.in-Some.ensures.are held)

pub returns-in-None : goal.returns-in-None
returns-in-None c =
    let runs = c.self.inside.spans in
    let regions = c.self.inside.regions.items in
    let rect = c.self.inside.rect in
    let cell = c.args.cell in
    let inside = subst (λ (l : Labelling). IsInRect l.cells.rect cell) (sym c.self.view_is) c.requires in
    let north = inside.north in
    let high = c.self.invariant.0.high in
    sym (ap (λ (l : Labelling). number_of l.cells cell) (sym c.self.view_is) ∙ number_of-numbered_by runs regions rect cell inside
    ∙ region_at-none runs regions (cell.j - rect.j0) (cell.i - rect.i0) (omega arith) c.in-None.ensures.none)
