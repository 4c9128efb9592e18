use Rattle.std.proofs.Common.{◌≡◌, ◌<◌, ◌+◌, ◌-◌, ◌∙◌, ap, sym, subst, arith}
use Rattle.nav_types.specs.Cells.{cell_at, IsInRect}
use Rattle.nav_types.specs.Numbering.{number_of}
use Rattle.chunk_regions.specs.Labelling.{Labelling}
use Rattle.chunk_regions.specs.inner.Spans.{region_at}
use Rattle.chunk_regions.proofs.ChunkLemmas.{number_of-numbered_by}
use Rattle.chunk_regions.proofs.labels.Labels.stretch_at.Goals as goal

pub returns-clause-same : goal.returns-clause-same
returns-clause-same c = λ i west east.
    let rect = c.self.inside.rect in
    let cell = c.args.cell in
    let inside = subst (λ (l : Labelling). IsInRect l.cells.rect cell) (sym c.self.view_is) c.requires in
    let from = inside.west in
    let least = c.min.ensures in
    let reaches = c.stretch_in_row-region.ensures.from in
    let along : IsInRect rect (cell_at i cell.j) = record { west = omega arith; east = omega arith; south = inside.south; north = inside.north } in
    ap (λ (l : Labelling). number_of l.cells (cell_at i cell.j)) (sym c.self.view_is)
    ∙ number_of-numbered_by c.self.inside.spans c.self.inside.regions.items rect (cell_at i cell.j) along
    ∙ ap (λ regions. region_at c.self.inside.spans regions (cell.j - rect.j0) (i - rect.i0)) (sym c.as_slice.ensures.value)
    ∙ c.stretch_in_row-region.ensures.same (i - rect.i0) (omega arith) (omega arith)

pub returns-clause-longest : goal.returns-clause-longest
returns-clause-longest c = λ less same.
    let rect = c.self.inside.rect in
    let cell = c.args.cell in
    let inside = subst (λ (l : Labelling). IsInRect l.cells.rect cell) (sym c.self.view_is) c.requires in
    let from = inside.west in
    let wide = c.self.invariant.0.wide in
    let least = c.min.ensures in
    let reaches = c.stretch_in_row-region.ensures.from in
    let short : c.min.result < rect.i1 = subst (λ (l : Labelling). c.min.result < l.cells.rect.i1) (sym c.self.view_is) less in
    let i = c.min.result + 1 in
    let beyond : IsInRect rect (cell_at i cell.j) = record { west = omega arith; east = omega arith; south = inside.south; north = inside.north } in
    let next : i - rect.i0 ≡ c.stretch_in_row-region.result.1 + 1 = omega arith in
    let value = ap (λ (l : Labelling). number_of l.cells (cell_at i cell.j)) (sym c.self.view_is)
    ∙ number_of-numbered_by c.self.inside.spans c.self.inside.regions.items rect (cell_at i cell.j) beyond
    ∙ ap (λ regions. region_at c.self.inside.spans regions (cell.j - rect.j0) (i - rect.i0)) (sym c.as_slice.ensures.value)
    ∙ ap (λ x. region_at c.self.inside.spans c.as_slice.result.now (cell.j - rect.j0) x) next in
    c.stretch_in_row-region.ensures.longest (omega arith) (sym value ∙ same)
