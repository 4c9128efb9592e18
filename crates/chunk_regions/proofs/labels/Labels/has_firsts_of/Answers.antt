use Rattle.std.proofs.Common.{◌≡◌, ◌==◌, ◌&&◌, ap, sym, ◌∙◌}
use Rattle.std.specs.Bool.{Decides}
use Rattle.std.proofs.lemmas.Bool.{and_parts, and_from, eqb-true, eq-eqb}
use Rattle.std.proofs.lemmas.Slice.Eq.{slice_eq-Decides}
use Rattle.nav_types.specs.declared.cells.Cell.{Cell}
use Rattle.nav_types.proofs.CellOrder.{same_cell}
use Rattle.chunk_regions.specs.Labelling.{Labelling}
use Rattle.chunk_regions.proofs.labels.Labels.has_firsts_of.Goals as goal

-- cells are compared by row and column
cell_eq-Decides : (a b : Cell) → Decides ((a.j == b.j) && (a.i == b.i)) (a ≡ b)
cell_eq-Decides a b = (
  λ equal.
      let parts = and_parts (a.j == b.j) (a.i == b.i) equal in
      same_cell a b (eqb-true a.i b.i parts.1) (eqb-true a.j b.j parts.0),
  λ same.
      and_from (a.j == b.j) (a.i == b.i) (eq-eqb a.j b.j (ap (λ (c : Cell). c.j) same)) (eq-eqb a.i b.i (ap (λ (c : Cell). c.i) same)),
)

pub returns : goal.returns
returns c =
    let decided = slice_eq-Decides cell_eq-Decides _ _ _ c.eq.ensures in
    let own = c.as_slice.ensures.value ∙ ap (λ (l : Labelling). l.firsts) c.self.view_is in
    let others = c.as_slice-2.ensures.value ∙ ap (λ (l : Labelling). l.firsts) c.other.view_is in (
      λ same. sym own ∙ decided.0 same ∙ others,
      λ same. decided.1 (own ∙ same ∙ sym others),
    )
