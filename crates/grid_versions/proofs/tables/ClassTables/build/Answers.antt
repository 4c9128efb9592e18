use Rattle.std.proofs.Common.{◌≡◌, Bool, IsTrue, sym, subst}
use Rattle.std.proofs.lemmas.Result.{IfOk-weaker}
use Rattle.nav_types.specs.declared.cells.Cell.{Cell}
use Rattle.nav_types.specs.declared.cells.Size.{Size}
use Rattle.nav_types.specs.Cells.{IsInside}
use Rattle.chunk_regions.specs.Labelling.{Labelling}
use Rattle.region_edges.specs.Edges.{PassesInside}
use Rattle.std.proofs.Common.{ℕ, List}
use Rattle.region_edges.specs.declared.neighbours.ChunkSide.TheVariants.{East, North}
use Rattle.class_planes.specs.Planes.{is_passable}
use Rattle.class_planes.proofs.PlaneLemmas.{only_inside}
use Rattle.grid_versions.specs.inner.Tables.{AreTables, AreAllLabels, AreAllEdges}
use Rattle.grid_versions.specs.inner.Building.{AreSides}
use Rattle.grid_versions.proofs.tables.ClassTables.build.Goals as goal

-- the labels and edges of a map whose size was read
sides_here : (passes : Cell → Bool) (size extent : Size) (labels : List Labelling) (east north : List (List (ℕ × ℕ))) → size ≡ extent
    → ((cell : Cell) → IsTrue (passes cell) → IsInside extent cell) → AreAllLabels passes extent labels
    → ((passes : Cell → Bool) → PassesInside passes size → AreAllLabels passes size labels → AreAllEdges East passes size east)
    → ((passes : Cell → Bool) → PassesInside passes size → AreAllLabels passes size labels → AreAllEdges North passes size north)
    → AreSides passes size labels east north
sides_here passes size extent labels east north same within labelled east_of north_of =
    let inside : PassesInside passes size = λ cell passable. subst (λ (s : Size). IsInside s cell) (sym same) (within cell passable) in
    let here = subst (λ (s : Size). AreAllLabels passes s labels) (sym same) labelled in
    record { inside = inside; labels_are = here; east_are = east_of passes inside here; north_are = north_of passes inside here }

pub joined-requires : goal.joined-requires
joined-requires g c =
    let passes = is_passable c.args.plane.now in (
      passes,
      sides_here passes c.size-size.result c.args.plane.now.size c.in_ok-labels.labels c.in_ok-east.east c.in_ok-north.north c.size-size.ensures
          (only_inside c.args.plane.now) c.in_ok-labels.ensures.labels c.in_ok-east.ensures c.in_ok-north.ensures,
    )

pub returns-clause-tables : goal.returns-clause-tables
returns-clause-tables g c =
    let passes = is_passable c.args.plane.now in
    IfOk-weaker c.joined.result _ _
    (λ tables made.
    subst (λ (s : Size). AreTables passes s tables) c.size-size.ensures
    (made passes
    (sides_here passes c.size-size.result c.args.plane.now.size c.in_ok-labels.labels c.in_ok-east.east c.in_ok-north.north c.size-size.ensures
    (only_inside c.args.plane.now) c.in_ok-labels.ensures.labels c.in_ok-east.ensures c.in_ok-north.ensures)))
    c.joined.ensures
