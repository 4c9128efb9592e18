use Rattle.std.proofs.Common.{ℕ}
use Rattle.nav_types.specs.Lines.{IsFirstFree, place_on}
use Rattle.class_planes.specs.Planes.{is_passable}
use Rattle.grid_versions.specs.Versions.{passes_of}
use Rattle.grid_versions.proofs.PlaneLines.{on_same_line}
use Rattle.grid_versions.proofs.versions.VersionFreeCells.next_free.Goals as goal

pub returns : goal.returns
returns c =
    let result : ℕ = c.next_free.result in
    on_same_line (λ free end. IsFirstFree free (place_on c.args.axis c.args.cell) end result) c.args.axis c.args.cell
    (is_passable c.plane.result.now) (passes_of c.args.self.now c.args.class) c.plane.result.now.size c.args.self.now.map.size
    c.plane.ensures.cells c.plane.ensures.extent c.next_free.ensures
