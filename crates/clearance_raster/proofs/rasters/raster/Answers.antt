use Rattle.std.proofs.Common.{sym, subst}
use Rattle.nav_types.specs.declared.cells.Rect.{Rect}
use Rattle.nav_types.specs.declared.cells.Size.{Size}
use Rattle.nav_types.specs.Cells.{IsInside, IsInRect}
use Rattle.clearance_raster.proofs.Sizes.{in_all, size_from_cells}
use Rattle.clearance_raster.proofs.rasters.raster.Goals as goal

pub returns-clause-size : goal.returns-clause-size
returns-clause-size c = size_from_cells c.raster_classes.new.canvas.size c.args.grid.now.size c.raster_classes.ensures.rect

pub returns-clause-bits : goal.returns-clause-bits
returns-clause-bits c = λ cell k inside. c.raster_classes.ensures.set.bits cell k
    (subst (λ (r : Rect). IsInRect r cell) (sym c.of_map.ensures.value)
    (in_all c.size-size.result cell (subst (λ (s : Size). IsInside s cell) (sym c.size-size.ensures.size) inside)))
