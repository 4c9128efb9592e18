use Rattle.nav_types.specs.Walks.{Joined}
use Rattle.nav_types.specs.Regions.{IsAreaBefore}
use Rattle.nav_types.proofs.CellOrder.{IsAreaBefore-asym, IsAreaBefore-cases}
use Rattle.nav_types.proofs.Walking.{Joined-sym, Joined-trans}
use Rattle.nav_types.proofs.FirstCells.{HasNumber-together}
use Rattle.chunk_regions.proofs.laws.same_area.Goals as goal

pub returns : goal.returns
returns c = λ passes a b m n here there one two.
    HasNumber-together passes (Joined passes) IsAreaBefore (Joined-sym passes) (Joined-trans passes)
    IsAreaBefore-asym IsAreaBefore-cases a b m n here there one two
