use Rattle.nav_types.specs.Cells.{IsBefore}
use Rattle.nav_types.specs.Regions.{passes_in, InOneRegion}
use Rattle.nav_types.proofs.CellOrder.{IsBefore-asym, IsBefore-cases}
use Rattle.nav_types.proofs.Walking.{JoinedStraight-sym, JoinedStraight-trans}
use Rattle.nav_types.proofs.FirstCells.{HasNumber-together}
use Rattle.chunk_regions.proofs.laws.same_region.Goals as goal

pub returns : goal.returns
returns c = λ passes chunk a b m n here there one two.
    let P = passes_in passes chunk in
    HasNumber-together P (InOneRegion passes chunk) IsBefore (JoinedStraight-sym P) (JoinedStraight-trans P)
    IsBefore-asym IsBefore-cases a b m n here there one two
