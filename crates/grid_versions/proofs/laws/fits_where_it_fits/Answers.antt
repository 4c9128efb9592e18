use Rattle.grid_versions.proofs.FittingLemmas.{fits_decides}
use Rattle.grid_versions.proofs.laws.fits_where_it_fits.Goals as goal

pub returns : goal.returns
returns c = fits_decides
