use Rattle.std.proofs.Common.{◌∙◌}
use Rattle.grid_versions.specs.Fitting.{fits}
use Rattle.grid_versions.proofs.FittingLemmas.{fits_decides, ok_by_test}
use Rattle.grid_versions.proofs.standing_edits.fits.Goals as goal

pub returns : goal.returns
returns c =
    c.is_ok.ensures.value
    ∙ ok_by_test c.check.result c.args.shape (fits c.args.size c.args.shape) c.check.ensures (fits_decides c.args.size c.args.shape)
