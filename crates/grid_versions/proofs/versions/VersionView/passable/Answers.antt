use Rattle.grid_versions.proofs.versions.VersionView.passable.Goals as goal

pub returns : goal.returns
returns c = cc
