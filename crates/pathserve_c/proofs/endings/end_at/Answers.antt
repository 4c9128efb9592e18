use Rattle.grid_versions.specs.Versions.{passes_of}
use Rattle.pathserve_c.proofs.PathEnds.{ends_nowhere, ends_path}
use Rattle.pathserve_c.proofs.endings.end_at.Goals as goal

pub returns-in-Some : goal.returns-in-Some
returns-in-Some c = λ told is.
    let ends = c.end_from.ensures in
    ends_path (passes_of c.args.version.now c.args.class) c.args.x c.args.z c.args.goal.now c.in-Some.start ends.0 c.end_from.result
    c.in-Some.ensures.some.start ends.1.0 ends.1.1 told is

pub returns-in-None : goal.returns-in-None
returns-in-None c = λ told is.
    ends_nowhere c.args.version.now c.args.class c.args.x c.args.z c.args.goal.now c.requires.column c.requires.row c.in-None.ensures.none told is
