use Rattle.std.proofs.Common.{ℕ, Bool, subst}
use Rattle.nav_types.specs.declared.cells.Cell.{Cell}
use Rattle.nav_types.specs.Cells.{cell_at}
use Rattle.class_planes.specs.Planes.{AreFreeBits}
use Rattle.pathserve_c.proofs.views.row_of.Goals as goal

pub returns-clause-bits : goal.returns-clause-bits
returns-clause-bits c =
    let plane = c.in-Some.plane.now in
    let is = c.planes.ensures.of_version c.args.class plane c.in-Some.ensures.some in
    subst (λ (passes : Cell → Bool). AreFreeBits (λ (i : ℕ). passes (cell_at i c.args.j)) c.row_words.result.now) is.cells c.row_words.ensures.bits
