use Rattle.std.proofs.Common.{subst}
use Rattle.std.proofs.lemmas.Result.{IfOk-weaker}
use Rattle.nav_types.specs.declared.cells.Size.{Size}
use Rattle.chunk_regions.specs.Labelling.{AreLabels}
use Rattle.chunk_regions.proofs.labels.label.Goals as goal

pub returns-clause-labels : goal.returns-clause-labels
returns-clause-labels g c =
    let passes = g.V.View.passes c.args.view.now c.args.class in
    IfOk-weaker c.label_bits.result _ _
    (λ labels made. subst (λ (size : Size). AreLabels passes size c.args.chunk labels) c.size.ensures (made passes c.read-bits.ensures))
    c.label_bits.ensures.labels
