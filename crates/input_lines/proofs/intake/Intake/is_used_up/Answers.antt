use Rattle.std.proofs.Common.{◌∙◌, sym, ap, eq-eqb, arith}
use Rattle.std.proofs.lemmas.Bool.{eqb-true}
use Rattle.input_lines.proofs.Newlines.{held-nil, nil-held}
use Rattle.input_lines.proofs.intake.Intake.is_used_up.Goals as goal

pub returns : goal.returns
returns c =
    let i = c.self.inside in
    let held = ap (λ t. t.bytes) c.self.view_is in (
      λ e. sym held ∙ held-nil i.buffer.items i.from i.to (omega (arith, i.buffer.ok.0)) (eqb-true i.from i.to e),
      λ e. eq-eqb i.from i.to (nil-held i.buffer.items i.from i.to (omega arith) (omega (arith, i.buffer.ok.0)) (held ∙ e)),
    )
