use Rattle.std.proofs.Common.{sym, ◌∙◌}
use Rattle.script_text.proofs.versions.have_lines.Goals as goal

pub returns : goal.returns
returns c =
    let told = rw (c.version.ensures.version, c.as_slice.ensures) at c.are_turn_of.ensures in
    (λ holds. sym told ∙ holds, λ have. told ∙ have)
