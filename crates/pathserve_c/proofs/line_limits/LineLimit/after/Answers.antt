use Rattle.std.proofs.Common.{◌≡◌, ◌+◌, Option, None, Some, get_or, take, sym, ap, ◌∙◌}
use Rattle.std.proofs.lemmas.List.Sums.{fold_more}
use Rattle.pathserve_c.specs.declared.line_limits.LineLimit.{LineLimit}
use Rattle.pathserve_c.specs.LineLimits.{limit_after, limit_with}
use Rattle.pathserve_c.proofs.Feeding.{past_at}
use Rattle.pathserve_c.proofs.line_limits.LineLimit.after.Goals as goal

pub returns-in_err-limit : goal.returns-in_err-limit
returns-in_err-limit c =
    let bytes = c.args.bytes.now in
    let i = c.loop-byte.byte-index in
    let past : limit_after c.args.self (take (i + 1) bytes) ≡ None =
    fold_more limit_with (Some c.args.self) bytes i 0 c.loop-byte-test.true
    ∙ (ap (λ (l : Option LineLimit). limit_with l (get_or bytes i 0)) c.loop-byte.invariant ∙ (sym c.with.ensures ∙ c.in_err-limit.was)) in
    c.from_residual.ensures ∙ sym (past_at c.args.self bytes (i + 1) past)
