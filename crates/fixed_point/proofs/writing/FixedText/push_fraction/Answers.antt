use Rattle.std.proofs.Common.{◌∷◌, [], ◌++◌, ◌∙◌, ℕ, List, length, arith, ap, sym, append_assoc, length-append}
use Rattle.fixed_point.specs.Text.{fraction_digits}
use Rattle.fixed_point.proofs.Canonical.{fraction_text_some}
use Rattle.fixed_point.proofs.writing.FixedText.push_fraction.Goals as goal

pub push_decimals-requires-clause-room : goal.push_decimals-requires-clause-room
push_decimals-requires-clause-room c = omega (arith, ap length c.push.ensures, length-append c.args.self.now (46 ∷ []))

pub returns-then-raw-gt0 : goal.returns-then-raw-gt0
returns-then-raw-gt0 c =
    c.push_decimals.ensures ∙ ap (λ (bytes : List ℕ). bytes ++ fraction_digits 16 c.args.raw) c.push.ensures
    ∙ append_assoc c.args.self.now (46 ∷ []) (fraction_digits 16 c.args.raw)
    ∙ ap (λ (bytes : List ℕ). c.args.self.now ++ bytes) (sym (fraction_text_some c.args.raw c.if-raw-gt0.true))
