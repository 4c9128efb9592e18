use Rattle.std.proofs.Common.{ℕ, ◌+◌, length, decimal, ◌≡◌, ◌/◌, ◌%◌, arith, ap, ◌∙◌, ◌∷◌, [], append_assoc, length-append}
use Rattle.std.proofs.lemmas.Fmt.{decimal_digit, decimal_step}
use Rattle.fixed_point.proofs.Canonical.{length_decimal_step}
use Rattle.fixed_point.proofs.writing.FixedText.+push_whole.Goals as goal
use Rattle.fixed_point.proofs.writing.FixedText.+push_whole.Goals.{then-whole-ge10, else-whole-ge10}

pub push_whole-requires : goal.push_whole-requires
push_whole-requires t c =
    let e = length_decimal_step c.args.whole (omega arith) (omega arith) in
    (omega arith, omega arith)

-- the front of the digits leaves room for the last one
pub push-requires : goal.push-requires
push-requires t c = elim c.if-whole-ge10.branch [
  | then-whole-ge10 w ↦
      omega (
        arith,
        length_decimal_step c.args.whole (omega arith) (omega arith),
        ap length (w.self-is ∙ w.push_whole.ensures),
        length-append c.args.self.now (decimal (c.args.whole / 10)),
      )
  | else-whole-ge10 w ↦ omega (arith, ap length w.self-is, ap length (decimal_digit c.args.whole (omega arith)))
]

pub returns : goal.returns
returns t c = elim c.if-whole-ge10.branch [
  | then-whole-ge10 w ↦
      let step = decimal_step c.args.whole (omega arith) (omega arith) in
      let regrouped = append_assoc {A = ℕ} c.args.self.now (decimal (c.args.whole / 10)) ((48 + c.args.whole % 10) ∷ []) in
      cc
  | else-whole-ge10 w ↦
      let digit = decimal_digit c.args.whole (omega arith) in
      let last : c.args.whole % 10 ≡ c.args.whole = omega arith in
      cc
]
