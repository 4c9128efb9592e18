use Rattle.std.proofs.Common.{◌≡◌, ◌≤◌, ◌+◌, ◌∙◌, ℕ, ℤ, length, sym, ap, subst, arith}
use Rattle.std.specs.Prelude.{IsTrue, Option, Some}
use Rattle.std.proofs.lemmas.Bool.{both_ways}
use Rattle.lane_rows.specs.Rows.{has_class}
use Rattle.class_config.specs.Classes.{clearance_at}
use Rattle.clearance_raster.proofs.Reaching.{IsFound, found_kept, found_greater, found_some, found_none}
use Rattle.clearance_raster.proofs.reaches.greatest_clearance.Goals as goal
use Rattle.clearance_raster.proofs.reaches.greatest_clearance.Goals.{then-includes, else-includes}

pub loop-number-preserved : goal.loop-number-preserved
loop-number-preserved c =
    let mask : ℕ = c.args.mask in
    let classes = c.args.classes.now in
    let number : ℕ = c.loop-number.number in
    let found : Option ℤ = c.loop-number.greatest in
    let told : c.includes.result ≡ has_class number mask =
    c.includes.ensures ∙ ap (λ (k : ℕ). has_class k mask) c.new-class.ensures in
    elim c.if-includes.branch [
      | then-includes w ↦
          let has : clearance_at classes number ≡ Some w.clearance.result =
          sym (w.clearance.ensures.clearance ∙ ap (clearance_at classes) c.new-class.ensures) in
          let is = w.greater.ensures in
          subst (λ (o : Option ℤ). IsFound mask classes (number + 1) o) (sym w.greatest-is)
          (found_greater mask classes number found w.clearance.result w.greater.result (sym told ∙ w.if-includes.true) has
          is.first is.same is.most is.least c.loop-number.invariant)
      | else-includes w ↦
          subst (λ (o : Option ℤ). IsFound mask classes (number + 1) o) (sym w.greatest-is)
          (found_kept mask classes number found
          (λ (yes : IsTrue (has_class number mask)). both_ways (has_class number mask) (sym told ∙ w.if-includes.false) yes)
          c.loop-number.invariant)
    ]

pub returns-clause-greatest : goal.returns-clause-greatest
returns-clause-greatest c =
    let classes = c.args.classes.now in
    let number : ℕ = c.loop-number.number in
    let all : length classes ≤ number = omega (arith, c.count-number-end.ensures.count, c.loop-number-test.false) in
    found_some c.args.mask classes number c.loop-number.greatest all c.loop-number.invariant

pub returns-clause-none : goal.returns-clause-none
returns-clause-none c =
    let classes = c.args.classes.now in
    let number : ℕ = c.loop-number.number in
    let all : length classes ≤ number = omega (arith, c.count-number-end.ensures.count, c.loop-number-test.false) in
    found_none c.args.mask classes number c.loop-number.greatest all c.loop-number.invariant
