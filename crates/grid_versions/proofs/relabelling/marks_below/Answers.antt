use Rattle.std.proofs.Common.{◌+◌, ◌∙◌, ℕ, ap, sym, arith}
use Rattle.std.specs.List.{count_by, sum_by, range_with_len}
use Rattle.std.proofs.lemmas.List.Sums.{count_by-le-length}
use Rattle.lane_rows.specs.Rows.{has_class}
use Rattle.grid_versions.proofs.VersionLemmas.{sum_range_more}
use Rattle.grid_versions.proofs.relabelling.marks_below.Goals as goal

pub loop-number-preserved : goal.loop-number-preserved
loop-number-preserved c =
    let bits = c.args.bits.now in
    let number = c.loop-number.number in
    let f : ℕ → ℕ = λ k. count_by (has_class k) bits in
    let few = c.loop-number.invariant.few in
    record {
      sum = ap (λ n. n + c.count_bit.result) c.loop-number.invariant.sum ∙ ap (λ n. sum_by f (range_with_len 0 number) + n) c.count_bit.ensures
          ∙ sym (sum_range_more f number);
      few = omega (arith, c.count_bit.ensures, count_by-le-length (has_class number) bits, c.requires.chunks);
    }
