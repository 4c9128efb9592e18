use Rattle.std.proofs.Common.{ℕ, ◌+◌, ◌-◌, ◌*◌, ◌≤◌, sym, ◌∙◌, arith}
use Rattle.std.proofs.lemmas.Nat.{mul-le}
use Rattle.class_planes.proofs.LineLemmas.{part_long}
use Rattle.class_planes.proofs.lines.lanes_in.Goals as goal

pub invariant_of-result : goal.invariant_of-result
invariant_of-result c =
    let words : ℕ = c.args.words in
    let k : ℕ = c.args.k in
    let band = c.args.band.now in
    let start : ℕ = k * words in
    let below : (k + 2) * words ≤ 32 * words = mul-le (k + 2) words 32 words (omega (arith, c.requires.high)) (omega arith) in
    let above : 1 * words ≤ k * words = mul-le 1 words k words (omega (arith, c.requires.low)) (omega arith) in
    let mid = part_long band start (start + words) words (omega arith) (omega (arith, c.requires.long, below)) in
    let left = part_long band (start + words) (start + words + words) words (omega arith) (omega (arith, c.requires.long, below)) in
    let right = part_long band (start - words) start words (omega (arith, above)) (omega (arith, c.requires.long, below)) in
    record {
      left = left ∙ sym mid;
      right = right ∙ sym mid;
      few = omega (arith, mid, c.requires.few);
    }
