use Rattle.std.proofs.Common.{ℕ, List, ◌≡◌, ◌+◌, ◌*◌, ◌%◌, ◌/◌, ◌≤◌, eqb, length, ap, ap₂, ◌∙◌, arith}
use Rattle.std.proofs.lemmas.Nat.{mul-le}
use Rattle.class_planes.specs.inner.Lines.{LineTable, line_in}
use Rattle.class_planes.specs.inner.Runs.{bit_in}
use Rattle.class_planes.specs.inner.StopLines.{part_along}
use Rattle.class_planes.proofs.SetLemmas.{part_line, part_long, raw_below}
use Rattle.class_planes.proofs.line_sets.LineSet.has_jump_point.Goals as goal

pub band-requires : goal.band-requires
band-requires c = raw_below c.args.self.now (part_along c.args.way) (c.args.n / 32) c.requires.band

pub is_set_in-requires-clause-long : goal.is_set_in-requires-clause-long
is_set_in-requires-clause-long c =
    let words : ℕ = c.args.self.now.words in
    let k : ℕ = part_along c.args.way in
    let m : ℕ = c.args.n % 32 in
    let place = c.requires.place in
    let long = part_long c.args.self.now k (c.args.n / 32) (omega (arith, place)) c.requires.band c.requires.long in
    let more : (32 * k + m + 1) * words ≤ (32 * k + 32) * words =
    mul-le (32 * k + m + 1) words (32 * k + 32) words (omega arith) (omega arith) in
    let same : (32 * c.part_along.result + m + 1) * c.self.inside.words ≡ (32 * k + m + 1) * words =
    ap₂ (λ (p w : ℕ). (32 * p + m + 1) * w) c.part_along.ensures.is (ap (λ (t : LineTable). t.words) c.self.view_is) in
    omega (arith, long, more, same, ap length c.band.ensures)

pub returns : goal.returns
returns c =
    let k : ℕ = part_along c.args.way in
    let i : ℕ = c.args.i in
    c.is_set_in.ensures
    ∙ ap (λ (p : ℕ). eqb (bit_in (line_in c.self.inside.words c.band.result.now (32 * p + c.args.n % 32)) i) 1)
    c.part_along.ensures.is
    ∙ ap₂ (λ (words : ℕ) (band : List ℕ). eqb (bit_in (line_in words band (32 * k + c.args.n % 32)) i) 1)
    (ap (λ (t : LineTable). t.words) c.self.view_is) c.band.ensures
    ∙ ap (λ (line : List ℕ). eqb (bit_in line i) 1)
    (part_line c.args.self.now k c.args.n (raw_below c.args.self.now k (c.args.n / 32) c.requires.band))
