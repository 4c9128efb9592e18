use Rattle.std.proofs.Common.{ℕ, List, ◌≡◌, ◌+◌, ◌-◌, ◌*◌, ◌/◌, ◌<◌, ◌≤◌, length, sym, ap, ap₂, ◌∙◌, subst, arith}
use Rattle.class_planes.specs.inner.Lines.{LineTable, line_at, line_in}
use Rattle.class_planes.specs.inner.Runs.{LaneWords}
use Rattle.class_planes.specs.inner.StopLines.{MapTable, band_put, line_before, map_lines}
use Rattle.class_planes.proofs.SetLemmas.{open_line, open_long}
use Rattle.class_planes.proofs.StopBandLemmas.{line_before_later, map_line_long, same_lanes}
use Rattle.class_planes.proofs.stops.MapLines.lanes_at.Goals as goal

pub lanes_in-requires-clause-long : goal.lanes_in-requires-clause-long
lanes_in-requires-clause-long c =
    let others : LineTable = map_lines c.self.inside.others.now in
    let lines : LineTable = c.args.self.now.lines in
    let bits : List ℕ = c.self.inside.bits.now in
    let b : ℕ = c.self.inside.first / 32 in
    let is : band_put others b bits ≡ lines = ap (λ (t : MapTable). t.lines) c.self.view_is in
    let low = c.if-self-n.true in
    let line = c.requires.line in
    let long = open_long others lines c.args.self.now.count b bits is c.requires.lines (omega (arith, low, line)) in
    omega (arith, long, ap (λ (t : LineTable). t.words) is, c.words.ensures)

pub returns-then-n-self : goal.returns-then-n-self
returns-then-n-self c =
    let others : LineTable = map_lines c.self.inside.others.now in
    let lines : LineTable = c.args.self.now.lines in
    let count : ℕ = c.args.self.now.count in
    let bits : List ℕ = c.self.inside.bits.now in
    let first : ℕ = c.self.inside.first in
    let n : ℕ = c.args.n in
    let k : ℕ = n - first in
    let is : band_put others (first / 32) bits ≡ lines = ap (λ (t : MapTable). t.lines) c.self.view_is in
    let aligned : 32 * (first / 32) ≡ first = c.self.invariant in
    let low : first < n = c.if-self-n.true in
    let high = c.if-n-self.true in
    let line = c.requires.line in
    let below : first / 32 < count / 32 + 1 = omega (arith, low, line) in
    let lanes : LaneWords = c.lanes_in.result in
    let here : c.from.result ≡ k = c.from.ensures in
    let wide : c.words.result ≡ others.words = c.words.ensures in
    same_lanes lanes.mid (line_at lines n) lanes.left (line_at lines (n + 1)) lanes.right
    (line_at lines (line_before count n))
    (c.lanes_in.ensures.mid ∙ ap₂ (λ (w m : ℕ). line_in w bits m) wide here
    ∙ open_line others lines count (first / 32) n k bits is c.requires.lines below (omega (arith, aligned, low, high))
    (omega (arith, aligned, low, high)))
    (c.lanes_in.ensures.left ∙ ap₂ (λ (w m : ℕ). line_in w bits (m + 1)) wide here
    ∙ open_line others lines count (first / 32) (n + 1) (k + 1) bits is c.requires.lines below
    (omega (arith, aligned, low, high)) (omega (arith, aligned, low, high)))
    (c.lanes_in.ensures.right ∙ ap₂ (λ (w m : ℕ). line_in w bits (m - 1)) wide here
    ∙ open_line others lines count (first / 32) (n - 1) (k - 1) bits is c.requires.lines below
    (omega (arith, aligned, low, high)) (omega (arith, aligned, low, high))
    ∙ ap (line_at lines) (sym (line_before_later count n (omega (arith, low)))))

pub invariant_of-result : goal.invariant_of-result
invariant_of-result c =
    let lines : LineTable = c.args.self.now.lines in
    let count : ℕ = c.args.self.now.count in
    let n : ℕ = c.args.n in
    let line = c.requires.line in
    let same : c.self.inside.count ≡ count = ap (λ (t : MapTable). t.count) c.self.view_is in
    let mid = ap length c.line-mid.ensures ∙ map_line_long lines count n c.requires.lines (omega (arith, line)) in
    let left = ap length c.line-left.ensures ∙ map_line_long lines count (n + 1) c.requires.lines (omega (arith, line)) in
    let right = ap length c.line-right.ensures
    ∙ map_line_long lines count c.line_before.result c.requires.lines (omega (arith, c.line_before.ensures.small, same)) in
    record {
      left = left ∙ sym mid;
      right = right ∙ sym mid;
      few = subst (λ w. w ≤ 33) (sym mid) c.requires.lines.few;
    }
