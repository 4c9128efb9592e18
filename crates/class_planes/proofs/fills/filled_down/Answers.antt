use Rattle.std.proofs.Common.{ℕ, ◌≡◌, ◌+◌, max, min, sym, ap, ◌∙◌, arith}
use Rattle.std.specs.Int.{bit_at}
use Rattle.std.proofs.lemmas.Nat.Bits.{bit_at_above, bit_at-lt}
use Rattle.class_planes.proofs.FillLemmas.{all_free, none_spread, IsFilledDown, down_all, down_none, down_start, down_further, down_end}
use Rattle.class_planes.proofs.fills.filled_down.Goals as goal

pub returns : goal.returns
returns c k below =
    let bits : ℕ → ℕ = bit_at c.args.bits in
    let free : ℕ → ℕ = bit_at c.args.free in
    let all : ℕ → ℕ = down_all bits free in
    let start : IsFilledDown all bits free 1 = down_start bits free
    (λ k past. bit_at_above c.args.bits 64 k c.ranges.bits.fits past)
    (λ k past. bit_at_above c.args.free 64 k c.ranges.free.fits past) in
    let r1 = c.spread_down-one in
    let r2 = c.spread_down-two in
    let r4 = c.spread_down-four in
    let r8 = c.spread_down-eight in
    let r16 = c.spread_down-sixteen in
    let r32 = c.spread_down in
    let two : IsFilledDown all (bit_at r1.result.bits) (bit_at r1.result.free) 2 = down_further all bits free
    (bit_at r1.result.bits) (bit_at r1.result.free) 1 start r1.ensures.bits r1.ensures.free in
    let four : IsFilledDown all (bit_at r2.result.bits) (bit_at r2.result.free) 4 = down_further all
    (bit_at r1.result.bits) (bit_at r1.result.free)
    (bit_at r2.result.bits) (bit_at r2.result.free) 2 two r2.ensures.bits r2.ensures.free in
    let eight : IsFilledDown all (bit_at r4.result.bits) (bit_at r4.result.free) 8 = down_further all
    (bit_at r2.result.bits) (bit_at r2.result.free)
    (bit_at r4.result.bits) (bit_at r4.result.free) 4 four r4.ensures.bits r4.ensures.free in
    let sixteen : IsFilledDown all (bit_at r8.result.bits) (bit_at r8.result.free) 16 = down_further all
    (bit_at r4.result.bits) (bit_at r4.result.free)
    (bit_at r8.result.bits) (bit_at r8.result.free) 8 eight r8.ensures.bits r8.ensures.free in
    let half : IsFilledDown all (bit_at r16.result.bits) (bit_at r16.result.free) 32 = down_further all
    (bit_at r8.result.bits) (bit_at r8.result.free)
    (bit_at r16.result.bits) (bit_at r16.result.free) 16 sixteen r16.ensures.bits r16.ensures.free in
    let whole : IsFilledDown all (bit_at r32.result.bits) (bit_at r32.result.free) 64 = down_further all
    (bit_at r16.result.bits) (bit_at r16.result.free)
    (bit_at r32.result.bits) (bit_at r32.result.free) 32 half r32.ensures.bits r32.ensures.free in
    let end : (k : ℕ) → all k ≡ bit_at r32.result.bits k = down_end all (bit_at r32.result.bits)
    (bit_at r32.result.free) whole (down_none bits free) in
    let next : 1 + k ≡ k + 1 = omega arith in
    sym (end k) ∙ start.each k
    ∙ ap (λ x. max (bits k) (min (free k) x)) (end (1 + k) ∙ ap (bit_at r32.result.bits) next)

pub returns-then-bits-eq0 : goal.returns-then-bits-eq0
returns-then-bits-eq0 c k below = none_spread c.args.bits c.args.free k (k + 1) c.if-bits-eq0.true

pub returns-then-free-eq18446744073709551615 : goal.returns-then-free-eq18446744073709551615
returns-then-free-eq18446744073709551615 c k below =
    all_free c.args.free (bit_at c.args.bits k) (bit_at c.all_below.result (k + 1)) (bit_at c.all_below.result k) k
    c.if-free-eq18446744073709551615.true below (bit_at-lt c.all_below.result (k + 1)) (c.all_below.ensures k below)
