use Rattle.std.proofs.Common.{ℕ, suc, ◌≡◌, ◌+◌, ◌<◌, max, min, sym, ap, ◌∙◌, subst, arith}
use Rattle.std.specs.Int.{bit_at}
use Rattle.std.proofs.lemmas.Nat.Bits.{bit_at-lt}
use Rattle.class_planes.proofs.FillLemmas.{all_free, none_spread, IsFilledUp, up_all, up_start, up_further}
use Rattle.class_planes.proofs.fills.filled_up.Goals as goal

pub returns-clause-lowest : goal.returns-clause-lowest
returns-clause-lowest c =
    let bits : ℕ → ℕ = bit_at c.args.bits in
    let free : ℕ → ℕ = bit_at c.args.free in
    let all : ℕ → ℕ = up_all bits free in
    let start : IsFilledUp all bits free 1 = up_start bits free in
    let r1 = c.spread_up-one in
    let r2 = c.spread_up-two in
    let r4 = c.spread_up-four in
    let r8 = c.spread_up-eight in
    let r16 = c.spread_up-sixteen in
    let r32 = c.spread_up in
    let s2 : IsFilledUp all (bit_at r1.result.bits) (bit_at r1.result.free) 2 = up_further all bits free (bit_at r1.result.bits) (bit_at r1.result.free) 1 (omega arith) start r1.ensures.low r1.ensures.bits r1.ensures.free in
    let s4 : IsFilledUp all (bit_at r2.result.bits) (bit_at r2.result.free) 4 = up_further all (bit_at r1.result.bits) (bit_at r1.result.free) (bit_at r2.result.bits) (bit_at r2.result.free) 2 (omega arith) s2 r2.ensures.low r2.ensures.bits r2.ensures.free in
    let s8 : IsFilledUp all (bit_at r4.result.bits) (bit_at r4.result.free) 8 = up_further all (bit_at r2.result.bits) (bit_at r2.result.free) (bit_at r4.result.bits) (bit_at r4.result.free) 4 (omega arith) s4 r4.ensures.low r4.ensures.bits r4.ensures.free in
    let s16 : IsFilledUp all (bit_at r8.result.bits) (bit_at r8.result.free) 16 = up_further all (bit_at r4.result.bits) (bit_at r4.result.free) (bit_at r8.result.bits) (bit_at r8.result.free) 8 (omega arith) s8 r8.ensures.low r8.ensures.bits r8.ensures.free in
    let s32 : IsFilledUp all (bit_at r16.result.bits) (bit_at r16.result.free) 32 = up_further all (bit_at r8.result.bits) (bit_at r8.result.free) (bit_at r16.result.bits) (bit_at r16.result.free) 16 (omega arith) s16 r16.ensures.low r16.ensures.bits r16.ensures.free in
    let end : IsFilledUp all (bit_at r32.result.bits) (bit_at r32.result.free) 64 = up_further all (bit_at r16.result.bits) (bit_at r16.result.free) (bit_at r32.result.bits) (bit_at r32.result.free) 32 (omega arith) s32 r32.ensures.low r32.ensures.bits r32.ensures.free in
    sym (end.low 0 (omega arith))

pub returns-clause-others : goal.returns-clause-others
returns-clause-others c k below =
    let bits : ℕ → ℕ = bit_at c.args.bits in
    let free : ℕ → ℕ = bit_at c.args.free in
    let all : ℕ → ℕ = up_all bits free in
    let start : IsFilledUp all bits free 1 = up_start bits free in
    let r1 = c.spread_up-one in
    let r2 = c.spread_up-two in
    let r4 = c.spread_up-four in
    let r8 = c.spread_up-eight in
    let r16 = c.spread_up-sixteen in
    let r32 = c.spread_up in
    let s2 : IsFilledUp all (bit_at r1.result.bits) (bit_at r1.result.free) 2 = up_further all bits free (bit_at r1.result.bits) (bit_at r1.result.free) 1 (omega arith) start r1.ensures.low r1.ensures.bits r1.ensures.free in
    let s4 : IsFilledUp all (bit_at r2.result.bits) (bit_at r2.result.free) 4 = up_further all (bit_at r1.result.bits) (bit_at r1.result.free) (bit_at r2.result.bits) (bit_at r2.result.free) 2 (omega arith) s2 r2.ensures.low r2.ensures.bits r2.ensures.free in
    let s8 : IsFilledUp all (bit_at r4.result.bits) (bit_at r4.result.free) 8 = up_further all (bit_at r2.result.bits) (bit_at r2.result.free) (bit_at r4.result.bits) (bit_at r4.result.free) 4 (omega arith) s4 r4.ensures.low r4.ensures.bits r4.ensures.free in
    let s16 : IsFilledUp all (bit_at r8.result.bits) (bit_at r8.result.free) 16 = up_further all (bit_at r4.result.bits) (bit_at r4.result.free) (bit_at r8.result.bits) (bit_at r8.result.free) 8 (omega arith) s8 r8.ensures.low r8.ensures.bits r8.ensures.free in
    let s32 : IsFilledUp all (bit_at r16.result.bits) (bit_at r16.result.free) 32 = up_further all (bit_at r8.result.bits) (bit_at r8.result.free) (bit_at r16.result.bits) (bit_at r16.result.free) 16 (omega arith) s16 r16.ensures.low r16.ensures.bits r16.ensures.free in
    let end : IsFilledUp all (bit_at r32.result.bits) (bit_at r32.result.free) 64 = up_further all (bit_at r16.result.bits) (bit_at r16.result.free) (bit_at r32.result.bits) (bit_at r32.result.free) 32 (omega arith) s32 r32.ensures.low r32.ensures.bits r32.ensures.free in
    let next : suc k ≡ k + 1 = omega arith in
    let there : suc k < 64 = omega (arith, below) in
    let here : k < 64 = omega (arith, below) in
    subst (λ n. bit_at r32.result.bits n ≡ max (bits n) (min (free n) (bit_at r32.result.bits k))) next
    (sym (end.low (suc k) there) ∙ ap (λ x. max (bits (suc k)) (min (free (suc k)) x)) (end.low k here))

pub returns-then-bits-eq0-clause-lowest : goal.returns-then-bits-eq0-clause-lowest
returns-then-bits-eq0-clause-lowest c = ap (λ n. bit_at n 0) (sym c.if-bits-eq0.true)

pub returns-then-bits-eq0-clause-others : goal.returns-then-bits-eq0-clause-others
returns-then-bits-eq0-clause-others c k below =
    none_spread c.args.bits c.args.free (k + 1) k c.if-bits-eq0.true

pub returns-then-free-eq18446744073709551615-clause-others : goal.returns-then-free-eq18446744073709551615-clause-others
returns-then-free-eq18446744073709551615-clause-others c k below =
    all_free c.args.free (bit_at c.args.bits (k + 1)) (bit_at c.all_above.result k) (bit_at c.all_above.result (k + 1)) (k + 1)
    c.if-free-eq18446744073709551615.true below (bit_at-lt c.all_above.result k) (c.all_above.ensures.others k below)
