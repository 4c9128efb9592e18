use Rattle.std.proofs.Common.{ℕ, List, ◌≡◌, ◌==◌, ◌<◌, ◌^◌, ◌+◌, ◌*◌, ◌/◌, ◌∙◌, get_or, sym, ap, subst, arith, rules, Bool, IsFalse}
use Rattle.std.specs.Int.{bit_at}
use Rattle.nav_types.specs.Lines.{IsFirstFree, is_sought}
use Rattle.class_planes.proofs.WordLemmas.{next_here, next_in, none_here, none_in}
use Rattle.class_planes.proofs.FreePlaces.{sought_bit, sought_in, not_sought, bits_here, first_next, is_no_one, no_one}
use Rattle.class_planes.proofs.free_places.first_sought.Goals as goal

pub returns-then-after-ne0 : goal.returns-then-after-ne0
returns-then-after-ne0 c =
    let line : List ℕ = c.args.line.now in
    let free : Bool = c.args.free in
    let from : ℕ = c.args.from in
    let first = c.from-first.ensures in
    let word : ℕ = c.sought_bits.result in
    let fits : word < 2 ^ 64 = Prim.search rules in
    let off : IsFalse (sought_in free line from) = subst (λ b. IsFalse (is_sought free b)) c.is_set.ensures
    (not_sought free c.is_set.result c.if-is_set-free.false) in
    let are : (k : ℕ) → 0 < k → k < 64 → bit_at word k ≡ sought_bit (sought_in free line) (64 * (from / 64) + k) =
    λ k some small. bits_here free line (from / 64) k word small
    (λ small. c.sought_bits.ensures k small ∙ ap (λ n. sought_bit (λ b. is_sought free (b == 1)) (bit_at (get_or line (n / 64) 0) k)) first) in
    subst (IsFirstFree (sought_in free line) from c.args.end) (sym c.min.ensures)
    (first_next (sought_in free line) from c.args.end (from + 1 + c.lowest.result) c.requires.from off
    (next_here (sought_bit (sought_in free line)) from c.lowest.result word c.bits_after-after.result fits are
    c.bits_after-after.ensures c.lowest.ensures.set c.lowest.ensures.none))

pub loop-w-init : goal.loop-w-init
loop-w-init c =
    let line : List ℕ = c.args.line.now in
    let free : Bool = c.args.free in
    let from : ℕ = c.args.from in
    let first = c.from-first.ensures in
    let word : ℕ = c.sought_bits.result in
    let are : (k : ℕ) → 0 < k → k < 64 → bit_at word k ≡ sought_bit (sought_in free line) (64 * (from / 64) + k) =
    λ k some small. bits_here free line (from / 64) k word small
    (λ small. c.sought_bits.ensures k small ∙ ap (λ n. sought_bit (λ b. is_sought free (b == 1)) (bit_at (get_or line (n / 64) 0) k)) first) in
    record {
      beyond = omega (arith, first);
      none = λ i past below. is_no_one (sought_in free line i)
          (none_here (sought_bit (sought_in free line)) from word c.bits_after-after.result are c.bits_after-after.ensures
          c.if-after-ne0.false i past (omega (arith, below, first)));
    }

pub returns-then-word-ne0 : goal.returns-then-word-ne0
returns-then-word-ne0 c =
    let line : List ℕ = c.args.line.now in
    let free : Bool = c.args.free in
    let from : ℕ = c.args.from in
    let w : ℕ = c.loop-w.w in
    let word : ℕ = c.sought_bits-word.result in
    let beyond = c.loop-w.invariant.beyond in
    let off : IsFalse (sought_in free line from) = subst (λ b. IsFalse (is_sought free b)) c.is_set.ensures
    (not_sought free c.is_set.result c.if-is_set-free.false) in
    subst (IsFirstFree (sought_in free line) from c.args.end) (sym c.min-then-word-ne0.ensures)
    (first_next (sought_in free line) from c.args.end (64 * w + c.lowest-then-word-ne0.result) c.requires.from off
    (next_in (sought_bit (sought_in free line)) from w c.lowest-then-word-ne0.result word c.lowest-then-word-ne0.ensures.small
    (omega (arith, beyond))
    (λ i past below. no_one (sought_in free line i) (c.loop-w.invariant.none i past below))
    (λ k small some. bits_here free line w k word small (c.sought_bits-word.ensures k))
    c.lowest-then-word-ne0.ensures.set c.lowest-then-word-ne0.ensures.none))

pub loop-w-preserved : goal.loop-w-preserved
loop-w-preserved c =
    let line : List ℕ = c.args.line.now in
    let free : Bool = c.args.free in
    let beyond = c.loop-w.invariant.beyond in
    record {
      beyond = omega (arith, beyond);
      none = λ i past below. is_no_one (sought_in free line i)
          (none_in (sought_bit (sought_in free line)) c.args.from c.loop-w.w c.sought_bits-word.result (omega (arith, beyond))
          (λ i past below. no_one (sought_in free line i) (c.loop-w.invariant.none i past below))
          (λ k small some. bits_here free line c.loop-w.w k c.sought_bits-word.result small (c.sought_bits-word.ensures k))
          c.if-word-ne0.false i past below);
    }
