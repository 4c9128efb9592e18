use Rattle.std.proofs.Common.{◌≡◌, ◌+◌, ◌*◌, ℕ, ap, sym, length, ◌∙◌, arith}
use Rattle.reach_sets.specs.inner.EndMarks.{marked_before}
use Rattle.reach_sets.proofs.EndLemmas.{counts_more}
use Rattle.reach_sets.proofs.MarkLemmas.{before_le, before_next_word}
use Rattle.reach_sets.proofs.marks.counts_before.Goals as goal

pub overflow_cast-count : goal.overflow_cast-count
overflow_cast-count c =
    let loop = c.loop-word in
    omega (arith, loop.invariant.now, before_le c.args.words.now (64 * loop.word-index), c.loop-word-test.true, c.requires)

pub overflow_add-count : goal.overflow_add-count
overflow_add-count c =
    let loop = c.loop-word in let words = c.args.words.now in
    omega (arith, loop.invariant.now, c.from-count.ensures, before_le words (64 * (loop.word-index + 1)), before_next_word words loop.word-index (omega (arith, c.type_inv.words loop.word-index)), c.loop-word-test.true, c.requires)

pub loop-word-preserved : goal.loop-word-preserved
loop-word-preserved c =
    let loop = c.loop-word in let words = c.args.words.now in
    let f : ℕ → ℕ = λ k. marked_before words (64 * k) in
    let pushed = c.push_reserved.ensures in
    let step = counts_more f loop.before.items c.push_reserved.new.self.items loop.count pushed.items (loop.invariant.now ∙ ap f (sym loop.invariant.each)) loop.invariant.counts in
    record {
      each = omega (arith, step.0, loop.invariant.each);
      room = omega (arith, pushed.capacity, loop.invariant.room);
      now = omega (arith, loop.invariant.now, c.from-count.ensures, before_next_word words loop.word-index (omega (arith, c.type_inv.words loop.word-index)));
      counts = step.1;
    }

pub returns : goal.returns
returns c =
    let loop = c.loop-word in
    let long : length loop.before.items ≡ length c.args.words.now = omega (arith, loop.invariant.each, c.loop-word-test.false, loop.auto.word-index-end) in
    record { each = long; counts = λ w low. loop.invariant.counts w (omega (arith, long, low)) }
