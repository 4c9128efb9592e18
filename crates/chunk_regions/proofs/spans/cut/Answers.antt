use Rattle.std.proofs.Common.{ℕ, List, ◌≡◌, ◌+◌, ◌∙◌, ◌∷◌, [], ◌++◌, ap, sym, subst, arith, length}
use Rattle.std.specs.Int.{bit_at}
use Rattle.chunk_regions.specs.declared.spans.Span.{Span}
use Rattle.chunk_regions.specs.inner.Spans.{IsCutTo, IsRowTo, bits_at}
use Rattle.chunk_regions.proofs.RowLemmas.{IsCutTo-start, IsCutTo-row, IsCutTo-end}
use Rattle.chunk_regions.proofs.spans.cut.Goals as goal

pub loop-row-init : goal.loop-row-init
loop-row-init c =
    let starts : c.push.new.self.items ≡ 0 ∷ [] = c.in_ok-push.ensures.items ∙ ap (λ (ns : List ℕ). ns ++ 0 ∷ []) c.in_ok-starts.ensures.items in
    subst (λ (ns : List ℕ). IsCutTo (bits_at c.args.bits.now) ns c.in_ok-spans.spans.items 0) (sym starts)
    (subst (λ (spans : List Span). IsCutTo (bits_at c.args.bits.now) (0 ∷ []) spans 0) (sym c.in_ok-spans.ensures.items) (IsCutTo-start (bits_at c.args.bits.now)))

pub overflow_cast-len : goal.overflow_cast-len
overflow_cast-len c =
    let before = c.loop-row.invariant.few in
    let row = c.in_ok-cut_row.ensures.cut.few in
    let value = c.len.ensures in
    let count = c.cut_row.new.spans.ok.0 in
    let here = c.loop-row-test.true in
    omega arith

pub loop-row-preserved : goal.loop-row-preserved
loop-row-preserved c =
    let bits = c.args.bits.now in
    let old = c.loop-row.spans.items in
    let new = c.cut_row.new.spans.items in
    let row = c.loop-row.row in
    let cut = subst (λ b. IsRowTo (bit_at b) (length old) new 97) c.row.ensures.value c.in_ok-cut_row.ensures.cut in
    let grown = IsCutTo-row (bits_at bits) c.loop-row.starts.items old new row c.loop-row.invariant c.cut_row.ensures.kept cut in
    let count : c.len.result ≡ length new = c.len.ensures ∙ c.cut_row.new.spans.ok.0 in
    let starts : c.push-in-loop-row.new.self.items ≡ c.loop-row.starts.items ++ length new ∷ [] =
    c.in_ok-push-2.ensures.items ∙ ap (λ k. c.loop-row.starts.items ++ k ∷ []) count in
    subst (λ (ns : List ℕ). IsCutTo (bits_at bits) ns new (row + 1)) (sym starts) grown

pub invariant_of-result : goal.invariant_of-result
invariant_of-result c =
    (IsCutTo-end (bits_at c.args.bits.now) c.loop-row.starts.items c.loop-row.spans.items c.loop-row.row (omega (arith, c.loop-row-test.false, c.loop-row.auto.row-end)) c.loop-row.invariant).are

pub returns : goal.returns
returns c =
    IsCutTo-end (bits_at c.args.bits.now) c.loop-row.starts.items c.loop-row.spans.items c.loop-row.row (omega (arith, c.loop-row-test.false, c.loop-row.auto.row-end)) c.loop-row.invariant
