use Rattle.std.proofs.Common.{ℕ, List, ◌≡◌, ◌+◌, ◌∙◌, ◌∷◌, [], ◌++◌, ap, inl, inr, refl, sym, subst, arith, length}
use Rattle.std.specs.Int.{bit_at}
use Rattle.chunk_regions.specs.declared.spans.Span.{Span}
use Rattle.chunk_regions.specs.inner.Spans.{IsCutTo, set_anew}
use Rattle.chunk_regions.proofs.CopyLemmas.{IsRowTo-same, set_anew-other, set_anew-here}
use Rattle.chunk_regions.proofs.RowLemmas.{IsCutTo-start, IsCutTo-row, IsCutTo-end}
use Rattle.chunk_regions.proofs.spans.cut_anew.Goals as goal

pub copy_rows-requires-clause-few : goal.copy_rows-requires-clause-few
copy_rows-requires-clause-few c =
    let none : length c.in_ok-spans.spans.items ≡ 0 = ap (λ (spans : List Span). length spans) c.in_ok-spans.ensures.items in
    omega arith

pub loop-row-init : goal.loop-row-init
loop-row-init c =
    let before = c.args.before.now in
    let from = c.args.from in
    let to = c.args.to in
    let bits = c.args.bits.now in
    let on = set_anew before from to bits in
    let starts : c.push.new.self.items ≡ 0 ∷ [] = c.in_ok-push.ensures.items ∙ ap (λ (ns : List ℕ). ns ++ 0 ∷ []) c.in_ok-starts.ensures.items in
    let begun = subst (λ (ns : List ℕ). IsCutTo on ns c.in_ok-spans.spans.items 0) (sym starts)
    (subst (λ (spans : List Span). IsCutTo on (0 ∷ []) spans 0) (sym c.in_ok-spans.ensures.items) (IsCutTo-start on)) in
    c.in_ok-copy_rows.ensures on begun (λ row column low high. set_anew-other before from to bits row column (inl high))

pub overflow_cast-len : goal.overflow_cast-len
overflow_cast-len c =
    let before = c.loop-row.invariant.few in
    let row = c.in_ok-cut_row.ensures.cut.few in
    let value = c.len-in-loop-row.ensures in
    let count = c.cut_row.new.spans.ok.0 in
    let here = c.loop-row-test.true in
    let within = c.requires.within in
    omega arith

pub loop-row-preserved : goal.loop-row-preserved
loop-row-preserved c =
    let before = c.args.before.now in
    let from = c.args.from in
    let to = c.args.to in
    let bits = c.args.bits.now in
    let on = set_anew before from to bits in
    let old = c.loop-row.spans.items in
    let new = c.cut_row.new.spans.items in
    let row = c.loop-row.row in
    let low = c.loop-row.auto.row in
    let high = c.loop-row-test.true in
    let cut = IsRowTo-same (bit_at c.row.result) (on row) (length old) new 97
    (λ x. ap (λ (b : ℕ). bit_at b x) c.row.ensures.value ∙ sym (set_anew-here before from to bits row x low high)) c.in_ok-cut_row.ensures.cut in
    let grown = IsCutTo-row on c.loop-row.starts.items old new row c.loop-row.invariant c.cut_row.ensures.kept cut in
    let count : c.len-in-loop-row.result ≡ length new = c.len-in-loop-row.ensures ∙ c.cut_row.new.spans.ok.0 in
    let starts : c.push-in-loop-row.new.self.items ≡ c.loop-row.starts.items ++ length new ∷ [] =
    c.in_ok-push-2.ensures.items ∙ ap (λ (k : ℕ). c.loop-row.starts.items ++ k ∷ []) count in
    subst (λ (ns : List ℕ). IsCutTo on ns new (row + 1)) (sym starts) grown

pub copy_rows-requires-2-clause-few : goal.copy_rows-requires-2-clause-few
copy_rows-requires-2-clause-few c =
    let few = c.loop-row.invariant.few in
    let done : c.loop-row.row ≡ c.args.to = omega (arith, c.loop-row-test.false, c.loop-row.auto.row-end) in
    omega arith

pub invariant_of-result : goal.invariant_of-result
invariant_of-result c =
    let before = c.args.before.now in
    let from = c.args.from in
    let to = c.args.to in
    let bits = c.args.bits.now in
    let on = set_anew before from to bits in
    let done : c.loop-row.row ≡ to = omega (arith, c.loop-row-test.false, c.loop-row.auto.row-end) in
    let here = subst (λ (r : ℕ). IsCutTo on c.loop-row.starts.items c.loop-row.spans.items r) done c.loop-row.invariant in
    let all = c.in_ok-copy_rows-2.ensures on here (λ row column low high. set_anew-other before from to bits row column (inr low)) in
    (IsCutTo-end on c.copy_rows-2.new.starts.items c.copy_rows-2.new.spans.items 96 refl all).are

pub returns-clause-runs : goal.returns-clause-runs
returns-clause-runs c =
    let before = c.args.before.now in
    let from = c.args.from in
    let to = c.args.to in
    let bits = c.args.bits.now in
    let on = set_anew before from to bits in
    let done : c.loop-row.row ≡ to = omega (arith, c.loop-row-test.false, c.loop-row.auto.row-end) in
    let here = subst (λ (r : ℕ). IsCutTo on c.loop-row.starts.items c.loop-row.spans.items r) done c.loop-row.invariant in
    let all = c.in_ok-copy_rows-2.ensures on here (λ row column low high. set_anew-other before from to bits row column (inr low)) in
    IsCutTo-end on c.copy_rows-2.new.starts.items c.copy_rows-2.new.spans.items 96 refl all
