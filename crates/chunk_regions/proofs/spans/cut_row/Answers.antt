use Rattle.std.proofs.Common.{List, ◌-◌, ◌∙◌, ◌∷◌, [], ap, bit_xor, refl, sym, subst, arith, length}
use Rattle.std.specs.Prelude.{slice_get}
use Rattle.std.proofs.lemmas.Nat.{shl_whole}
use Rattle.chunk_regions.specs.declared.spans.Span.{Span}
use Rattle.chunk_regions.proofs.BitLemmas.{IsTaken}
use Rattle.chunk_regions.proofs.RowLemmas.{IsCutBelow, IsCutBelow-start, IsCutBelow-open, IsCutBelow-push, IsCutBelow-end}
use Rattle.nav_types.proofs.Items.{slice_get-before}
use Rattle.chunk_regions.proofs.spans.cut_row.Goals as goal

pub loop-edges-init : goal.loop-edges-init
loop-edges-init c =
    let bits = c.args.bits in
    let spans = c.args.spans.now.items in
    record {
      kept = λ k less. refl;
      cut = subst (λ above. IsCutBelow bits (length spans) spans (bit_xor bits above)) (sym (shl_whole bits 96 1 128 c.requires.few (omega arith))) (IsCutBelow-start bits spans c.requires.few);
    }

pub take_lowest-end-requires-clause-some : goal.take_lowest-end-requires-clause-some
take_lowest-end-requires-clause-some c =
    let one = c.take_lowest-first in
    let first : IsTaken c.loop-edges.edges one.result one.new.bits = record { set = one.ensures.set; lowest = one.ensures.lowest; taken = one.ensures.taken; others = one.ensures.others } in
    IsCutBelow-open c.args.bits (length c.args.spans.now.items) c.loop-edges.spans.items c.loop-edges.edges one.result one.new.bits c.requires.few c.loop-edges.invariant.cut first

pub loop-edges-preserved : goal.loop-edges-preserved
loop-edges-preserved c =
    let before = c.loop-edges.invariant in
    let bits = c.args.bits in
    let from = length c.args.spans.now.items in
    let old = c.loop-edges.spans.items in
    let one = c.take_lowest-first in
    let other = c.take_lowest-end in
    let first : IsTaken c.loop-edges.edges one.result one.new.bits = record { set = one.ensures.set; lowest = one.ensures.lowest; taken = one.ensures.taken; others = one.ensures.others } in
    let last : IsTaken one.new.bits other.result other.new.bits = record { set = other.ensures.set; lowest = other.ensures.lowest; taken = other.ensures.taken; others = other.ensures.others } in
    let less = one.ensures.less in
    let lesser = other.ensures.less in
    let next = IsCutBelow-push bits from old c.loop-edges.edges one.result one.new.bits other.result other.new.bits c.requires.few before.cut first last (omega arith) in
    let order = next.order in
    let span : Span = record { first = one.result; last = other.result - 1 } in
    record {
      kept = λ k less. ap (λ (items : List Span). slice_get items k) c.in_ok-push.ensures.items ∙ slice_get-before old (span ∷ []) k (omega (arith, before.cut.cut.longer)) ∙ before.kept k less;
      cut = subst (λ (items : List Span). IsCutBelow bits from items other.new.bits) (sym c.in_ok-push.ensures.items) (next.cut span refl (omega arith));
    }

pub returns-clause-cut : goal.returns-clause-cut
returns-clause-cut c =
    IsCutBelow-end c.args.bits (length c.args.spans.now.items) c.loop-edges.spans.items c.loop-edges.edges (omega (arith, c.loop-edges-test.false)) c.loop-edges.invariant.cut
