use Rattle.std.proofs.Common.{ℕ, ◌≡◌, ◌+◌, ◌-◌, ◌∙◌, List, length, map, take, ap, sym, subst, arith}
use Rattle.std.specs.Vec.{with_items}
use Rattle.std.proofs.lemmas.List.{take_all, with_items_is}
use Rattle.std.specs.Prelude.{slice_index}
use Rattle.nav_types.specs.declared.cells.Cell.{Cell}
use Rattle.chunk_regions.specs.inner.Spans.{region_of}
use Rattle.chunk_regions.specs.inner.Joining.{AreUnited, AreBounded, AreGrown, AreGroups, AreNumbers, IsNumbered, number_in}
use Rattle.chunk_regions.proofs.GroupLemmas.{AreGroups-end}
use Rattle.chunk_regions.proofs.RootLemmas.{AreBounded-numbered}
use Rattle.chunk_regions.proofs.label_spans.number_all.Goals as goal

pub number_row-requires : goal.number_row-requires
number_row-requires c =
    let kept = c.loop-row.invariant in
    record {
      here = c.loop-row-test.true;
      column = c.requires.column;
      row = c.requires.row;
      south = kept.south;
      start = kept.start;
      room = kept.room;
      grown = kept.grown;
      united = kept.united;
    }

pub loop-row-preserved : goal.loop-row-preserved
loop-row-preserved c =
    let kept = c.loop-row.invariant in
    let here : c.loop-row.row ≡ c.loop-row.row + 1 - 1 = omega arith in
    record {
      south = subst (λ k. c.loop-row.start ≡ slice_index c.args.rows.now.starts k) here kept.start;
      start = c.in_ok-end.ensures.end;
      room = c.number_row.ensures.length ∙ kept.room;
      grown = c.in_ok-end.ensures.grown;
      united = c.in_ok-end.ensures.united;
      groups = λ passes cut. c.in_ok-end.ensures.groups passes cut (kept.groups passes cut);
    }

pub returns-clause-bounded : goal.returns-clause-bounded
returns-clause-bounded c =
    let runs = c.args.rows.now in
    let regions = c.loop-row.all.regions.items in
    let firsts = c.loop-row.all.firsts.items in
    let links = c.loop-row.all.links.items in
    let numbers = c.number_regions.new.links in
    let roots = c.in_ok-firsts.firsts.items in
    let kept = c.loop-row.invariant in
    let end : c.loop-row.row ≡ 96 = omega (arith, c.loop-row-test.false, c.loop-row.auto.row-end) in
    let last : c.loop-row.start ≡ length runs.spans = kept.start ∙ ap (λ k. slice_index runs.starts k) end ∙ c.len.ensures.are.all in
    let whole : take c.loop-row.start regions ≡ regions = take_all c.loop-row.start regions (omega (arith, last, kept.room)) in
    let named_links : (with_items c.loop-row.all.links numbers).items ≡ numbers =
    with_items_is c.loop-row.all.links numbers (c.number_regions.auto.links ∙ c.deref_mut.ensures.len) in
    let new = c.number_spans.new.regions in
    let made : (with_items c.loop-row.all.regions new).items ≡ map (number_in numbers) regions =
    with_items_is c.loop-row.all.regions new (c.number_spans.auto.regions ∙ c.deref_mut-2.ensures.len)
    ∙ c.number_spans.ensures
    ∙ ap (λ (ns : List ℕ). map (number_in ns) c.deref_mut-2.result.now) (c.deref-2.ensures.value ∙ named_links)
    ∙ ap (λ (ns : List ℕ). map (number_in numbers) ns) c.deref_mut-2.ensures.value in
    let named : AreNumbers firsts links numbers roots (length links) =
    subst (λ (ns : List ℕ). AreNumbers firsts ns numbers roots (length ns)) c.deref_mut.ensures.value
    (subst (λ (cells : List Cell). AreNumbers cells c.deref_mut.result.now numbers roots (length c.deref_mut.result.now)) c.deref.ensures.value c.in_ok-firsts.ensures.numbers) in
    subst (λ (ns : List ℕ). AreBounded ns roots) (sym made)
    (AreBounded-numbered regions firsts links numbers roots (subst (λ (ns : List ℕ). AreGrown ns firsts links) whole kept.grown) named)

pub returns-clause-numbered : goal.returns-clause-numbered
returns-clause-numbered c = λ passes cut.
    let chunk = c.args.chunk in
    let runs = c.args.rows.now in
    let regions = c.loop-row.all.regions.items in
    let firsts = c.loop-row.all.firsts.items in
    let links = c.loop-row.all.links.items in
    let numbers = c.number_regions.new.links in
    let roots = c.in_ok-firsts.firsts.items in
    let kept = c.loop-row.invariant in
    let end : c.loop-row.row ≡ 96 = omega (arith, c.loop-row-test.false, c.loop-row.auto.row-end) in
    let last : c.loop-row.start ≡ length runs.spans = kept.start ∙ ap (λ k. slice_index runs.starts k) end ∙ c.len.ensures.are.all in
    let whole : take c.loop-row.start regions ≡ regions = take_all c.loop-row.start regions (omega (arith, last, kept.room)) in
    let named_links : (with_items c.loop-row.all.links numbers).items ≡ numbers =
    with_items_is c.loop-row.all.links numbers (c.number_regions.auto.links ∙ c.deref_mut.ensures.len) in
    let new = c.number_spans.new.regions in
    let made : (with_items c.loop-row.all.regions new).items ≡ map (number_in numbers) regions =
    with_items_is c.loop-row.all.regions new (c.number_spans.auto.regions ∙ c.deref_mut-2.ensures.len)
    ∙ c.number_spans.ensures
    ∙ ap (λ (ns : List ℕ). map (number_in ns) c.deref_mut-2.result.now) (c.deref-2.ensures.value ∙ named_links)
    ∙ ap (λ (ns : List ℕ). map (number_in numbers) ns) c.deref_mut-2.ensures.value in
    let named : AreNumbers firsts links numbers roots (length links) =
    subst (λ (ns : List ℕ). AreNumbers firsts ns numbers roots (length ns)) c.deref_mut.ensures.value
    (subst (λ (cells : List Cell). AreNumbers cells c.deref_mut.result.now numbers roots (length c.deref_mut.result.now)) c.deref.ensures.value c.in_ok-firsts.ensures.numbers) in
    let united = subst (λ k. AreUnited runs (take k regions) links k) last kept.united in
    let all : take (length runs.spans) regions ≡ regions = ap (λ k. take k regions) (sym last) ∙ whole in
    subst (λ (ns : List ℕ). IsNumbered passes (region_of chunk runs ns) roots) (sym made)
    (AreGroups-end passes chunk runs regions firsts links numbers roots cut kept.room kept.grown.each
    (subst (λ (ns : List ℕ). AreUnited runs ns links (length runs.spans)) all united) named
    (subst (λ (ns : List ℕ). AreGroups passes chunk runs ns firsts links) whole (kept.groups passes cut)))
