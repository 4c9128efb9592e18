use Rattle.std.proofs.Common.{ℕ, ◌≡◌, ◌≤◌, ◌+◌, ◌-◌, ◌∙◌, List, length, take, inl, inr, ap, sym, subst, arith}
use Rattle.std.specs.Prelude.{slice_index}
use Rattle.std.specs.Vec.{with_items}
use Rattle.std.proofs.lemmas.Bool.{cases_lt}
use Rattle.std.proofs.lemmas.Grind.{get_or_default_zero}
use Rattle.std.proofs.lemmas.List.{get_or-take, length-take-le, with_items_is}
use Rattle.chunk_regions.specs.declared.label_spans.Place.{Place}
use Rattle.chunk_regions.specs.inner.Joining.{LeadDown, IsRoot, AreJoined, AreShared, AreGrown, AreGroups, IsNewest}
use Rattle.chunk_regions.proofs.GroupLemmas.{AreGroups-joined, overlap_from, overlaps_before}
use Rattle.chunk_regions.proofs.LinkLemmas.{AreGrown-linked, AreJoined-count, AreJoined-down, AreJoined-kept, AreJoined-other, AreJoined-region, AreJoined-root}
use Rattle.chunk_regions.proofs.label_spans.join_rest.Goals as goal

pub returns-then-last-span-clause-newest : goal.returns-then-last-span-clause-newest
returns-then-last-span-clause-newest c =
    let runs = c.args.rows.now in
    let south = c.loop-south.south in
    let low = c.loop-south.auto.south in
    let from = c.requires.from in
    let newest = c.loop-south.invariant.newest in
    record {
      root = newest.root;
      met = λ s o to. newest.met s o
          (overlaps_before runs c.span.ensures.are s c.args.place south c.span.result c.span-last.result o c.span-last.ensures.value c.span.ensures.value c.if-last-span.true (omega arith));
    }

pub returns-clause-newest : goal.returns-clause-newest
returns-clause-newest c =
    let newest = c.loop-south.invariant.newest in
    let past = c.loop-south-test.false in
    record { root = newest.root; met = λ s o to. newest.met s o (omega arith) }

pub index-requires : goal.index-requires
index-requires c =
    let count = ap (λ (ns : List ℕ). length ns) c.loop-south.invariant.regions in
    let below = c.loop-south-test.true in
    let end = c.requires.end in
    let here = c.requires.place.from in
    let room = c.requires.room in
    omega arith

pub join-region-requires-clause-root : goal.join-region-requires-clause-root
join-region-requires-clause-root c = subst (λ (ns : List ℕ). IsRoot ns c.loop-south.region) (sym c.deref_mut.ensures.value) c.loop-south.invariant.newest.root

pub join-region-requires-clause-down : goal.join-region-requires-clause-down
join-region-requires-clause-down c = subst (λ (ns : List ℕ). LeadDown ns) (sym c.deref_mut.ensures.value) c.loop-south.invariant.grown.down

pub join-region-requires-clause-some : goal.join-region-requires-clause-some
join-region-requires-clause-some c =
    let kept = c.loop-south.invariant in
    let items = c.args.all.now.regions.items in
    let at = c.args.place.at in
    let regions = take at items in
    let south = c.loop-south.south in
    let below = c.loop-south-test.true in
    let end = c.requires.end in
    let here = c.requires.place.from in
    let room = c.requires.room in
    let whole : length regions ≡ at = length-take-le at items (omega arith) in
    let count = ap (λ (ns : List ℕ). length ns) kept.regions in
    let is : c.index.result.now ≡ slice_index regions south = c.index.ensures
    ∙ get_or_default_zero c.loop-south.all.regions.items south c.index.result.now (omega arith)
    ∙ ap (λ (ns : List ℕ). slice_index ns south) kept.regions ∙ sym (get_or-take at items south 0 (omega arith)) in
    let was = kept.grown.bounded.within south (omega arith) in
    let least = was.0 in
    omega arith

pub join-region-requires-clause-known : goal.join-region-requires-clause-known
join-region-requires-clause-known c =
    let kept = c.loop-south.invariant in
    let items = c.args.all.now.regions.items in
    let at = c.args.place.at in
    let regions = take at items in
    let south = c.loop-south.south in
    let below = c.loop-south-test.true in
    let end = c.requires.end in
    let here = c.requires.place.from in
    let room = c.requires.room in
    let whole : length regions ≡ at = length-take-le at items (omega arith) in
    let count = ap (λ (ns : List ℕ). length ns) kept.regions in
    let is : c.index.result.now ≡ slice_index regions south = c.index.ensures
    ∙ get_or_default_zero c.loop-south.all.regions.items south c.index.result.now (omega arith)
    ∙ ap (λ (ns : List ℕ). slice_index ns south) kept.regions ∙ sym (get_or-take at items south 0 (omega arith)) in
    let was = kept.grown.bounded.within south (omega arith) in
    let most = was.1 in
    let each = kept.grown.each in
    let value = ap (λ (ns : List ℕ). length ns) c.deref_mut.ensures.value in
    omega arith

pub loop-south-preserved : goal.loop-south-preserved
loop-south-preserved c =
    let kept = c.loop-south.invariant in
    let runs = c.args.rows.now in
    let place = c.args.place in
    let south = c.loop-south.south in
    let region = c.loop-south.region in
    let items = c.args.all.now.regions.items in
    let regions = take place.at items in
    let firsts = c.args.all.now.firsts.items in
    let links = c.loop-south.all.links.items in
    let new = c.join-region.new.links in
    let earlier = c.join-region.result in
    let room = c.requires.room in
    let low = c.loop-south.auto.south in
    let below = c.loop-south-test.true in
    let from = c.requires.from in
    let end = c.requires.end in
    let here = c.requires.place.from in
    let whole : length regions ≡ place.at = length-take-le place.at items (omega arith) in
    let other : ℕ = slice_index regions south in
    let count = ap (λ (ns : List ℕ). length ns) kept.regions in
    let same_items : c.index.result.now ≡ other = c.index.ensures
    ∙ get_or_default_zero c.loop-south.all.regions.items south c.index.result.now (omega arith)
    ∙ ap (λ (ns : List ℕ). slice_index ns south) kept.regions
    ∙ sym (get_or-take place.at items south 0 (omega arith)) in
    let j : AreJoined links region other new earlier = subst (λ (ns : List ℕ). AreJoined ns region other new earlier) c.deref_mut.ensures.value
    (subst (λ n. AreJoined c.deref_mut.result.now region n new earlier) same_items c.join-region.ensures) in
    let same : (with_items c.loop-south.all.links new).items ≡ new = with_items_is c.loop-south.all.links new (c.join-region.auto.links ∙ c.deref_mut.ensures.len) in
    let root = kept.newest.root in
    let within = kept.grown.bounded.within south (omega arith) in
    let each = kept.grown.each in
    let least = within.0 in
    let most = within.1 in
    let known : other ≤ length links = omega arith in
    let o = overlap_from runs c.span.ensures.are place south c.span.result c.span-last.result c.requires.place c.span.ensures.value c.span-last.ensures.value
    (omega arith) (omega arith) c.if-last-span.false (c.requires.reach c.span-last.result c.span-last.ensures.value south c.span.result low below c.span.ensures.value) in
    let before : Place = record { row = place.row - 1; at = south } in
    record {
      regions = kept.regions;
      firsts = kept.firsts;
      grown = subst (λ (ns : List ℕ). AreGrown regions firsts ns) (sym same)
          (AreGrown-linked regions firsts links new (AreJoined-count links region other new earlier j) (AreJoined-down links region other new earlier root kept.grown.down j) kept.grown);
      kept = λ number shared. kept.kept number (AreJoined-kept links region other new earlier root j number (subst (λ (ns : List ℕ). AreShared ns number) same shared));
      newest = subst (λ (ns : List ℕ). IsNewest runs regions ns place earlier (south + 1)) (sym same)
          (record {
            root = AreJoined-root links region other new earlier root j;
            met = λ s over to number shared. elim (cases_lt s.at south) [
              | inl less ↦
                  kept.newest.met s over less number (AreJoined-kept links region other new earlier root j number shared)
                  ∙ AreJoined-region links region other new earlier root j number shared
              | inr more ↦
                  let at : s.at ≡ south = omega arith in
                  ap (λ k. number (slice_index regions k)) at ∙ AreJoined-other links region other new earlier root kept.grown.down least known j number shared
            ];
          });
      groups = λ chunk passes cut g own.
          let was = kept.groups chunk passes cut g own in
          let now = AreGroups-joined passes chunk runs regions firsts links before place region new earlier cut o (omega arith) root j was.0 was.1 in
          (subst (λ (ns : List ℕ). AreGroups passes chunk runs regions firsts ns) (sym same) now.0, now.1);
    }
