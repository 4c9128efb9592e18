use Rattle.std.proofs.Common.{ℕ, ◌≡◌, ◌<◌, ◌≤◌, ◌+◌, ◌-◌, ◌*◌, ◌∷◌, [], ◌++◌, ◌∙◌, List, length, take, set, ap, sym, subst, arith}
use Rattle.std.specs.Prelude.{slice_index}
use Rattle.std.proofs.lemmas.Grind.{get_or_default_zero}
use Rattle.std.proofs.lemmas.List.{get_or-take, length-take-le, take_more_set}
use Rattle.nav_types.specs.declared.cells.Cell.{Cell}
use Rattle.nav_types.specs.Cells.{cell_at}
use Rattle.chunk_regions.specs.declared.label_spans.Place.{Place}
use Rattle.chunk_regions.specs.inner.Joining.{Overlap, follow, IsRootOf, MeetsTo, AreUnited, AreGrown, AreGroups}
use Rattle.chunk_regions.proofs.GroupLemmas.{AreGroups-begin, AreGroups-next, AreOf-led, AreUnited-kept, AreUnited-next, overlap_from, overlap_to, overlaps_before}
use Rattle.chunk_regions.proofs.LinkLemmas.{AreGrown-begin, AreGrown-next, KeepsShared-begin, root_one}
use Rattle.chunk_regions.proofs.label_spans.number_span.Goals.{then-south-end-via-then-south-end, then-south-end-via-else-south-end+then-span}
use Rattle.chunk_regions.proofs.label_spans.number_span.Goals as goal

pub returns-then-south-end-clause-grown : goal.returns-then-south-end-clause-grown
returns-then-south-end-clause-grown c =
    let regions = take c.args.place.at c.args.all.now.regions.items in
    let firsts = c.args.all.now.firsts.items in
    let n = length firsts + 1 in
    let cell = cell_at (96 * c.args.chunk.ci + c.span-span.result.first) (96 * c.args.chunk.cj + c.args.place.row) in
    subst (λ (ns : List ℕ). AreGrown ns c.begin.new.all.firsts.items c.begin.new.all.links.items) (sym c.in_ok-begin.ensures.regions)
    (subst (λ (cells : List Cell). AreGrown (regions ++ n ∷ []) cells c.begin.new.all.links.items) (sym c.in_ok-begin.ensures.firsts)
    (subst (λ (links : List ℕ). AreGrown (regions ++ n ∷ []) (firsts ++ cell ∷ []) links) (sym c.in_ok-begin.ensures.links)
    (AreGrown-begin regions firsts c.args.all.now.links.items cell c.requires.grown)))

pub returns-then-south-end-clause-united : goal.returns-then-south-end-clause-united
returns-then-south-end-clause-united c =
    let runs = c.args.rows.now in
    let items = c.args.all.now.regions.items in
    let regions = take c.args.place.at items in
    let count : length regions ≡ c.args.place.at = length-take-le c.args.place.at items (omega arith) in
    let place = c.args.place in
    let are = c.span-span.ensures.are in
    let links = c.args.all.now.links.items in
    let n = length c.args.all.now.firsts.items + 1 in
    let end = c.requires.end in
    let none : (s : Place) → Overlap runs s place → ⊥ = λ s o.
    let from = c.requires.passed s o in
    let to = overlap_to runs s place o in
    elim c.then-south-end.branch [
      | then-south-end-via-then-south-end w ↦ let last = w.if-south-end.true in omega arith
      | then-south-end-via-else-south-end+then-span w ↦
          let before = overlaps_before runs are s place c.args.south w.span.result c.span-span.result o c.span-span.ensures.value w.span.ensures.value w.if-span.true
          c.requires.from in
          omega arith
    ] in
    let kept = AreUnited-kept runs regions links (links ++ n ∷ []) place.at (KeepsShared-begin links n) c.requires.united in
    subst (λ (ns : List ℕ). AreUnited runs ns c.begin.new.all.links.items (place.at + 1)) (sym c.in_ok-begin.ensures.regions)
    (subst (λ (ns : List ℕ). AreUnited runs (regions ++ n ∷ []) ns (place.at + 1)) (sym c.in_ok-begin.ensures.links)
    (AreUnited-next runs regions (links ++ n ∷ []) place n are c.requires.place count kept (λ s o to. absurd (none s o))))

pub returns-then-south-end-clause-groups : goal.returns-then-south-end-clause-groups
returns-then-south-end-clause-groups c = λ passes cut groups.
    let runs = c.args.rows.now in
    let chunk = c.args.chunk in
    let items = c.args.all.now.regions.items in
    let regions = take c.args.place.at items in
    let count : length regions ≡ c.args.place.at = length-take-le c.args.place.at items (omega arith) in
    let firsts = c.args.all.now.firsts.items in
    let links = c.args.all.now.links.items in
    let place = c.args.place in
    let span = c.span-span.result in
    let n = length firsts + 1 in
    let cell = cell_at (96 * chunk.ci + span.first) (96 * chunk.cj + place.row) in
    subst (λ (ns : List ℕ). AreGroups passes chunk runs ns c.begin.new.all.firsts.items c.begin.new.all.links.items) (sym c.in_ok-begin.ensures.regions)
    (subst (λ (cells : List Cell). AreGroups passes chunk runs (regions ++ n ∷ []) cells c.begin.new.all.links.items) (sym c.in_ok-begin.ensures.firsts)
    (subst (λ (ns : List ℕ). AreGroups passes chunk runs (regions ++ n ∷ []) (firsts ++ cell ∷ []) ns) (sym c.in_ok-begin.ensures.links)
    (AreGroups-begin passes chunk runs regions firsts links place span cut c.requires.place c.span-span.ensures.value count c.requires.grown.each groups)))

pub root-region-requires-clause-some : goal.root-region-requires-clause-some
root-region-requires-clause-some c =
    let items = c.args.all.now.regions.items in
    let at = c.args.place.at in
    let regions = take at items in
    let count : length regions ≡ at = length-take-le at items (omega arith) in
    let south = c.args.south in
    let end = c.requires.end in
    let to = c.requires.to in
    let here = c.requires.place.from in
    let apart = c.if-south-end.false in
    let room = c.requires.room in
    let before : south < at = omega arith in
    let n = c.index.result.now in
    let is : n ≡ slice_index regions south = c.index.ensures ∙ get_or_default_zero items south n (omega arith)
    ∙ sym (get_or-take at items south 0 (omega arith)) in
    let was = c.requires.grown.bounded.within south (omega arith) in
    let least = was.0 in
    let most = was.1 in
    let each = c.requires.grown.each in
    omega arith

pub root-region-requires-clause-known : goal.root-region-requires-clause-known
root-region-requires-clause-known c =
    let items = c.args.all.now.regions.items in
    let at = c.args.place.at in
    let regions = take at items in
    let count : length regions ≡ at = length-take-le at items (omega arith) in
    let south = c.args.south in
    let end = c.requires.end in
    let to = c.requires.to in
    let here = c.requires.place.from in
    let apart = c.if-south-end.false in
    let room = c.requires.room in
    let before : south < at = omega arith in
    let n = c.index.result.now in
    let is : n ≡ slice_index regions south = c.index.ensures ∙ get_or_default_zero items south n (omega arith)
    ∙ sym (get_or-take at items south 0 (omega arith)) in
    let was = c.requires.grown.bounded.within south (omega arith) in
    let least = was.0 in
    let most = was.1 in
    let each = c.requires.grown.each in
    let value = ap (λ (ns : List ℕ). length ns) c.deref.ensures.value in
    omega arith

pub join_rest-region-requires-clause-newest : goal.join_rest-region-requires-clause-newest
join_rest-region-requires-clause-newest c =
    let items = c.args.all.now.regions.items in
    let at = c.args.place.at in
    let regions = take at items in
    let count : length regions ≡ at = length-take-le at items (omega arith) in
    let south = c.args.south in
    let end = c.requires.end in
    let to = c.requires.to in
    let here = c.requires.place.from in
    let apart = c.if-south-end.false in
    let room = c.requires.room in
    let before : south < at = omega arith in
    let n = c.index.result.now in
    let is : n ≡ slice_index regions south = c.index.ensures ∙ get_or_default_zero items south n (omega arith)
    ∙ sym (get_or-take at items south 0 (omega arith)) in
    let was = c.requires.grown.bounded.within south (omega arith) in
    let least = was.0 in
    let most = was.1 in
    let each = c.requires.grown.each in
    let links = c.args.all.now.links.items in
    let root = subst (λ (ns : List ℕ). IsRootOf ns n c.root-region.result) c.deref.ensures.value c.root-region.ensures in
    let known : n ≤ length links = omega arith in
    record {
      root = root.is;
      met = λ s o to number shared.
          let from = c.requires.passed s o in
          let same : s.at ≡ south = omega arith in
          ap (λ k. number (slice_index regions k)) same ∙ ap number (sym is)
          ∙ root_one links n c.root-region.result c.requires.grown.down (omega arith) known root number shared;
    }

pub returns-clause-grown : goal.returns-clause-grown
returns-clause-grown c =
    let items = c.args.all.now.regions.items in
    let at = c.args.place.at in
    let regions = take at items in
    let n = c.join_rest-region.result in
    let same = c.join_rest-region.ensures.regions in
    let room = c.requires.room in
    let is : take (at + 1) (set c.join_rest-region.new.all.regions.items at n) ≡ regions ++ n ∷ [] =
    ap (λ (ns : List ℕ). take (at + 1) (set ns at n)) same ∙ take_more_set items at n room in
    let firsts = c.args.all.now.firsts.items in
    let links = c.join_rest-region.new.all.links.items in
    let newest = c.join_rest-region.ensures.newest in
    subst (λ (ns : List ℕ). AreGrown ns c.join_rest-region.new.all.firsts.items links) (sym is)
    (subst (λ (cells : List Cell). AreGrown (regions ++ n ∷ []) cells links) (sym c.join_rest-region.ensures.firsts)
    (AreGrown-next regions firsts links n newest.root c.join_rest-region.ensures.grown))

pub returns-clause-united : goal.returns-clause-united
returns-clause-united c =
    let runs = c.args.rows.now in
    let place = c.args.place in
    let items = c.args.all.now.regions.items in
    let at = c.args.place.at in
    let regions = take at items in
    let n = c.join_rest-region.result in
    let same = c.join_rest-region.ensures.regions in
    let room = c.requires.room in
    let is : take (at + 1) (set c.join_rest-region.new.all.regions.items at n) ≡ regions ++ n ∷ [] =
    ap (λ (ns : List ℕ). take (at + 1) (set ns at n)) same ∙ take_more_set items at n room in
    let firsts = c.args.all.now.firsts.items in
    let links = c.join_rest-region.new.all.links.items in
    let newest = c.join_rest-region.ensures.newest in
    let count : length regions ≡ at = length-take-le at items (omega arith) in
    let kept = AreUnited-kept runs regions c.args.all.now.links.items links at c.join_rest-region.ensures.kept c.requires.united in
    subst (λ (ns : List ℕ). AreUnited runs ns links (at + 1)) (sym is)
    (AreUnited-next runs regions links place n c.span-span.ensures.are c.requires.place count kept
    (subst (λ k. MeetsTo runs regions links place n k) c.requires.end newest.met))

pub returns-clause-groups : goal.returns-clause-groups
returns-clause-groups c = λ passes cut groups.
    let runs = c.args.rows.now in
    let chunk = c.args.chunk in
    let place = c.args.place in
    let items = c.args.all.now.regions.items in
    let at = c.args.place.at in
    let regions = take at items in
    let n = c.join_rest-region.result in
    let same = c.join_rest-region.ensures.regions in
    let room = c.requires.room in
    let is : take (at + 1) (set c.join_rest-region.new.all.regions.items at n) ≡ regions ++ n ∷ [] =
    ap (λ (ns : List ℕ). take (at + 1) (set ns at n)) same ∙ take_more_set items at n room in
    let firsts = c.args.all.now.firsts.items in
    let links = c.join_rest-region.new.all.links.items in
    let newest = c.join_rest-region.ensures.newest in
    let old = c.args.all.now.links.items in
    let count : length regions ≡ at = length-take-le at items (omega arith) in
    let south = c.args.south in
    let end = c.requires.end in
    let to = c.requires.to in
    let here = c.requires.place.from in
    let apart = c.if-south-end.false in
    let below : south < c.args.end = omega arith in
    let m = c.index.result.now in
    let value : m ≡ slice_index regions south = c.index.ensures ∙ get_or_default_zero items south m (omega arith)
    ∙ sym (get_or-take at items south 0 (omega arith)) in
    let root = subst (λ (ns : List ℕ). IsRootOf ns m c.root-region.result) c.deref.ensures.value c.root-region.ensures in
    let o = overlap_from runs c.span-span.ensures.are place south c.span.result c.span-span.result c.requires.place c.span.ensures.value c.span-span.ensures.value
    c.requires.from (omega arith) c.if-span.false (c.requires.reach c.span-span.result c.span-span.ensures.value south c.span.result (omega arith) below c.span.ensures.value) in
    let before : Place = record { row = place.row - 1; at = south } in
    let own = AreOf-led passes chunk runs regions firsts old before place root.steps c.root-region.result cut o (omega arith)
    (ap (λ k. follow old root.steps k) (sym value) ∙ root.led) groups in
    let now = c.join_rest-region.ensures.groups chunk passes cut groups own in
    subst (λ (ns : List ℕ). AreGroups passes chunk runs ns c.join_rest-region.new.all.firsts.items links) (sym is)
    (subst (λ (cells : List Cell). AreGroups passes chunk runs (regions ++ n ∷ []) cells links) (sym c.join_rest-region.ensures.firsts)
    (AreGroups-next passes chunk runs regions firsts links place n cut.are c.requires.place count now.1 now.0))
