-- What each step of the pass over a chunk's spans keeps, and what its end gives.
use Rattle.std.proofs.Common.{ℕ, ◌≡◌, ◌<◌, ◌≤◌, ◌+◌, ◌-◌, ◌*◌, ◌∙◌, Bool, List, [], ◌∷◌, ◌++◌, length, length-append, map, get_or, ap, inl, inr, sym, subst, arith, Some}
use Rattle.std.specs.List.{AllPairs, slice_get}
use Rattle.std.specs.Prelude.{slice_index}
use Rattle.std.proofs.lemmas.Bool.{cases_eq, cases_lt}
use Rattle.std.proofs.lemmas.List.{get_or_push, get_or_append_left, get_or-map}
use Rattle.std.proofs.lemmas.List.Quantifiers.{all_pairs_push}
use Rattle.std.proofs.lemmas.Option.{slice_get_within, slice_get-get_or, same_Some}
use Rattle.nav_types.specs.declared.cells.Cell.{Cell}
use Rattle.nav_types.specs.declared.cells.Chunk.{Chunk}
use Rattle.nav_types.specs.Cells.{cell_at, IsBefore}
use Rattle.nav_types.specs.Regions.{JoinedStraight}
use Rattle.chunk_regions.specs.declared.label_spans.Place.{Place}
use Rattle.chunk_regions.specs.declared.spans.Span.{Span}
use Rattle.chunk_regions.specs.inner.Spans.{Runs, AreSpans, IsPlace, HasCell, IsCut, region_of}
use Rattle.chunk_regions.specs.inner.Joining.{Overlap, Reach, follow, IsRoot, AreJoined, KeepsShared, MeetsTo, AreUnited, IsNumberAmong, AreLinked, AreOf, AreGroups, AreNumbers, IsNumbered, number_in}
use Rattle.nav_types.proofs.CellOrder.{IsBefore-asym}
use Rattle.nav_types.proofs.Walking.{JoinedStraight-sym, JoinedStraight-trans}
use Rattle.nav_types.proofs.Items.{slice_get-append_left, slice_get-push_last, slice_get-push_cases}
use Rattle.chunk_regions.proofs.BoundLemmas.{newest_region, older_region}
use Rattle.chunk_regions.proofs.LinkLemmas.{IsLinked, joined_cases, new_link, old_link}
use Rattle.chunk_regions.proofs.AmongLemmas.{among_self, among_earlier, among_follow, among_longer, among_through}
use Rattle.chunk_regions.proofs.NumberLemmas.{AreSettled-numbered}
use Rattle.chunk_regions.proofs.SpanLemmas.{HasCell-at, HasCell-order, IsPlace-one, region_of-cell, span_joined, overlap_joined, first_of_span, beside_cases, one_span}

-- ---- the next span

-- the next span begins a group with its first cell
pub AreGroups-begin : (passes : Cell → Bool) (chunk : Chunk) (runs : Runs) (regions : List ℕ) (firsts : List Cell) (links : List ℕ) (place : Place) (span : Span) → IsCut passes chunk runs
    → IsPlace runs place → slice_get runs.spans place.at ≡ Some span → length regions ≡ place.at → length links ≡ length firsts
    → AreGroups passes chunk runs regions firsts links
    → AreGroups passes chunk runs (regions ++ (length firsts + 1) ∷ []) (firsts ++ cell_at (96 * chunk.ci + span.first) (96 * chunk.cj + place.row) ∷ [])
    (links ++ (length firsts + 1) ∷ [])
AreGroups-begin passes chunk runs regions firsts links place span cut is found next each g =
    let cell = cell_at (96 * chunk.ci + span.first) (96 * chunk.cj + place.row) in
    let n = length firsts + 1 in
    let longer : length (regions ++ n ∷ []) ≡ length regions + 1 = length-append regions (n ∷ []) in
    let first = first_of_span chunk runs cut.are place span is found in
    record {
      placed = λ p c has within. elim (cases_lt p.at (length regions)) [
        | inl less ↦
            let was = g.placed p c has less in
            record {
              place = was.place;
              first = was.first;
              found = slice_get-append_left firsts (cell ∷ []) was.place was.first was.found;
              joined = was.joined;
              early = was.early;
              value = older_region regions n p.at less ∙ was.value;
            }
        | inr more ↦
            let same : p.at ≡ length regions = omega arith in
            let own = HasCell-at chunk runs cut.are p place c is has (same ∙ next) in
            record {
              place = length firsts;
              first = cell;
              found = slice_get-push_last firsts cell;
              joined = span_joined passes chunk runs cut place c cell own first.0;
              early = first.1 c own;
              value = newest_region regions n p.at same;
            }
      ];
      first_numbers = λ k z at. elim (slice_get-push_cases firsts cell k z at) [
        | inl older ↦
            let was = g.first_numbers k z older in
            let before = was.1.1.0 in
            (was.0, (was.1.0, (omega arith, older_region regions n was.0.at before ∙ was.1.1.1)))
        | inr newest ↦ (
          place,
          (
            subst (λ (z : Cell). HasCell chunk runs place z) newest.1 first.0,
            (omega arith, newest_region regions n place.at (sym next) ∙ ap (λ k. k + 1) (sym newest.0)),
          ),
        )
      ];
      linked = λ k z at. elim (slice_get-push_cases firsts cell k z at) [
        | inl older ↦
            let inside = slice_get_within firsts k z older in
            subst (λ m. IsNumberAmong passes (firsts ++ cell ∷ []) z m) (sym (get_or_append_left links (n ∷ []) 0 k (omega arith)))
            (among_longer passes firsts cell z (slice_index links k) (g.linked k z older))
        | inr newest ↦
            let count = newest.0 in
            let value : slice_index (links ++ n ∷ []) k ≡ k + 1 = get_or_push links n 0 k (omega arith) ∙ ap (λ m. m + 1) (sym count) in
            subst (λ m. IsNumberAmong passes (firsts ++ cell ∷ []) z m) (sym value) (among_self passes (firsts ++ cell ∷ []) k z at)
      ];
      rising = all_pairs_push IsBefore firsts cell g.rising (λ k d less.
          let was = g.first_numbers k (get_or firsts k d) (slice_get-get_or firsts k d less) in
          let before = was.1.1.0 in
          HasCell-order chunk runs cut.are was.0 place (get_or firsts k d) cell was.1.0 first.0 (omega arith));
    }

-- of two spans that overlap the southern one comes first
pub overlap_order : (runs : Runs) (south north : Place) → Overlap runs south north → south.at < north.at
overlap_order runs south north o =
    let to = o.south_is.to in
    let from = subst (λ r. slice_index runs.starts r ≤ north.at) o.rows o.north_is.from in
    omega arith

-- a span that overlaps another from the row before stands before that one's row
pub overlap_to : (runs : Runs) (south north : Place) → Overlap runs south north → south.at < slice_index runs.starts north.row
overlap_to runs south north o = subst (λ r. south.at < slice_index runs.starts r) (sym o.rows) o.south_is.to

-- the next span takes a region that its cells are of
pub AreGroups-next : (passes : Cell → Bool) (chunk : Chunk) (runs : Runs) (regions : List ℕ) (firsts : List Cell) (links : List ℕ) (place : Place) (n : ℕ) → AreSpans runs
    → IsPlace runs place → length regions ≡ place.at → AreOf passes chunk runs firsts place n → AreGroups passes chunk runs regions firsts links
    → AreGroups passes chunk runs (regions ++ n ∷ []) firsts links
AreGroups-next passes chunk runs regions firsts links place n are is next own g =
    let longer : length (regions ++ n ∷ []) ≡ length regions + 1 = length-append regions (n ∷ []) in
    record {
      placed = λ p c has within. elim (cases_lt p.at (length regions)) [
        | inl less ↦ subst (λ m. IsNumberAmong passes firsts c m) (sym (older_region regions n p.at less)) (g.placed p c has less)
        | inr more ↦
            let same : p.at ≡ length regions = omega arith in
            subst (λ m. IsNumberAmong passes firsts c m) (sym (newest_region regions n p.at same))
            (own c (HasCell-at chunk runs are p place c is has (same ∙ next)))
      ];
      first_numbers = λ k z at.
          let was = g.first_numbers k z at in
          let before = was.1.1.0 in
          (was.0, (was.1.0, (omega arith, older_region regions n was.0.at before ∙ was.1.1.1)));
      linked = g.linked;
      rising = g.rising;
    }

-- the cells of a span are of the region that links lead to from that of a span which it overlaps
pub AreOf-led : (passes : Cell → Bool) (chunk : Chunk) (runs : Runs) (regions : List ℕ) (firsts : List Cell) (links : List ℕ) (south north : Place) (steps n : ℕ)
    → IsCut passes chunk runs → Overlap runs south north → south.at < length regions → follow links steps (slice_index regions south.at) ≡ n
    → AreGroups passes chunk runs regions firsts links → AreOf passes chunk runs firsts north n
AreOf-led passes chunk runs regions firsts links south north steps n cut o before led g = λ c own.
    let earlier = overlap_order runs south north o in
    let to = overlap_joined passes chunk runs cut south north o c own in
    let was = among_follow passes firsts links g.linked to.0 (slice_index regions south.at) steps (g.placed south to.0 to.1.0 before) in
    subst (λ m. IsNumberAmong passes firsts c m) led
    (among_through passes firsts c to.0 (follow links steps (slice_index regions south.at)) to.1.1
    (IsBefore-asym to.0 c (HasCell-order chunk runs cut.are south north to.0 c to.1.0 own earlier)) was)

-- ---- two regions that are linked

-- each first cell is joined to that of the region it is linked to, where the later of two roots with joined cells is linked
AreLinked-linked : (passes : Cell → Bool) (firsts : List Cell) (links joined : List ℕ) (earlier later : ℕ) (p q : Cell) → IsLinked links earlier later joined
    → AllPairs IsBefore firsts → IsNumberAmong passes firsts p earlier → IsNumberAmong passes firsts q later → JoinedStraight passes p q
    → AreLinked passes firsts links → AreLinked passes firsts joined
AreLinked-linked passes firsts links joined earlier later p q l rising low high side linked = λ place first found.
    elim (cases_eq place (later - 1)) [
      | inl same ↦
          let some = l.high.some in
          let value = high.value in
          let number : place + 1 ≡ later = omega arith in
          let one_place : place ≡ high.place = omega arith in
          let one : high.first ≡ first = same_Some high.first first (sym high.found ∙ ap (λ k. slice_get firsts k) (sym one_place) ∙ found) in
          let back : JoinedStraight passes first q = subst (λ (z : Cell). JoinedStraight passes z q) one (JoinedStraight-sym passes q high.first high.joined) in
          let own = subst (λ m. IsNumberAmong passes firsts first m) number (among_self passes firsts place first found) in
          subst (λ m. IsNumberAmong passes firsts first m) (sym (ap (λ k. slice_index joined k) same ∙ new_link links earlier later joined l))
          (among_earlier passes firsts first p earlier later rising l.order own low
          (JoinedStraight-trans passes first q p back (JoinedStraight-sym passes p q side)))
      | inr apart ↦
          subst (λ m. IsNumberAmong passes firsts first m) (sym (old_link links earlier later joined place l apart)) (linked place first found)
    ]

-- the groups of the newest span and of one that it overlaps become one
pub AreGroups-joined : (passes : Cell → Bool) (chunk : Chunk) (runs : Runs) (regions : List ℕ) (firsts : List Cell) (links : List ℕ) (south north : Place)
    (region : ℕ) (joined : List ℕ) (earlier : ℕ) → IsCut passes chunk runs → Overlap runs south north → south.at < length regions → IsRoot links region
    → AreJoined links region (slice_index regions south.at) joined earlier → AreGroups passes chunk runs regions firsts links
    → AreOf passes chunk runs firsts north region
    → AreGroups passes chunk runs regions firsts joined × AreOf passes chunk runs firsts north earlier
AreGroups-joined passes chunk runs regions firsts links south north region joined earlier cut o before root j g own =
    let other = slice_index regions south.at in
    let y = cell_at (96 * chunk.ci + o.high.first) (96 * chunk.cj + north.row) in
    let has = (first_of_span chunk runs cut.are north o.high o.north_is o.found_high).0 in
    let to = overlap_joined passes chunk runs cut south north o y has in
    let south_root : (x : Cell) → HasCell chunk runs south x → IsNumberAmong passes firsts x j.root = λ x in_south.
    subst (λ m. IsNumberAmong passes firsts x m) j.found.led
    (among_follow passes firsts links g.linked x other j.found.steps (g.placed south x in_south before)) in
    let groups : AreLinked passes firsts joined → AreGroups passes chunk runs regions firsts joined = λ linked.
    record { placed = g.placed; first_numbers = g.first_numbers; linked = linked; rising = g.rising } in
    elim (joined_cases links region other joined earlier root j) [
      | inl first ↦ (
        groups (AreLinked-linked passes firsts links joined region j.root y to.0 first.1 g.rising (own y has) (south_root to.0 to.1.0) to.1.1 g.linked),
        subst (λ m. AreOf passes chunk runs firsts north m) (sym first.0) own,
      )
      | inr second ↦ (
        groups (AreLinked-linked passes firsts links joined j.root region to.0 y second.1 g.rising (south_root to.0 to.1.0) (own y has)
            (JoinedStraight-sym passes y to.0 to.1.1) g.linked),
        subst (λ m. AreOf passes chunk runs firsts north m) (sym second.0)
            (λ c in_north.
            let x = overlap_joined passes chunk runs cut south north o c in_north in
            among_earlier passes firsts c x.0 j.root region g.rising second.1.order (own c in_north) (south_root x.0 x.1.0) x.1.1),
      )
    ]

-- ---- after the last span

-- spans with cells one above the other overlap
cells_overlap : (chunk : Chunk) (runs : Runs) (south north : Place) (a b : Cell) → HasCell chunk runs south a → HasCell chunk runs north b → a.i ≡ b.i → b.j ≡ a.j + 1
    → Overlap runs south north
cells_overlap chunk runs south north a b in_south in_north column next =
    let a_row = in_south.row in let a_west = in_south.west in let a_east = in_south.east in
    let b_row = in_north.row in let b_west = in_north.west in let b_east = in_north.east in
    record {
      south_is = in_south.is;
      north_is = in_north.is;
      rows = omega arith;
      low = in_south.span;
      high = in_north.span;
      found_low = in_south.found;
      found_high = in_north.found;
      west = omega arith;
      east = omega arith;
    }

-- where all spans have their regions, those that overlap are one, and regions have their numbers, each passable cell has that
-- of its group
pub AreGroups-end : (passes : Cell → Bool) (chunk : Chunk) (runs : Runs) (regions : List ℕ) (firsts : List Cell) (links numbers : List ℕ) (roots : List Cell)
    → IsCut passes chunk runs → length regions ≡ length runs.spans → length links ≡ length firsts → AreUnited runs regions links (length runs.spans)
    → AreNumbers firsts links numbers roots (length links) → AreGroups passes chunk runs regions firsts links
    → IsNumbered passes (region_of chunk runs (map (number_in numbers) regions)) roots
AreGroups-end passes chunk runs regions firsts links numbers roots cut all each united named g =
    let are = cut.are in
    let new = map (number_in numbers) regions in
    let value : (place : Place) (c : Cell) → HasCell chunk runs place c → region_of chunk runs new c ≡ number_in numbers (slice_index regions place.at) = λ place c has.
    let within = has.is.within in
    region_of-cell chunk runs new are place c has ∙ get_or-map (number_in numbers) regions place.at 0 0 (omega arith) in
    let shared : (place : ℕ) → place < length links → number_in numbers (slice_index links place) ≡ number_in numbers (place + 1) = λ place less.
    let back : place ≡ place + 1 - 1 = omega arith in
    named.shared place less ∙ ap (λ k. slice_index numbers k) back in
    AreSettled-numbered passes (region_of chunk runs new) roots (record {
      placed = λ c passing.
          let p = cut.held c passing in
          let within = p.1.is.within in
          let was = g.placed p.0 c p.1 (omega arith) in
          let is = was.value in
          let inside = slice_get_within firsts was.place was.first was.found in
          let back : was.place ≡ slice_index regions p.0.at - 1 = omega arith in
          subst (λ n. IsNumberAmong passes roots c n) (ap (λ k. slice_index numbers k) back ∙ sym (value p.0 c p.1))
          (among_through passes roots c was.first (slice_index numbers was.place) was.joined was.early
          (named.placed passes was.place was.first g.linked g.rising (omega arith) was.found));
      settled = λ a b open_a open_b side.
          let p = cut.held a open_a in
          let q = cut.held b open_b in
          let p_in = p.1.is.within in
          let q_in = q.1.is.within in
          let one : number_in numbers (slice_index regions q.0.at) ≡ number_in numbers (slice_index regions p.0.at) = elim (beside_cases a b side) [
            | inl along ↦
                let row = along.0 in
                let near : (a.i ≤ b.i + 1) × (b.i ≤ a.i + 1) = elim along.1 [
                  | inl east ↦ (omega arith, omega arith)
                  | inr west ↦ (omega arith, omega arith)
                ] in
                ap (λ k. number_in numbers (slice_index regions k)) (one_span chunk runs are q.0 p.0 b a q.1 p.1 (sym row) near.0 near.1)
            | inr across ↦ elim across.1 [
              | inl north ↦
                  let o = cells_overlap chunk runs p.0 q.0 a b p.1 q.1 across.0 north in
                  sym (united q.0 q_in p.0 o p_in (number_in numbers) shared)
              | inr south ↦
                  let o = cells_overlap chunk runs q.0 p.0 b a q.1 p.1 (sym across.0) south in
                  united p.0 p_in q.0 o q_in (number_in numbers) shared
            ]
          ] in
          value q.0 b q.1 ∙ one ∙ sym (value p.0 a p.1);
      first_numbers = λ k first found.
          let root = named.found k first found in
          let was = g.first_numbers root.0 first root.1.1.0 in
          let number = was.1.1.1 in
          let back : slice_index regions was.0.at - 1 ≡ root.0 = omega arith in
          (cut.passing was.0 first was.1.0, value was.0 first was.1.0 ∙ ap (λ k. slice_index numbers k) back ∙ root.1.1.1);
      rising = named.rising g.rising;
    })

-- ---- spans that do not overlap

-- where a span of the row before begins behind the span's end, those that overlap it come before
pub overlaps_before : (runs : Runs) → AreSpans runs → (south north : Place) (k : ℕ) (low high : Span) → Overlap runs south north → slice_get runs.spans north.at ≡ Some high
    → slice_get runs.spans k ≡ Some low → high.last < low.first → slice_index runs.starts (north.row - 1) ≤ k → south.at < k
overlaps_before runs are south north k low high o found_high found_low beyond from =
    let west = o.west in
    let next = o.rows in
    let to = o.south_is.to in
    let row = o.south_is.row in
    let one : o.high.last ≡ high.last = ap (λ (s : Span). s.last) (same_Some o.high high (sym o.found_high ∙ found_high)) in
    let before : north.row - 1 ≡ south.row = omega arith in
    let start = subst (λ r. slice_index runs.starts r ≤ k) before from in
    let ordered = are.ordered k low found_low in
    let rises = ordered.0 in
    elim (cases_lt south.at k) [
      | inl less ↦ less
      | inr more ↦ elim (cases_lt k south.at) [
        | inl less ↦
            let gap = are.apart south.row k south.at low o.low row start less to found_low o.found_low in
            absurd (omega arith)
        | inr equal ↦
            let same : south.at ≡ k = omega arith in
            let is : o.low.first ≡ low.first = ap (λ (s : Span). s.first) (same_Some o.low low (sym o.found_low ∙ ap (λ i. slice_get runs.spans i) same ∙ found_low)) in
            absurd (omega arith)
      ]
    ]

-- ---- spans of the row before

-- a span of the row before that reaches the first column of a span and begins before its end overlaps it
pub overlap_from : (runs : Runs) → AreSpans runs → (north : Place) (k : ℕ) (low high : Span) → IsPlace runs north → slice_get runs.spans k ≡ Some low
    → slice_get runs.spans north.at ≡ Some high → slice_index runs.starts (north.row - 1) ≤ k → k < slice_index runs.starts north.row → low.first ≤ high.last
    → high.first ≤ low.last → Overlap runs (record { row = north.row - 1; at = k }) north
overlap_from runs are north k low high is found_low found_high from to west east =
    let within = is.within in
    let row = is.row in
    let start = is.from in
    let next : north.row ≡ north.row - 1 + 1 = elim (cases_lt 0 north.row) [
      | inl more ↦ omega arith
      | inr none ↦
          let zero : north.row ≡ 0 = omega arith in
          let one : north.row - 1 ≡ north.row = omega arith in
          let before : slice_index runs.starts (north.row - 1) ≡ slice_index runs.starts north.row = ap (λ r. slice_index runs.starts r) one in
          absurd (omega arith)
    ] in
    record {
      south_is = record {
        row = omega arith;
        from = from;
        to = subst (λ r. k < slice_index runs.starts r) next to;
        within = omega arith;
      };
      north_is = is;
      rows = next;
      low = low;
      high = high;
      found_low = found_low;
      found_high = found_high;
      west = west;
      east = east;
    }

-- ---- spans that have one region

-- spans stay united where links change that keep regions one
pub AreUnited-kept : (runs : Runs) (regions old new : List ℕ) (here : ℕ) → KeepsShared old new → AreUnited runs regions old here → AreUnited runs regions new here
AreUnited-kept runs regions old new here kept united north below south o to = λ number shared. united north below south o to number (kept number shared)

-- with a span whose region is one with those of the spans that it overlaps the spans up to it are united
pub AreUnited-next : (runs : Runs) (regions links : List ℕ) (place : Place) (n : ℕ) → AreSpans runs → IsPlace runs place → length regions ≡ place.at
    → AreUnited runs regions links place.at → MeetsTo runs regions links place n (slice_index runs.starts place.row)
    → AreUnited runs (regions ++ n ∷ []) links (place.at + 1)
AreUnited-next runs regions links place n are is next united met north below south o to = λ number shared.
    let earlier = overlap_order runs south north o in
    let older = ap number (older_region regions n south.at (omega arith)) in
    elim (cases_lt north.at place.at) [
      | inl less ↦ older ∙ united north less south o (omega arith) number shared ∙ ap number (sym (older_region regions n north.at (omega arith)))
      | inr more ↦
          let at : north.at ≡ place.at = omega arith in
          let own = subst (λ (z : Place). Overlap runs south z) (IsPlace-one runs are north place o.north_is is at) o in
          older ∙ met south own (overlap_to runs south place own) number shared ∙ ap number (sym (newest_region regions n north.at (omega arith)))
    ]

-- where the first of a row's spans from a place on reaches a column, all of them do
pub Reach-from : (runs : Runs) → AreSpans runs → (row place column : ℕ) → row < 96 → slice_index runs.starts (row - 1) ≤ place
    → ((span : Span) → place < slice_index runs.starts row → slice_get runs.spans place ≡ Some span → column ≤ span.last)
    → Reach runs column place (slice_index runs.starts row)
Reach-from runs are row place column within from first k low at to found =
    let inside = slice_get_within runs.spans k low found in
    let ordered = are.ordered k low found in
    let rises = ordered.0 in
    elim (cases_lt place k) [
      | inl less ↦
          let d = get_or runs.spans place low in
          let found_d = slice_get-get_or runs.spans place low (omega arith) in
          let reach = first d (omega arith) found_d in
          let next : row ≡ row - 1 + 1 = elim (cases_lt 0 row) [
            | inl more ↦ omega arith
            | inr none ↦
                let one : row - 1 ≡ row = omega arith in
                let before : slice_index runs.starts (row - 1) ≡ slice_index runs.starts row = ap (λ r. slice_index runs.starts r) one in
                absurd (omega arith)
          ] in
          let gap = are.apart (row - 1) place k d low (omega arith) from less (subst (λ r. k < slice_index runs.starts r) next to) found_d found in
          omega arith
      | inr more ↦
          let same : k ≡ place = omega arith in
          first low (omega arith) (ap (λ i. slice_get runs.spans i) (sym same) ∙ found)
    ]
