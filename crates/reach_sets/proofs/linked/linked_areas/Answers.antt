use Rattle.std.proofs.Common.{◌≡◌, ◌<◌, ◌≤◌, ◌-◌, ℕ, List, length, get_or, sum, ap, subst, sym, ◌∙◌, arith}
use Rattle.std.proofs.lemmas.List.{get_or_read}
use Rattle.reach_sets.proofs.LinkedLemmas.{places_fit, last_count, fit_made, linked_table}
use Rattle.reach_sets.proofs.MarkLemmas.{before_le}
use Rattle.reach_sets.specs.inner.Linked.{AreChildCounts, AreEndAreas, FitMarks}
use Rattle.reach_sets.proofs.linked.linked_areas.Goals as goal

pub new-requires : goal.new-requires
new-requires c = omega (arith, c.in_ok-words.ensures.wide, c.total-regions.ensures.total, c.total-regions.type_inv)

pub count_children-requires : goal.count_children-requires
count_children-requires c =
    omega (
      arith,
      c.as_slice-parents.ensures.len,
      ap (λ (l : List ℕ). length l) c.as_slice-parents.ensures.value,
      c.in_ok-forest.ensures.each,
      before_le c.in_ok-marks.marks (sum c.args.offsets.now),
      c.total-regions.ensures.total,
      c.total-regions.type_inv,
    )

pub number_ends-requires-clause-above : goal.number_ends-requires-clause-above
number_ends-requires-clause-above c k low =
    let P : List ℕ → Type 0 = λ ps. k < length ps → k ≤ get_or ps k 0 in
    subst P (sym c.as_slice-places.ensures.value)
    (λ inside. (places_fit c.in_ok-marks.marks c.in_ok-forest.forest.places.items (sum c.args.offsets.now) c.in_ok-forest.ensures.places_are k inside).0) low

pub number_ends-requires-clause-few : goal.number_ends-requires-clause-few
number_ends-requires-clause-few c k low =
    let P : List ℕ → Type 0 = λ ps. k < length ps → get_or ps k 0 < 4294967295 in
    subst P (sym c.as_slice-places.ensures.value)
    (λ inside. omega (arith, (places_fit c.in_ok-marks.marks c.in_ok-forest.forest.places.items (sum c.args.offsets.now) c.in_ok-forest.ensures.places_are k inside).1, c.total-regions.ensures.total, c.total-regions.type_inv)) low

pub overflow_sub-count : goal.overflow_sub-count
overflow_sub-count c =
    let joined = c.in_ok-joined.joined.items in
    let parents = c.as_slice-parents.result.now in
    let few : length parents ≤ sum c.args.offsets.now =
    omega (arith, ap (λ (l : List ℕ). length l) c.as_slice-parents.ensures.value, c.in_ok-forest.ensures.each, before_le c.in_ok-marks.marks (sum c.args.offsets.now)) in
    let last = last_count parents joined (sum c.args.offsets.now) c.in_ok-joined.ensures few in
    let long : c.len.result ≡ length joined = omega (arith, c.len.ensures, c.in_ok-joined.joined.ok.0) in
    let read = get_or_read joined (c.len.result - 1) c.index.result.now (omega (arith, long, last.0)) c.index.ensures 0 in
    omega (arith, read, ap (λ n. get_or joined (n - 1) 0) long, last.1.1, c.total-regions.ensures.total)

pub invariant_of-result : goal.invariant_of-result
invariant_of-result c =
    let forest = c.in_ok-forest.forest in
    let regions = c.args.offsets.now in
    let words = c.in_ok-marks.marks in
    let areas = c.in_ok-areas.areas.items in let joined = c.in_ok-joined.joined.items in
    let counted : AreChildCounts forest.parents.items joined =
    let P : List ℕ → Type 0 = λ qs. AreChildCounts qs joined in subst P c.as_slice-parents.ensures.value c.in_ok-joined.ensures in
    let numbered : AreEndAreas forest.places.items forest.parents.items areas =
    let P : List ℕ → Type 0 = λ ps. AreEndAreas ps forest.parents.items areas in
    let Q : List ℕ → Type 0 = λ qs. AreEndAreas c.as_slice-places.result.now qs areas in
    subst P c.as_slice-places.ensures.value (subst Q c.as_slice-parents.ensures.value c.in_ok-areas.ensures) in
    let total : sum regions ≡ c.total-regions.result = sym c.total-regions.ensures.total in
    let F : ℕ → Type 0 = λ n. FitMarks words areas joined n in
    subst F total (fit_made words forest.places.items forest.parents.items areas joined regions c.args.links.now
    (omega (arith, total, c.total-regions.type_inv))
    (ap (λ (l : List ℕ). length l) c.in_ok-marks.ensures ∙ c.in_ok-words.ensures.wide)
    c.in_ok-forest.ensures counted numbered)

pub returns : goal.returns
returns c =
    let forest = c.in_ok-forest.forest in
    let joined = c.in_ok-joined.joined.items in
    let counted = last_count c.as_slice-parents.result.now joined (length c.as_slice-parents.result.now) c.in_ok-joined.ensures (omega arith) in
    let long : c.len.result ≡ length joined = omega (arith, c.len.ensures, c.in_ok-joined.joined.ok.0) in
    let read = get_or_read joined (c.len.result - 1) c.index.result.now (omega (arith, long, counted.0)) c.index.ensures 0 in
    linked_table c.args.offsets.now c.args.links.now c.in_ok-marks.marks forest.places.items forest.parents.items c.in_ok-areas.areas.items joined
    c.as_slice-places.result.now c.as_slice-parents.result.now c.total-regions.result (c.total-regions.result - c.index.result.now) c.total-regions.ensures.total
    c.as_slice-places.ensures.value c.as_slice-parents.ensures.value c.in_ok-forest.ensures c.in_ok-joined.ensures c.in_ok-areas.ensures
    (ap (λ n. c.total-regions.result - n) (read ∙ ap (λ n. get_or joined (n - 1) 0) long))
