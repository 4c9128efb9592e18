-- The reached cells of a table, each with its distance, as one list.
use Rattle.std.proofs.Common.{ℕ, ◌≡◌, ◌≢◌, ◌+◌, ◌-◌, ◌*◌, ◌<◌, ◌≤◌, inl, inr, Bool, true, false, cond, List, [], ◌∷◌, ◌++◌, length, get_or, map, count_by, sum_by, suc, zero, max, refl, sym, ap, ◌∙◌, subst, arith}
use Rattle.std.specs.List.{All, Contains, AllPairs}
use Rattle.std.proofs.lemmas.Bool.{cases_Bool, cases_lt, cond-true, cond-false, both_ways}
use Rattle.std.proofs.lemmas.List.{get_or_past, get_or_append_left, get_or_push, length_push}
use Rattle.std.proofs.lemmas.List.Elements.{Contains-get_or}
use Rattle.std.proofs.lemmas.List.Sums.{sum_by-cons, sum_by_push, sum_by-le, count_by-le-length}
use Rattle.nav_types.specs.declared.cells.Cell.{Cell}
use Rattle.nav_types.specs.declared.cells.Size.{Size}
use Rattle.nav_types.specs.Cells.{IsInside}
use Rattle.nav_types.specs.Walks.{Joined}
use Rattle.nav_types.proofs.Items.{Contains-head, Contains-tail, Contains-cons_cases, Contains-none, Contains-map, AllPairs-nil, AllPairs-front}
use Rattle.nav_types.proofs.Walking.{Joined-passes}
use Rattle.posts.specs.declared.notes.FlowSummary.{FlowSummary}
use Rattle.flow_field.specs.Flows.{IsNearest, IsFieldOf, HasSummary}
use Rattle.flow_field.specs.inner.Marks.{free, spot_of, cell_at_spot, mark_of, is_reached, cells_of, IsCellSpot, IsTable}
use Rattle.flow_field.specs.inner.Ways.{distance_of, IsSummaryOf}
use Rattle.flow_field.proofs.Spots.{spot_of-lt, cell_at_spot-spot_of}
use Rattle.flow_field.proofs.Reading.{reached_parts, reached_from, reached_far, joined_reached, IsNearest-unique}

counts : ℕ → ℕ
counts mark = cond (is_reached mark) 1 0

counts_yes : (mark : ℕ) → is_reached mark ≡ true → counts mark ≡ 1
unfolding counts
counts_yes mark is = let one : ℕ = 1 in let none : ℕ = 0 in cond-true (is_reached mark) one none is

counts_no : (mark : ℕ) → is_reached mark ≡ false → counts mark ≡ 0
unfolding counts
counts_no mark is = let one : ℕ = 1 in let none : ℕ = 0 in cond-false (is_reached mark) one none is

count_cons : (mark : ℕ) (marks : List ℕ) → count_by is_reached (mark ∷ marks) ≡ counts mark + count_by is_reached marks
unfolding counts
count_cons mark marks = sum_by-cons (λ (m : ℕ). cond (is_reached m) 1 0) mark marks

count_push : (marks : List ℕ) (mark : ℕ) → count_by is_reached (marks ++ mark ∷ []) ≡ count_by is_reached marks + counts mark
unfolding counts
count_push marks mark = sum_by_push (λ (m : ℕ). cond (is_reached m) 1 0) marks mark

distance_yes : (mark : ℕ) → is_reached mark ≡ true → distance_of mark ≡ mark - 1
distance_yes mark is = let none : ℕ = 0 in cond-true (is_reached mark) (mark - 1) none is

distance_no : (mark : ℕ) → is_reached mark ≡ false → distance_of mark ≡ 0
distance_no mark is = let none : ℕ = 0 in cond-false (is_reached mark) (mark - 1) none is

-- the reached cells of the marks from a place on
abbrev listed : Size → ℕ → List ℕ → List (Cell × ℕ)
listed size at [] = []
listed size at (mark ∷ marks) = cond (is_reached mark) ((cell_at_spot size at, mark - 1) ∷ listed size (at + 1) marks) (listed size (at + 1) marks)

listed_yes : (size : Size) (at mark : ℕ) (marks : List ℕ) → is_reached mark ≡ true → listed size at (mark ∷ marks) ≡ (cell_at_spot size at, mark - 1) ∷ listed size (at + 1) marks
listed_yes size at mark marks is = cond-true (is_reached mark) ((cell_at_spot size at, mark - 1) ∷ listed size (at + 1) marks) (listed size (at + 1) marks) is

listed_no : (size : Size) (at mark : ℕ) (marks : List ℕ) → is_reached mark ≡ false → listed size at (mark ∷ marks) ≡ listed size (at + 1) marks
listed_no size at mark marks is = cond-false (is_reached mark) ((cell_at_spot size at, mark - 1) ∷ listed size (at + 1) marks) (listed size (at + 1) marks) is

listed_long : (size : Size) (at : ℕ) (marks : List ℕ) → length (listed size at marks) ≡ count_by is_reached marks
listed_long size at [] = refl
listed_long size at (mark ∷ marks) =
    let rest = listed_long size (at + 1) marks in
    let sums = count_cons mark marks in
    elim (cases_Bool (is_reached mark)) [
      | inl is ↦ omega (arith, ap length (listed_yes size at mark marks is), counts_yes mark is, sums, rest)
      | inr not_is ↦ omega (arith, ap length (listed_no size at mark marks not_is), counts_no mark not_is, sums, rest)
    ]

abbrev second : Cell × ℕ → ℕ
second far = far.1

listed_sum : (size : Size) (at : ℕ) (marks : List ℕ) → sum_by second (listed size at marks) ≡ sum_by distance_of marks
listed_sum size at [] = refl
listed_sum size at (mark ∷ marks) =
    let rest = listed_sum size (at + 1) marks in
    let sums = sum_by-cons distance_of mark marks in
    elim (cases_Bool (is_reached mark)) [
      | inl is ↦ omega (
        arith,
        ap (λ (l : List (Cell × ℕ)). sum_by second l) (listed_yes size at mark marks is),
        sum_by-cons second (cell_at_spot size at, mark - 1) (listed size (at + 1) marks),
        distance_yes mark is,
        sums,
        rest,
      )
      | inr not_is ↦ omega (arith, ap (λ (l : List (Cell × ℕ)). sum_by second l) (listed_no size at mark marks not_is), distance_no mark not_is, sums, rest)
    ]

-- what is listed is a reached mark's
record IsListed (size : Size) (first : ℕ) (marks : List ℕ) (far : Cell × ℕ) : Type 0 where
  pub k : ℕ
  pub within : k < length marks
  pub reached : is_reached (get_or marks k 0) ≡ true
  pub cell : far.0 ≡ cell_at_spot size (first + k)
  pub distance : far.1 ≡ get_or marks k 0 - 1

listed_later : (size : Size) (first mark : ℕ) (marks : List ℕ) (far : Cell × ℕ) → IsListed size (first + 1) marks far → IsListed size first (mark ∷ marks) far
listed_later size first mark marks far is = record {
  k = suc is.k;
  within = omega (arith, is.within);
  reached = is.reached;
  cell = is.cell ∙ ap (λ (n : ℕ). cell_at_spot size n) (let e : first + 1 + is.k ≡ first + suc is.k = omega arith in e);
  distance = is.distance;
}

listed_from : (size : Size) (first : ℕ) (marks : List ℕ) (far : Cell × ℕ) → Contains (listed size first marks) far → IsListed size first marks far
listed_from size first [] far has = absurd (Contains-none far has)
listed_from size first (mark ∷ marks) far has = elim (cases_Bool (is_reached mark)) [
  | inl is ↦ elim (Contains-cons_cases (cell_at_spot size first, mark - 1) (listed size (first + 1) marks) far (subst (λ (l : List (Cell × ℕ)). Contains l far) (listed_yes size first mark marks is) has)) [
    | inl here ↦ record {
      k = 0;
      within = omega arith;
      reached = is;
      cell = ap (λ (p : Cell × ℕ). p.0) (sym here) ∙ ap (λ (n : ℕ). cell_at_spot size n) (let e : first ≡ first + 0 = omega arith in e);
      distance = ap (λ (p : Cell × ℕ). p.1) (sym here);
    }
    | inr later ↦ listed_later size first mark marks far (listed_from size (first + 1) marks far later)
  ]
  | inr not_is ↦ listed_later size first mark marks far (listed_from size (first + 1) marks far (subst (λ (l : List (Cell × ℕ)). Contains l far) (listed_no size first mark marks not_is) has))
]

listed_has : (size : Size) (first k : ℕ) (marks : List ℕ) → k < length marks → is_reached (get_or marks k 0) ≡ true → Contains (listed size first marks) (cell_at_spot size (first + k), get_or marks k 0 - 1)
listed_has size first k [] below is = absurd (omega (arith, below))
listed_has size first zero (mark ∷ marks) below is =
    let e : first ≡ first + 0 = omega arith in
    let there = subst (λ (l : List (Cell × ℕ)). Contains l (cell_at_spot size first, mark - 1)) (sym (listed_yes size first mark marks is)) (Contains-head (cell_at_spot size first, mark - 1) (listed size (first + 1) marks)) in
    subst (λ (n : ℕ). Contains (listed size first (mark ∷ marks)) (cell_at_spot size n, mark - 1)) e there
listed_has size first (suc k) (mark ∷ marks) below is =
    let e : first + 1 + k ≡ first + suc k = omega arith in
    let rest = listed_has size (first + 1) k marks (omega arith) is in
    let far : Cell × ℕ = (cell_at_spot size (first + 1 + k), get_or marks k 0 - 1) in
    let there : Contains (listed size first (mark ∷ marks)) far = elim (cases_Bool (is_reached mark)) [
      | inl yes_it ↦ subst (λ (l : List (Cell × ℕ)). Contains l far) (sym (listed_yes size first mark marks yes_it)) (Contains-tail (cell_at_spot size first, mark - 1) (listed size (first + 1) marks) far rest)
      | inr not_it ↦ subst (λ (l : List (Cell × ℕ)). Contains l far) (sym (listed_no size first mark marks not_it)) rest
    ] in
    subst (λ (n : ℕ). Contains (listed size first (mark ∷ marks)) (cell_at_spot size n, get_or marks k 0 - 1)) e there

-- cells with marks stand at their own places
listed_once : (size : Size) (first : ℕ) (marks : List ℕ) → ((k : ℕ) → 0 < get_or marks k 0 → IsCellSpot size (first + k)) → AllPairs (λ (a b : Cell × ℕ). a ≢ b) (listed size first marks)
listed_once size first [] places = AllPairs-nil (λ (a b : Cell × ℕ). a ≢ b)
listed_once size first (mark ∷ marks) places =
    let Apart : Cell × ℕ → Cell × ℕ → Type 0 = λ a b. a ≢ b in
    let later : (k : ℕ) → 0 < get_or marks k 0 → IsCellSpot size (first + 1 + k) = λ k some.
    let e : first + suc k ≡ first + 1 + k = omega arith in
    subst (λ (n : ℕ). IsCellSpot size n) e (places (suc k) some) in
    let rest = listed_once size (first + 1) marks later in
    elim (cases_Bool (is_reached mark)) [
      | inr not_is ↦ subst (λ (l : List (Cell × ℕ)). AllPairs Apart l) (sym (listed_no size first mark marks not_is)) rest
      | inl is ↦
          let here = places 0 (reached_parts mark is).0 in
          let far : Cell × ℕ = (cell_at_spot size first, mark - 1) in
          let apart : (other : Cell × ℕ) → Contains (listed size (first + 1) marks) other → Apart far other = λ other has same.
          let there = listed_from size (first + 1) marks other has in
          let place = later there.k (reached_parts (get_or marks there.k 0) there.reached).0 in
          let e : first ≡ first + 0 = omega arith in
          let cells : cell_at_spot size (first + 0) ≡ cell_at_spot size (first + 1 + there.k) = ap (λ (n : ℕ). cell_at_spot size n) (sym e) ∙ (ap (λ (p : Cell × ℕ). p.0) same ∙ there.cell) in
          omega (arith, here.same, place.same, ap (λ (c : Cell). spot_of size c) cells) in
          subst (λ (l : List (Cell × ℕ)). AllPairs Apart l) (sym (listed_yes size first mark marks is)) (AllPairs-front Apart far (listed size (first + 1) marks) apart rest)
    ]

same_far : (a b : Cell × ℕ) → a.0 ≡ b.0 → a.1 ≡ b.1 → a ≡ b
same_far a b cells distances = ap (λ (c : Cell). let p : Cell × ℕ = (c, a.1) in p) cells ∙ ap (λ (n : ℕ). let p : Cell × ℕ = (b.0, n) in p) distances

All-from_contained : (list : List (Cell × ℕ)) (summary : FlowSummary) → ((far : Cell × ℕ) → Contains list far → far.1 ≤ summary.farthest) → All (λ (far : Cell × ℕ). far.1 ≤ summary.farthest) list
All-from_contained list summary each = λ k d below. each (get_or list k d) (Contains-get_or list k d below)

pub summary_of_table : (passes hit : Cell → Bool) (start : Cell) (size : Size) (marks : List ℕ) (summary : FlowSummary) → IsTable size marks → IsFieldOf passes hit start (cells_of size marks)
    → IsSummaryOf marks summary → HasSummary passes hit start summary
summary_of_table passes hit start size marks summary table field sums =
    let list = listed size 0 marks in
    let zero_first : (k : ℕ) → 0 + k ≡ k = λ k. omega arith in
    let places : (k : ℕ) → 0 < get_or marks k 0 → IsCellSpot size (0 + k) = λ k some. subst (λ (n : ℕ). IsCellSpot size n) (sym (zero_first k)) (table.cells k some) in
    let home = field.inside start field.begins in
    let joined_home : Joined passes start start = ([], refl) in
    let known = joined_reached passes hit start size marks start field home joined_home in
    let within : (cell : Cell) → IsInside size cell → spot_of size cell < length marks = λ cell inside. omega (arith, spot_of-lt size cell inside, table.long) in
    let has : (cell : Cell) → IsInside size cell → is_reached (mark_of size marks cell) ≡ true → Contains list (cell, mark_of size marks cell - 1) = λ cell inside is.
    let k = spot_of size cell in
    let back : cell_at_spot size (0 + k) ≡ cell = ap (λ (n : ℕ). cell_at_spot size n) (zero_first k) ∙ cell_at_spot-spot_of size cell inside in
    subst (λ (c : Cell). Contains list (c, mark_of size marks cell - 1)) back (listed_has size 0 k marks (within cell inside) is) in
    let is_home = reached_from (mark_of size marks start) known.0 known.1 in
    let one : Contains list (start, mark_of size marks start - 1) = has start home is_home in
    let cells_same = sums.cells in
    let some : 0 < summary.cells = omega (arith, one.1, listed_long size 0 marks, cells_same) in
    let best = sums.reached some in
    let is_best = best.1.0 in
    let best_in : best.0 < length marks = elim (cases_lt best.0 (length marks)) [ inl below ↦ below | inr past ↦ absurd (omega (arith, get_or_past marks best.0 0 past, is_best.some)) ] in
    record {
      fars = list;
      lists = record {
        each = λ far inside.
            let is = listed_from size 0 marks far inside in
            let parts = reached_parts (get_or marks is.k 0) is.reached in
            let place = table.cells is.k parts.0 in
            let cell = cell_at_spot size is.k in
            let same : mark_of size marks cell ≡ get_or marks is.k 0 = ap (λ (n : ℕ). get_or marks n 0) (sym place.same) in
            let distance = reached_far passes hit start size marks cell field place.inside (ap is_reached same ∙ is.reached) in
            let at : cell ≡ far.0 = ap (λ (n : ℕ). cell_at_spot size n) (sym (zero_first is.k)) ∙ sym is.cell in
            let value : mark_of size marks cell - 1 ≡ far.1 = ap (λ (n : ℕ). n - 1) same ∙ sym is.distance in
            subst (λ (c : Cell). Joined passes start c × IsNearest passes hit c far.1) at (distance.0, subst (λ (n : ℕ). IsNearest passes hit cell n) value distance.1);
        all = λ far is.
            let inside = field.inside far.0 (Joined-passes passes start far.0 field.begins is.0) in
            let parts = joined_reached passes hit start size marks far.0 field inside is.0 in
            let is_far = reached_from (mark_of size marks far.0) parts.0 parts.1 in
            let there = has far.0 inside is_far in
            let value = IsNearest-unique passes hit far.0 (mark_of size marks far.0 - 1) far.1 (reached_far passes hit start size marks far.0 field inside is_far).1 is.1 in
            subst (λ (p : Cell × ℕ). Contains list p) (same_far (far.0, mark_of size marks far.0 - 1) far refl value) there;
        once = listed_once size 0 marks places;
      };
      cells = listed_long size 0 marks ∙ sym sums.cells;
      most = All-from_contained list summary (λ far inside.
          let is = listed_from size 0 marks far inside in
          let parts = reached_parts (get_or marks is.k 0) is.reached in
          omega (arith, sums.most is.k (record { some = parts.0; known = parts.1 }), is.distance));
      reached = subst (λ (n : ℕ). Contains (map second list) n) best.1.1
          (Contains-map second list (cell_at_spot size (0 + best.0), get_or marks best.0 0 - 1)
          (listed_has size 0 best.0 marks best_in (reached_from (get_or marks best.0 0) is_best.some is_best.known)));
      sum = listed_sum size 0 marks ∙ sym sums.sum;
    }

-- ---- the loop over the marks

-- one mark more
pub summary_push : (marks : List ℕ) (mark : ℕ) (old new : FlowSummary) → IsSummaryOf marks old → is_reached mark ≡ true → new.cells ≡ old.cells + 1 → new.sum ≡ old.sum + (mark - 1)
    → new.farthest ≡ max old.farthest (mark - 1) → IsSummaryOf (marks ++ mark ∷ []) new
summary_push marks mark old new so_far is cells sum farthest =
    let n = length marks in
    let here : get_or (marks ++ mark ∷ []) n 0 ≡ mark = get_or_push marks mark 0 n refl in
    let parts = reached_parts mark is in
    let cells_old = so_far.cells in
    let sum_old = so_far.sum in
    let before : (k : ℕ) → k < n → get_or (marks ++ mark ∷ []) k 0 ≡ get_or marks k 0 = λ k below. get_or_append_left marks (mark ∷ []) 0 k below in
    record {
      cells = omega (arith, count_push marks mark, counts_yes mark is);
      sum = omega (arith, sum_by_push distance_of marks mark, distance_yes mark is);
      most = λ k known. elim (cases_lt k n) [
        | inl below ↦ omega (arith, before k below, farthest, so_far.most k (record { some = omega (arith, known.some, before k below); known = omega (arith, known.known, before k below) }))
        | inr above ↦ elim (cases_lt n k) [
          | inl past ↦ absurd (omega (arith, known.some, get_or_past (marks ++ mark ∷ []) k 0 (omega (arith, length_push marks mark, past))))
          | inr low ↦
              let e : k ≡ n = omega arith in
              omega (arith, farthest, here, ap (λ (i : ℕ). get_or (marks ++ mark ∷ []) i 0) e)
        ]
      ];
      reached = λ some. elim (cases_lt (mark - 1) old.farthest) [
        | inr above ↦ (n, (record { some = omega (arith, here, parts.0); known = omega (arith, here, parts.1) }, omega (arith, here, farthest)))
        | inl below ↦ elim (cases_lt 0 old.cells) [
          | inl had ↦
              let best = so_far.reached had in
              let known = best.1.0 in
              let within : best.0 < n = elim (cases_lt best.0 n) [ inl inside ↦ inside | inr past ↦ absurd (omega (arith, get_or_past marks best.0 0 past, known.some)) ] in
              (best.0, (record { some = omega (arith, before best.0 within, known.some); known = omega (arith, before best.0 within, known.known) }, omega (arith, before best.0 within, best.1.1, farthest)))
          | inr none ↦ absurd (omega (arith, so_far.none (omega arith), below))
        ]
      ];
      none = λ zero_cells. absurd (omega (arith, zero_cells, cells));
    }

pub summary_pass : (marks : List ℕ) (mark : ℕ) (summary : FlowSummary) → IsSummaryOf marks summary → is_reached mark ≡ false → IsSummaryOf (marks ++ mark ∷ []) summary
summary_pass marks mark summary so_far is =
    let n = length marks in
    let here : get_or (marks ++ mark ∷ []) n 0 ≡ mark = get_or_push marks mark 0 n refl in
    let cells_old = so_far.cells in
    let sum_old = so_far.sum in
    let before : (k : ℕ) → k < n → get_or (marks ++ mark ∷ []) k 0 ≡ get_or marks k 0 = λ k below. get_or_append_left marks (mark ∷ []) 0 k below in
    record {
      cells = omega (arith, count_push marks mark, counts_no mark is);
      sum = omega (arith, sum_by_push distance_of marks mark, distance_no mark is);
      most = λ k known. elim (cases_lt k n) [
        | inl below ↦ omega (arith, before k below, so_far.most k (record { some = omega (arith, known.some, before k below); known = omega (arith, known.known, before k below) }))
        | inr above ↦ elim (cases_lt n k) [
          | inl past ↦ absurd (omega (arith, known.some, get_or_past (marks ++ mark ∷ []) k 0 (omega (arith, length_push marks mark, past))))
          | inr low ↦
              let e : k ≡ n = omega arith in
              let at : get_or (marks ++ mark ∷ []) k 0 ≡ mark = ap (λ (i : ℕ). get_or (marks ++ mark ∷ []) i 0) e ∙ here in
              absurd (both_ways (is_reached mark) is (reached_from mark (omega (arith, known.some, at)) (omega (arith, known.known, at))))
        ]
      ];
      reached = λ some.
          let best = so_far.reached some in
          let known = best.1.0 in
          let within : best.0 < n = elim (cases_lt best.0 n) [ inl inside ↦ inside | inr past ↦ absurd (omega (arith, get_or_past marks best.0 0 past, known.some)) ] in
          (best.0, (record { some = omega (arith, before best.0 within, known.some); known = omega (arith, before best.0 within, known.known) }, omega (arith, before best.0 within, best.1.1)));
      none = so_far.none;
    }

-- a distance is below what a cell has that is not reached
distance_most : (mark : ℕ) → distance_of mark ≤ free
distance_most mark = elim (cases_Bool (is_reached mark)) [
  | inl is ↦ omega (arith, distance_yes mark is, (reached_parts mark is).1)
  | inr not_is ↦ omega (arith, distance_no mark not_is)
]

-- the numbers stay small
pub summary_small : (marks : List ℕ) (summary : FlowSummary) → IsSummaryOf marks summary → length marks ≤ 4202500 → (summary.cells ≤ 4202500) × (summary.sum ≤ 4202500 * free)
summary_small marks summary so_far few =
    let cells = so_far.cells in
    let sum = so_far.sum in (
      omega (arith, count_by-le-length is_reached marks),
      omega (arith, sum_by-le distance_of free marks (λ k d below. distance_most (get_or marks k d))),
    )
