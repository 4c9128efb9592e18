-- The table as it is filled, and the targets that are found.
use Rattle.std.proofs.Common.{ℕ, ◌≡◌, ◌+◌, ◌-◌, ◌<◌, ◌≤◌, ◌⊎◌, inl, inr, Bool, List, [], IsTrue, IsFalse, length, get_or, set, refl, sym, ap, ◌∙◌, subst, arith}
use Rattle.std.specs.Prelude.{Contains}
use Rattle.std.proofs.lemmas.Bool.{cases_eq, cases_lt, both_ways}
use Rattle.std.proofs.lemmas.Nat.{mul-le}
use Rattle.std.proofs.lemmas.List.{get_or_past, get_or-set_same}
use Rattle.nav_types.specs.declared.cells.Cell.{Cell}
use Rattle.nav_types.specs.declared.cells.Rect.{Rect}
use Rattle.nav_types.specs.declared.cells.Size.{Size}
use Rattle.nav_types.specs.Cells.{IsInside, IsInRect, cell_at}
use Rattle.nav_types.specs.Walks.{Joined}
use Rattle.nav_types.proofs.CellOrder.{same_cell, before_next}
use Rattle.flow_field.specs.declared.spreading.FieldSpread.{FieldSpread}
use Rattle.flow_field.specs.inner.Marks.{free, spot_of, mark_of, IsRunCleared, IsFreeSpot, IsCleared, IsFilled, IsSound, IsSpreading, Waits, NoStep}
use Rattle.flow_field.specs.inner.Spreads.{WaitsIn, IsLowered, FoundBefore, FoundTo}
use Rattle.flow_field.proofs.Spots.{spot_of-lt, spot_of-low, spot_of-inj, row_more as place_more}
use Rattle.flow_field.proofs.Lowering.{IsFall, IsQueued, spreading_fallen}

-- ---- clearing

pub run_none : (from : ℕ) (old : List ℕ) → IsRunCleared from from old old
run_none from old = record { long = refl; cleared = λ k low high. absurd (omega (arith, low, high)); kept = λ k out. refl }

pub run_more : (from at : ℕ) (old mid new : List ℕ) → from ≤ at → length new ≡ length mid → get_or new at 0 ≡ 0 → ((k : ℕ) → (k ≡ at → ⊥) → get_or new k 0 ≡ get_or mid k 0)
    → IsRunCleared from at old mid → IsRunCleared from (at + 1) old new
run_more from at old mid new low long here others so_far = record {
  long = long ∙ so_far.long;
  cleared = λ k above below. elim (cases_eq k at) [
    | inl same ↦ ap (λ (i : ℕ). get_or new i 0) same ∙ here
    | inr other ↦ others k other ∙ so_far.cleared k above (omega (arith, other))
  ];
  kept = λ k out. elim out [
    | inl before ↦ others k (λ e. omega (arith, e, before, low)) ∙ so_far.kept k (inl before)
    | inr after ↦ others k (λ e. omega (arith, e, after)) ∙ so_far.kept k (inr (omega arith))
  ];
}

-- up to the run all places are those of passable cells, in the run none is
pub cleared_more : (passes : Cell → Bool) (size : Size) (at from end : ℕ) (old new : List ℕ) → ((k : ℕ) → at ≤ k → k < from → IsFreeSpot passes size k) → ((k : ℕ) → from ≤ k → k < end → IsFreeSpot passes size k → ⊥)
    → IsRunCleared from end old new → IsCleared passes size at old → IsCleared passes size end new
cleared_more passes size at from end old new free_there none_there run cleared =
    let same : (k : ℕ) → (k < from) ⊎ (end ≤ k) → k < length new → (get_or new k 0 ≡ free) ⊎ ((get_or new k 0 ≡ 0) × (IsFreeSpot passes size k → ⊥)) = λ k out within. elim (cleared.each k (omega (arith, within, run.long))) [
      | inl is ↦ inl (run.kept k out ∙ is)
      | inr none ↦ inr (run.kept k out ∙ none.0, none.1)
    ] in
    let was : (k : ℕ) → k < from → (get_or new k 0 ≡ 0) ⊎ IsFreeSpot passes size k = λ k before. elim (cases_lt k at) [
      | inl done ↦ elim (cleared.cleared k done) [ inl zero_there ↦ inl (run.kept k (inl before) ∙ zero_there) | inr is ↦ inr is ]
      | inr low ↦ inr (free_there k low before)
    ] in
    record {
      long = run.long ∙ cleared.long;
      each = λ k within. elim (cases_lt k from) [
        | inl before ↦ same k (inl before) within
        | inr low ↦ elim (cases_lt k end) [
          | inl high ↦ inr (run.cleared k low high, none_there k low high)
          | inr after ↦ same k (inr after) within
        ]
      ];
      cleared = λ k below. elim (cases_lt k from) [
        | inl before ↦ was k before
        | inr low ↦ inl (run.cleared k low below)
      ];
    }

-- no cell has a place before the first row
pub none_first : (passes : Cell → Bool) (size : Size) (k : ℕ) → k < size.w + 3 → IsFreeSpot passes size k → ⊥
none_first passes size k below found = omega (arith, below, found.1.1, spot_of-low size found.0)

-- nor between a row and the next
pub none_between : (passes : Cell → Bool) (size : Size) (j k : ℕ) → ((cell : Cell) → IsTrue (passes cell) → IsInside size cell) → spot_of size (cell_at size.w j) ≤ k → k < spot_of size (cell_at 0 (j + 1))
    → IsFreeSpot passes size k → ⊥
none_between passes size j k within low high found =
    let cell = found.0 in
    let inside = within cell found.1.0 in
    let next = place_more (j + 1) (size.w + 2) in
    elim (cases_lt j cell.j) [
      | inl later ↦ omega (arith, found.1.1, high, next, mul-le (j + 2) (size.w + 2) (cell.j + 1) (size.w + 2) (omega (arith, later)) (omega arith))
      | inr earlier ↦ omega (arith, found.1.1, low, next, inside.column, mul-le (cell.j + 1) (size.w + 2) (j + 1) (size.w + 2) (omega (arith, earlier)) (omega arith))
    ]

-- nor behind the last row
pub none_last : (passes : Cell → Bool) (size : Size) (k : ℕ) → ((cell : Cell) → IsTrue (passes cell) → IsInside size cell) → spot_of size (cell_at 0 size.h) ≤ k → IsFreeSpot passes size k → ⊥
none_last passes size k within low found =
    let cell = found.0 in
    let inside = within cell found.1.0 in
    omega (arith, found.1.1, low, inside.column, mul-le (cell.j + 1) (size.w + 2) size.h (size.w + 2) (omega (arith, inside.row)) (omega arith), place_more size.h (size.w + 2))

-- the place of a row's first cell
pub place_of_first : (of size : Size) (cell : Cell) (j place : ℕ) → of ≡ size → cell ≡ cell_at 0 j → place ≡ spot_of of cell → place ≡ spot_of size (cell_at 0 j)
place_of_first of size cell j place same_size same_cell is = subst (λ (s : Size). place ≡ spot_of s (cell_at 0 j)) same_size (subst (λ (c : Cell). place ≡ spot_of of c) same_cell is)

-- a run of cells of a row
pub row_more : (passes : Cell → Bool) (size : Size) (i j from end row : ℕ) (old new : List ℕ) → ((cell : Cell) → IsTrue (passes cell) → IsInside size cell) → row ≡ spot_of size (cell_at 0 j)
    → j < size.h → end ≤ size.w
    → ((k : ℕ) → i ≤ k → k < from → IsTrue (passes (cell_at k j))) → ((k : ℕ) → from ≤ k → k < end → IsFalse (passes (cell_at k j)))
    → IsRunCleared (row + from) (row + end) old new → IsCleared passes size (row + i) old → IsCleared passes size (row + end) new
row_more passes size i j from end row old new within is low within_row free_there blocked run cleared =
    cleared_more passes size (row + i) (row + from) (row + end) old new
    (λ k above below. (cell_at (k - row) j, (free_there (k - row) (omega (arith, above)) (omega (arith, above, below)), omega (arith, is, above))))
    (λ k above below found.
    let cell = found.0 in
    let here = cell_at (k - row) j in
    let inside : IsInside size here = record { column = omega (arith, above, below, within_row); row = low } in
    let same : cell ≡ here = spot_of-inj size cell here (within cell found.1.0) inside (omega (arith, sym found.1.1, is, above)) in
    both_ways (passes here) (blocked (k - row) (omega (arith, above)) (omega (arith, above, below))) (subst (λ (c : Cell). IsTrue (passes c)) same found.1.0))
    run cleared

pub filled_of_cleared : (passes : Cell → Bool) (size : Size) (end : ℕ) (marks : List ℕ) → ((cell : Cell) → IsTrue (passes cell) → IsInside size cell) → end ≡ length marks → IsCleared passes size end marks → IsFilled passes size marks
filled_of_cleared passes size end marks within all cleared = record {
  long = cleared.long;
  each = λ k. elim (cases_lt k (length marks)) [
    | inl below ↦ elim (cleared.cleared k (omega (arith, below, all))) [
      | inl none ↦ inl none
      | inr is ↦ elim (cleared.each k below) [
        | inl is_free ↦ inr (is_free, is)
        | inr none ↦ absurd (none.1 is)
      ]
    ]
    | inr past ↦ inl (get_or_past marks k 0 past)
  ];
  passable = λ cell passable.
      let k = spot_of size cell in
      elim (cleared.each k (omega (arith, spot_of-lt size cell (within cell passable), cleared.long))) [
        | inl is_free ↦ is_free
        | inr none ↦ absurd (none.1 (cell, (passable, refl)))
      ];
}

-- ---- targets

pub spreading_as : (passes hit : Cell → Bool) (start : Cell) (size : Size) (Found More : Cell → Type 0) (marks : List ℕ) (Waiting : ℕ → Type 0)
    → ((target : Cell) → IsTrue (hit target) → Joined passes start target → More target → Found target ⊎ (mark_of size marks target ≡ 1))
    → IsSpreading passes hit start size Found NoStep marks Waiting → IsSpreading passes hit start size More NoStep marks Waiting
spreading_as passes hit start size Found More marks Waiting turn spreads = record {
  sound = spreads.sound;
  reached = spreads.reached;
  ends = λ target more is_hit joined. elim (turn target is_hit joined more) [
    | inl found ↦ spreads.ends target found is_hit joined
    | inr marked ↦ marked
  ];
  settled = spreads.settled;
}

pub found_target : (passes hit : Cell → Bool) (start : Cell) (size : Size) (rect : Rect) (cell : Cell) (at : ℕ) (old new : FieldSpread) → IsTrue (passes cell) → IsTrue (hit cell) → Joined passes start cell → at ≡ spot_of size cell
    → IsLowered at at at 1 old new → IsSpreading passes hit start size (FoundBefore rect cell) NoStep old.marks.items (WaitsIn old)
    → IsSpreading passes hit start size (FoundTo rect cell) NoStep new.marks.items (WaitsIn new)
found_target passes hit start size rect cell at old new passable is_hit joined is (inl (pair, falls)) spreads =
    let marks = old.marks.items in
    let sound = spreads.sound in
    let fall : IsFall passes hit start size marks cell 1 = record {
      passable = passable;
      some = omega arith;
      less = omega (arith, falls.less, ap (λ (k : ℕ). get_or marks k 0) is);
      joined = joined;
      walk = ([], record { target = cell; is_hit = is_hit; walk = refl; costs = refl });
      most = omega arith;
    } in
    let queued : IsQueued (spot_of size cell) (WaitsIn old) (WaitsIn new) = subst (λ (k : ℕ). IsQueued k (WaitsIn old) (WaitsIn new)) is
    (record { kept = falls.kept; added = falls.added; only = falls.only }) in
    let fallen = spreading_fallen passes hit start size (FoundBefore rect cell) NoStep marks (WaitsIn old) (WaitsIn new) cell 1 fall queued spreads in
    let same : set marks (spot_of size cell) 1 ≡ new.marks.items = ap (λ (k : ℕ). set marks k 1) (sym is) ∙ sym falls.marks in
    let now = subst (λ (m : List ℕ). IsSpreading passes hit start size (FoundBefore rect cell) NoStep m (WaitsIn new)) same fallen in
    let within : spot_of size cell < length marks = omega (arith, spot_of-lt size cell (sound.inside cell passable), sound.long) in
    let marked : mark_of size new.marks.items cell ≡ 1 = ap (λ (m : List ℕ). get_or m (spot_of size cell) 0) (sym same) ∙ get_or-set_same marks (spot_of size cell) 1 0 within in
    spreading_as passes hit start size (FoundBefore rect cell) (FoundTo rect cell) new.marks.items (WaitsIn new)
    (λ target hit_there joined_there to. elim to.1 [
      | inl before ↦ inl (to.0, before)
      | inr here ↦ inr (ap (λ (c : Cell). mark_of size new.marks.items c) here ∙ marked)
    ]) now
found_target passes hit start size rect cell at old new passable is_hit joined is (inr (none, stays)) spreads =
    let marks = old.marks.items in
    let same = ap (λ (k : ℕ). get_or marks k 0) is in
    let some : 0 < get_or marks at 0 = omega (arith, spreads.sound.passable cell passable, same) in
    let marked : mark_of size marks cell ≡ 1 = omega (arith, none (some, some), some, same) in
    let wide = spreading_as passes hit start size (FoundBefore rect cell) (FoundTo rect cell) marks (WaitsIn old)
    (λ target hit_there joined_there to. elim to.1 [
      | inl before ↦ inl (to.0, before)
      | inr here ↦ inr (ap (λ (c : Cell). mark_of size marks c) here ∙ marked)
    ]) spreads in
    let first = subst (λ (m : List ℕ). IsSpreading passes hit start size (FoundTo rect cell) NoStep m (Waits old.straight old.diagonal)) (sym stays.marks) wide in
    let second = subst (λ (q : List ℕ). IsSpreading passes hit start size (FoundTo rect cell) NoStep new.marks.items (Waits q old.diagonal)) (sym stays.straight) first in
    subst (λ (q : List ℕ). IsSpreading passes hit start size (FoundTo rect cell) NoStep new.marks.items (Waits new.straight q)) (sym stays.diagonal) second

pub no_target : (passes hit : Cell → Bool) (start : Cell) (size : Size) (rect : Rect) (cell : Cell) (marks : List ℕ) (Waiting : ℕ → Type 0) → (IsTrue (hit cell) → Joined passes start cell → ⊥)
    → IsSpreading passes hit start size (FoundBefore rect cell) NoStep marks Waiting → IsSpreading passes hit start size (FoundTo rect cell) NoStep marks Waiting
no_target passes hit start size rect cell marks Waiting none spreads =
    spreading_as passes hit start size (FoundBefore rect cell) (FoundTo rect cell) marks Waiting
    (λ target is_hit joined to. elim to.1 [
      | inl before ↦ inl (to.0, before)
      | inr here ↦ absurd (none (subst (λ (c : Cell). IsTrue (hit c)) here is_hit) (subst (λ (c : Cell). Joined passes start c) here joined))
    ]) spreads

-- the cell of a place with a mark is passable
pub marked_passes : (passes hit : Cell → Bool) (start : Cell) (size : Size) (cell : Cell) (marks : List ℕ) → IsSound passes hit start size marks → IsInside size cell → 0 < mark_of size marks cell → IsTrue (passes cell)
marked_passes passes hit start size cell marks sound inside some =
    let found = sound.cells (spot_of size cell) some in
    subst (λ (c : Cell). IsTrue (passes c)) (spot_of-inj size found.0 cell (sound.inside found.0 found.1.0) inside (sym found.1.1)) found.1.0

-- cells of a rectangle before the next one, and before the next row
pub to_before : (rect : Rect) (i j : ℕ) (target : Cell) → FoundBefore rect (cell_at (i + 1) j) target → FoundTo rect (cell_at i j) target
to_before rect i j target found = (found.0, before_next target (cell_at i j) found.1)

pub next_row : (rect : Rect) (i j : ℕ) (target : Cell) → rect.i1 < i → FoundBefore rect (cell_at rect.i0 (j + 1)) target → FoundBefore rect (cell_at i j) target
next_row rect i j target past found =
    let within = found.0 in (
      within,
      elim found.1 [
        | inl rows ↦ elim (cases_eq target.j j) [
          | inl same ↦ inr (same, omega (arith, within.east))
          | inr other ↦ inl (omega arith)
        ]
        | inr same ↦ absurd (omega (arith, same.1, within.west))
      ],
    )

pub none_before : (rect : Rect) (target : Cell) → FoundBefore rect (cell_at rect.i0 rect.j0) target → ⊥
none_before rect target found =
    let within = found.0 in
    elim found.1 [
      | inl rows ↦ omega (arith, rows, within.south)
      | inr same ↦ omega (arith, same.1, within.west)
    ]

pub all_before : (rect : Rect) (j : ℕ) (target : Cell) → rect.j1 < j → IsInRect rect target → FoundBefore rect (cell_at rect.i0 j) target
all_before rect j target past within = (within, inl (omega (arith, within.north)))
