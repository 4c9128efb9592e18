-- Sides make a ring, and rings make wider rectangles.
use Rattle.std.proofs.Common.{ℕ, true, ◌≡◌, ◌==◌, ◌&&◌, ◌∙◌, ap, ◌+◌, ◌-◌, ◌<◌, ◌≤◌, ◌⊎◌, inl, inr, Option, Some, subst, sym, arith}
use Rattle.std.proofs.lemmas.Bool.{cases_lt, and_parts, eqb-true}
use Rattle.std.proofs.Math.Nat.{le-min, min-le_left, min-le_right}
use Rattle.nav_types.specs.declared.cells.Cell.{Cell}
use Rattle.nav_types.specs.declared.cells.Rect.{Rect}
use Rattle.nav_types.specs.declared.cells.Size.{Size}
use Rattle.nav_types.specs.Cells.{IsInside, IsInRect}
use Rattle.nav_types.specs.declared.straights.Axis.TheVariants.{Row, Column}
use Rattle.goal_reach.specs.declared.rings.RingBlock.{RingBlock}
use Rattle.nav_types.specs.Rects.{map_rect}
use Rattle.goal_reach.specs.inner.Rings.{widened, clipped, Encloses, IsOnRing, IsInBlock}
use Rattle.goal_reach.specs.declared.choices.Ranked.{Ranked}
use Rattle.goal_reach.specs.inner.Ranking.{IsNoWorse, IsBest}
use Rattle.goal_reach.proofs.Choosing.{both_best, best_stays, best_of_more}

-- a rectangle has a cell or has it not
pub in_rect_or_not : (rect : Rect) (cell : Cell) → IsInRect rect cell ⊎ (IsInRect rect cell → ⊥)
in_rect_or_not rect cell = elim (cases_lt cell.i rect.i0) [
  | inl off ↦ inr (λ h. (let west = h.west in omega arith))
  | inr west ↦ elim (cases_lt rect.i1 cell.i) [
    | inl off ↦ inr (λ h. (let east = h.east in omega arith))
    | inr east ↦ elim (cases_lt cell.j rect.j0) [
      | inl off ↦ inr (λ h. (let south = h.south in omega arith))
      | inr south ↦ elim (cases_lt rect.j1 cell.j) [
        | inl off ↦ inr (λ h. (let north = h.north in omega arith))
        | inr north ↦ inl (record { west = west; east = east; south = south; north = north })
      ]
    ]
  ]
]

-- ---- the sides of a ring

abbrev pub south_side : Rect → Rect → RingBlock
south_side inner outer = record { axis = Row; first_line = outer.j0; past_line = inner.j0; from = outer.i0; end = outer.i1 + 1 }

abbrev pub north_side : Rect → Rect → RingBlock
north_side inner outer = record { axis = Row; first_line = inner.j1 + 1; past_line = outer.j1 + 1; from = outer.i0; end = outer.i1 + 1 }

abbrev pub west_side : Rect → Rect → RingBlock
west_side inner outer = record { axis = Column; first_line = outer.i0; past_line = inner.i0; from = inner.j0; end = inner.j1 + 1 }

abbrev pub east_side : Rect → Rect → RingBlock
east_side inner outer = record { axis = Column; first_line = inner.i1 + 1; past_line = outer.i1 + 1; from = inner.j0; end = inner.j1 + 1 }

abbrev pub IsOnSides : Rect → Rect → Cell → Type 0
IsOnSides inner outer cell =
    (IsInBlock (south_side inner outer) cell ⊎ IsInBlock (north_side inner outer) cell)
    ⊎ (IsInBlock (west_side inner outer) cell ⊎ IsInBlock (east_side inner outer) cell)

-- each cell of the ring is on one side
pub ring_sides : (inner outer : Rect) (cell : Cell) → IsOnRing inner outer cell → IsOnSides inner outer cell
ring_sides inner outer cell (h, off) =
    let west = h.west in let east = h.east in let south = h.south in let north = h.north in
    elim (cases_lt cell.j inner.j0) [
      | inl below ↦ inl (inl (record { first_line = south; past_line = below; from = west; end = omega arith }))
      | inr from ↦ elim (cases_lt inner.j1 cell.j) [
        | inl above ↦ inl (inr (record { first_line = omega arith; past_line = omega arith; from = west; end = omega arith }))
        | inr to ↦ elim (cases_lt cell.i inner.i0) [
          | inl before ↦ inr (inl (record { first_line = west; past_line = before; from = from; end = omega arith }))
          | inr begun ↦ elim (cases_lt inner.i1 cell.i) [
            | inl past ↦ inr (inr (record { first_line = omega arith; past_line = omega arith; from = from; end = omega arith }))
            | inr inside ↦ absurd (off (record { west = begun; east = inside; south = from; north = to }))
          ]
        ]
      ]
    ]

-- each cell on a side is one of the ring
pub sides_ring : (inner outer : Rect) → Encloses outer inner → inner.i0 ≤ inner.i1 → inner.j0 ≤ inner.j1
    → (cell : Cell) → IsOnSides inner outer cell → IsOnRing inner outer cell
sides_ring inner outer holds columns rows cell (inl (inl h)) =
    let west = h.from in let east = h.end in let south = h.first_line in let north = h.past_line in
    let a = holds.west in let b = holds.east in let c = holds.south in let d = holds.north in
    (record { west = west; east = omega arith; south = south; north = omega arith }, (λ off. (let e = off.south in omega arith)))
sides_ring inner outer holds columns rows cell (inl (inr h)) =
    let west = h.from in let east = h.end in let south = h.first_line in let north = h.past_line in
    let a = holds.west in let b = holds.east in let c = holds.south in let d = holds.north in
    (record { west = west; east = omega arith; south = omega arith; north = omega arith }, (λ off. (let e = off.north in omega arith)))
sides_ring inner outer holds columns rows cell (inr (inl h)) =
    let west = h.first_line in let east = h.past_line in let south = h.from in let north = h.end in
    let a = holds.west in let b = holds.east in let c = holds.south in let d = holds.north in
    (record { west = west; east = omega arith; south = omega arith; north = omega arith }, (λ off. (let e = off.west in omega arith)))
sides_ring inner outer holds columns rows cell (inr (inr h)) =
    let west = h.first_line in let east = h.past_line in let south = h.from in let north = h.end in
    let a = holds.west in let b = holds.east in let c = holds.south in let d = holds.north in
    (record { west = omega arith; east = omega arith; south = omega arith; north = omega arith }, (λ off. (let e = off.east in omega arith)))

-- ---- wider rectangles

clip : (size : Size) (rect : Rect) (cell : Cell) → IsInside size cell → IsInRect rect cell → IsInRect (clipped size rect) cell
clip size rect cell inside h =
    let column = inside.column in let row = inside.row in
    record { west = h.west; east = le-min h.east (omega arith); south = h.south; north = le-min h.north (omega arith) }

unclip : (size : Size) (rect : Rect) (cell : Cell) → IsInRect (clipped size rect) cell → IsInRect rect cell
unclip size rect cell h =
    let east = h.east in let north = h.north in
    let a = min-le_left rect.i1 (size.w - 1) in let b = min-le_left rect.j1 (size.h - 1) in
    record { west = h.west; east = omega arith; south = h.south; north = omega arith }

-- a rectangle of one ring more holds that of one less
pub wider_holds : (size : Size) (core : Rect) (rings : ℕ) → Encloses (clipped size (widened (rings + 1) core)) (clipped size (widened rings core))
wider_holds size core rings =
    let a = min-le_left (core.i1 + rings) (size.w - 1) in let b = min-le_right (core.i1 + rings) (size.w - 1) in
    let c = min-le_left (core.j1 + rings) (size.h - 1) in let d = min-le_right (core.j1 + rings) (size.h - 1) in
    record {
      west = omega arith;
      east = le-min {a = core.i1 + (rings + 1)} {b = size.w - 1} (omega arith) b;
      south = omega arith;
      north = le-min {a = core.j1 + (rings + 1)} {b = size.h - 1} (omega arith) d;
    }

widen : (core : Rect) (rings : ℕ) (cell : Cell) → IsInRect (widened rings core) cell → IsInRect (widened (rings + 1) core) cell
widen core rings cell h =
    let west = h.west in let east = h.east in let south = h.south in let north = h.north in
    record { west = omega arith; east = omega arith; south = omega arith; north = omega arith }

-- the best of the next ring and of all within it
pub ring_adds : (rank : Cell → ℕ) (Offered : Cell → Type 0) (size : Size) (core inner outer : Rect) (rings : ℕ) (best next result : Option Ranked)
    → ((cell : Cell) → Offered cell → IsInside size cell) → inner ≡ clipped size (widened rings core) → outer ≡ clipped size (widened (rings + 1) core)
    → IsBest rank (λ cell. Offered cell × IsInRect (widened rings core) cell) best → IsBest rank (λ cell. Offered cell × IsOnRing inner outer cell) next
    → (result ≡ best) ⊎ (result ≡ next) → IsNoWorse result best → IsNoWorse result next
    → IsBest rank (λ cell. Offered cell × IsInRect (widened (rings + 1) core) cell) result
ring_adds rank Offered size core inner outer rings best next result within is_inner is_outer was ring one over_best over_next =
    both_best rank (λ cell. Offered cell × IsInRect (widened rings core) cell) (λ cell. Offered cell × IsOnRing inner outer cell)
    (λ cell. Offered cell × IsInRect (widened (rings + 1) core) cell) best next result was ring one over_best over_next
    (λ cell old. (old.0, widen core rings cell old.1))
    (λ cell new. (new.0, unclip size (widened (rings + 1) core) cell (subst (λ (rect : Rect). IsInRect rect cell) is_outer new.1.0)))
    (λ cell both. (
    let inside = within cell both.0 in
    elim (in_rect_or_not (widened rings core) cell) [
      | inl old ↦ inl (both.0, old)
      | inr off ↦ inr (
        both.0,
        (
          subst (λ (rect : Rect). IsInRect rect cell) (sym is_outer) (clip size (widened (rings + 1) core) cell inside both.1),
          (λ h. off (unclip size (widened rings core) cell (subst (λ (rect : Rect). IsInRect rect cell) is_inner h))),
        ),
      )
    ]))

whole_has : (size : Size) (cell : Cell) → IsInside size cell → IsInRect (map_rect size) cell
whole_has size cell inside = let column = inside.column in let row = inside.row in record { west = omega arith; east = omega arith; south = omega arith; north = omega arith }

-- rectangles are one where their borders are
pub same_rect : (a b : Rect) → ((a.i0 == b.i0) && ((a.j0 == b.j0) && ((a.i1 == b.i1) && (a.j1 == b.j1)))) ≡ true → a ≡ b
same_rect a b same =
    let west = and_parts (a.i0 == b.i0) ((a.j0 == b.j0) && ((a.i1 == b.i1) && (a.j1 == b.j1))) same in
    let south = and_parts (a.j0 == b.j0) ((a.i1 == b.i1) && (a.j1 == b.j1)) west.1 in
    let sides = and_parts (a.i1 == b.i1) (a.j1 == b.j1) south.1 in
    ap (λ i0. record { i0 = i0; j0 = a.j0; i1 = a.i1; j1 = a.j1 }) (eqb-true a.i0 b.i0 west.0)
    ∙ ap (λ j0. record { i0 = b.i0; j0 = j0; i1 = a.i1; j1 = a.j1 }) (eqb-true a.j0 b.j0 south.0)
    ∙ ap (λ i1. record { i0 = b.i0; j0 = b.j0; i1 = i1; j1 = a.j1 }) (eqb-true a.i1 b.i1 sides.0)
    ∙ ap (λ j1. record { i0 = b.i0; j0 = b.j0; i1 = b.i1; j1 = j1 }) (eqb-true a.j1 b.j1 sides.1)

-- where all the map has been looked at
pub all_of_map : (rank : Cell → ℕ) (Offered : Cell → Type 0) (size : Size) (core : Rect) (rings : ℕ) (best : Option Ranked)
    → ((cell : Cell) → Offered cell → IsInside size cell) → clipped size (widened rings core) ≡ map_rect size
    → IsBest rank (λ cell. Offered cell × IsInRect (widened rings core) cell) best → IsBest rank Offered best
all_of_map rank Offered size core rings best within is was =
    best_stays rank (λ cell. Offered cell × IsInRect (widened rings core) cell) Offered best was
    (λ cell old. old.0)
    (λ cell new. (new, unclip size (widened rings core) cell (subst (λ (rect : Rect). IsInRect rect cell) (sym is) (whole_has size cell (within cell new)))))

-- where no cell beyond is as good as the best
pub none_beyond : (rank : Cell → ℕ) (Offered : Cell → Type 0) (size : Size) (core : Rect) (rings least : ℕ) (best : Option Ranked)
    → ((cell : Cell) → Offered cell → IsInside size cell) → ((cell : Cell) → IsInside size cell → (IsInRect (widened rings core) cell → ⊥) → least ≤ rank cell)
    → (found : Ranked) × ((best ≡ Some found) × (found.rank < least))
    → IsBest rank (λ cell. Offered cell × IsInRect (widened rings core) cell) best → IsBest rank Offered best
none_beyond rank Offered size core rings least best within beyond (found, (is, less)) was =
    subst (IsBest rank Offered) (sym is) (
    best_of_more rank Offered (λ cell. IsInRect (widened rings core) cell) found
    (subst (IsBest rank (λ cell. Offered cell × IsInRect (widened rings core) cell)) is was)
    (λ cell offered. elim (in_rect_or_not (widened rings core) cell) [
      | inl old ↦ inl old
      | inr off ↦ (let at_least = beyond cell (within cell offered) off in inr (omega arith))
    ]))
