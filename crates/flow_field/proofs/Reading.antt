-- What a table of marks says of a field.
use Rattle.std.proofs.Common.{ℕ, ◌≡◌, ◌+◌, ◌-◌, ◌*◌, ◌<◌, ◌⊎◌, inl, inr, Bool, true, false, ltb, List, [], ◌∷◌, ◌++◌, IsTrue, length, get_or, Option, Some, None, refl, sym, ap, ◌∙◌, subst, arith}
use Rattle.std.specs.Option.{IsSome}
use Rattle.std.proofs.lemmas.Bool.{false≢true, cases_lt, lt-ltb, le-ltb, cond-true, cond-false, and_from, and_left, and_right, and_parts, ltb-true}
use Rattle.std.proofs.lemmas.Option.{none-some}
use Rattle.std.proofs.lemmas.List.FromFn.{length-map-range_with_len, get_or-map-range_with_len}
use Rattle.std.proofs.lemmas.List.Sums.{sum_by-cons}
use Rattle.nav_types.specs.declared.cells.Cell.{Cell}
use Rattle.nav_types.specs.declared.cells.Size.{Size}
use Rattle.nav_types.specs.declared.directions.Dir.{Dir}
use Rattle.nav_types.specs.Beside.{IsFreeBeside}
use Rattle.nav_types.specs.Cells.{IsInside}
use Rattle.nav_types.specs.Directions.{step_cost, is_straight, row_part, column_part, Leads}
use Rattle.nav_types.specs.Places.{place_of, cell_of}
use Rattle.nav_types.specs.Walks.{Step, Joined, walk_cost}
use Rattle.nav_types.proofs.CellPlaces.{place_of-lt, cell_of-place_of}
use Rattle.nav_types.proofs.Walking.{IsWalk-push, Joined-passes, free_is_legal, legal_is_free, ways_straight, straight_step}
use Rattle.flow_field.specs.Flows.{LeadsToTarget, IsNearest, IsFar, Descends, far_in, IsFieldOf}
use Rattle.flow_field.specs.inner.Marks.{free, spot_of, cell_at_spot, mark_of, is_reached, far_of, cells_of, IsBesideSpot, IsTable}
use Rattle.flow_field.specs.inner.Ways.{IsReached, IsReachedBeside, LeadsNearer}
use Rattle.flow_field.proofs.Spots.{leads_beside, beside_leads, beside_same}

-- a mark is that of a reached cell or it is not
pub mark_cases : (mark : ℕ) → (((0 < mark) × (mark < free)) × (is_reached mark ≡ true)) ⊎ (((0 < mark) → mark < free → ⊥) × (is_reached mark ≡ false))
mark_cases mark = elim (cases_lt 0 mark) [
  | inl some ↦ elim (cases_lt mark free) [
    | inl below ↦ inl ((some, below), and_from (ltb 0 mark) (ltb mark free) (lt-ltb 0 mark some) (lt-ltb mark free below))
    | inr above ↦ inr (λ _ below. omega (arith, below, above), and_right (ltb 0 mark) (ltb mark free) (le-ltb mark free above))
  ]
  | inr none ↦ inr (λ some _. omega (arith, some, none), and_left (ltb 0 mark) (ltb mark free) (le-ltb 0 mark none))
]

pub reached_parts : (mark : ℕ) → is_reached mark ≡ true → (0 < mark) × (mark < free)
reached_parts mark is = let parts = and_parts (ltb 0 mark) (ltb mark free) is in (ltb-true 0 mark parts.0, ltb-true mark free parts.1)

pub reached_from : (mark : ℕ) → 0 < mark → mark < free → is_reached mark ≡ true
reached_from mark some below = and_from (ltb 0 mark) (ltb mark free) (lt-ltb 0 mark some) (lt-ltb mark free below)

pub far_of-reached : (mark : ℕ) → is_reached mark ≡ true → far_of mark ≡ Some (mark - 1)
far_of-reached mark is = cond-true (is_reached mark) (Some (mark - 1)) None is

pub far_of-none : (mark : ℕ) → is_reached mark ≡ false → far_of mark ≡ None
far_of-none mark is = cond-false (is_reached mark) (Some (mark - 1)) None is

pub reached_of_some : (mark cost : ℕ) → Some cost ≡ far_of mark → (0 < mark) × (mark < free)
reached_of_some mark cost is = elim (mark_cases mark) [
  | inl known ↦ known.0
  | inr none ↦ absurd (none-some cost (sym (far_of-none mark none.1) ∙ sym is))
]

-- the model's Far of a cell is that of its mark
pub far_in_is : (size : Size) (marks : List ℕ) (cell : Cell) → IsInside size cell → far_in (cells_of size marks) cell ≡ far_of (mark_of size marks cell)
far_in_is size marks cell inside =
    let f : ℕ → Option ℕ = λ place. far_of (mark_of size marks (cell_of size place)) in
    get_or-map-range_with_len f 0 (size.w * size.h) (place_of size cell) (place_of size cell) None (place_of-lt size cell inside) (omega arith)
    ∙ ap (λ (c : Cell). far_of (mark_of size marks c)) (cell_of-place_of size cell inside)

pub known_of_far : (size : Size) (marks : List ℕ) (cell : Cell) → IsInside size cell → IsSome (far_in (cells_of size marks) cell) → IsReached marks (spot_of size cell)
known_of_far size marks cell inside some =
    let mark = mark_of size marks cell in
    let here : IsSome (far_of mark) = subst (λ (o : Option ℕ). IsSome o) (far_in_is size marks cell inside) some in
    elim (mark_cases mark) [
      | inl known ↦ record { some = known.0.0; known = known.0.1 }
      | inr none ↦ let no : IsSome (let o : Option ℕ = None in o) = subst (λ (o : Option ℕ). IsSome o) (far_of-none mark none.1) here in absurd (false≢true no)
    ]

pub cells_cover : (size : Size) (marks : List ℕ) → length (cells_of size marks).fars ≡ size.w * size.h
cells_cover size marks = length-map-range_with_len (λ (place : ℕ). far_of (mark_of size marks (cell_of size place))) 0 (size.w * size.h)

-- ---- what a field says of marks

pub far_at : (passes hit : Cell → Bool) (start : Cell) (size : Size) (marks : List ℕ) (cell : Cell) → IsFieldOf passes hit start (cells_of size marks) → IsInside size cell
    → IsFar passes hit start cell (far_of (mark_of size marks cell))
far_at passes hit start size marks cell field inside = subst (λ (far : Option ℕ). IsFar passes hit start cell far) (far_in_is size marks cell inside) (field.fars cell inside)

pub reached_far : (passes hit : Cell → Bool) (start : Cell) (size : Size) (marks : List ℕ) (cell : Cell) → IsFieldOf passes hit start (cells_of size marks) → IsInside size cell
    → is_reached (mark_of size marks cell) ≡ true → Joined passes start cell × IsNearest passes hit cell (mark_of size marks cell - 1)
reached_far passes hit start size marks cell field inside is =
    subst (λ (far : Option ℕ). IsFar passes hit start cell far) (far_of-reached (mark_of size marks cell) is) (far_at passes hit start size marks cell field inside)

pub joined_reached : (passes hit : Cell → Bool) (start : Cell) (size : Size) (marks : List ℕ) (cell : Cell) → IsFieldOf passes hit start (cells_of size marks) → IsInside size cell
    → Joined passes start cell → (0 < mark_of size marks cell) × (mark_of size marks cell < free)
joined_reached passes hit start size marks cell field inside joined = elim (mark_cases (mark_of size marks cell)) [
  | inl known ↦ known.0
  | inr none ↦ absurd (subst (λ (far : Option ℕ). IsFar passes hit start cell far) (far_of-none (mark_of size marks cell) none.1) (far_at passes hit start size marks cell field inside) joined)
]

pub IsNearest-unique : (passes hit : Cell → Bool) (cell : Cell) (a b : ℕ) → IsNearest passes hit cell a → IsNearest passes hit cell b → a ≡ b
IsNearest-unique passes hit cell a b p q =
    let here = p.walk.1 in
    let there = q.walk.1 in
    omega (arith, p.least there.target q.walk.0 there.is_hit there.walk, there.costs, q.least here.target p.walk.0 here.is_hit here.walk, here.costs)

-- a table and the field that it is
pub record IsReadAt (passes hit : Cell → Bool) (start : Cell) (size : Size) (marks : List ℕ) (cell : Cell) (at : ℕ) : Type 0 where
  pub table : IsTable size marks
  pub field : IsFieldOf passes hit start (cells_of size marks)
  pub inside : IsInside size cell
  pub is : at ≡ spot_of size cell
  pub known : IsReached marks at

pub read_joined : (passes hit : Cell → Bool) (start : Cell) (size : Size) (marks : List ℕ) (cell : Cell) (at : ℕ) → IsReadAt passes hit start size marks cell at
    → Joined passes start cell × IsNearest passes hit cell (get_or marks at 0 - 1)
read_joined passes hit start size marks cell at read =
    let same : mark_of size marks cell ≡ get_or marks at 0 = ap (λ (k : ℕ). get_or marks k 0) (sym read.is) in
    let known = read.known in
    let far = reached_far passes hit start size marks cell read.field read.inside (reached_from (mark_of size marks cell) (omega (arith, known.some)) (omega (arith, known.known))) in
    (far.0, subst (λ (n : ℕ). IsNearest passes hit cell (n - 1)) same far.1)

-- the cell of a reached place beside
read_beside : (passes hit : Cell → Bool) (start : Cell) (size : Size) (marks : List ℕ) (cell : Cell) (at to : ℕ) (dir : Dir) → IsReadAt passes hit start size marks cell at
    → IsBesideSpot (size.w + 2) dir at to → IsReached marks to → (next : Cell) × (IsReadAt passes hit start size marks next to × (Leads dir cell next × IsTrue (passes next)))
read_beside passes hit start size marks cell at to dir read beside known =
    let place = read.table.cells to known.some in
    let next = cell_at_spot size to in
    let there : IsReadAt passes hit start size marks next to = record { table = read.table; field = read.field; inside = place.inside; is = place.same; known = known } in
    let far = read_joined passes hit start size marks next to there in
    (next, (there, (leads_beside size dir cell next at to read.inside place.inside read.is place.same beside, Joined-passes passes start next read.field.begins far.0)))

free_beside : (passes hit : Cell → Bool) (start : Cell) (size : Size) (marks : List ℕ) (cell : Cell) (at : ℕ) (dir : Dir) → IsReadAt passes hit start size marks cell at
    → IsReachedBeside size marks at dir → IsFreeBeside passes cell dir
free_beside passes hit start size marks cell at dir read beside =
    let next = read_beside passes hit start size marks cell at beside.0 dir read beside.1.0 beside.1.1 in
    (next.0, (next.1.1.0, next.1.1.1))

pub nearer_descends : (passes hit : Cell → Bool) (start : Cell) (size : Size) (marks : List ℕ) (cell : Cell) (at : ℕ) (dir : Dir) → IsReadAt passes hit start size marks cell at
    → LeadsNearer size marks at dir → Descends passes hit cell dir
nearer_descends passes hit start size marks cell at dir read nearer =
    let here = read_joined passes hit start size marks cell at read in
    let passable = Joined-passes passes start cell read.field.begins here.0 in
    let ahead = read_beside passes hit start size marks cell at nearer.ahead dir read nearer.to nearer.nearer in
    let legal = free_is_legal passes dir cell passable (ahead.0, (ahead.1.1.0, ahead.1.1.1))
    (free_beside passes hit start size marks cell at (row_part dir) read nearer.row) (free_beside passes hit start size marks cell at (column_part dir) read nearer.column) in
    let next = legal.0 in
    let step = legal.1 in
    let in_next = read.field.inside next step.next in
    let beside = subst (λ (k : ℕ). IsBesideSpot (size.w + 2) dir k (spot_of size next)) (sym read.is) (beside_leads size dir cell next step.leads) in
    let same : nearer.ahead ≡ spot_of size next = beside_same (size.w + 2) dir at nearer.ahead (spot_of size next) nearer.to beside in
    let there : IsReadAt passes hit start size marks next nearer.ahead = record { table = read.table; field = read.field; inside = in_next; is = same; known = nearer.nearer } in
    let far = read_joined passes hit start size marks next nearer.ahead there in
    let known = nearer.nearer in
    let sums : get_or marks at 0 - 1 ≡ get_or marks nearer.ahead 0 - 1 + step_cost dir = omega (arith, nearer.less, known.some) in
    record {
      next = next;
      step = step;
      cost = get_or marks nearer.ahead 0 - 1;
      far = far.1;
      here = subst (λ (n : ℕ). IsNearest passes hit cell n) sums here.1;
    }

-- a passable cell beside is reached
beside_reached : (passes hit : Cell → Bool) (start : Cell) (size : Size) (marks : List ℕ) (cell next : Cell) (at : ℕ) (way dir : Dir) → IsReadAt passes hit start size marks cell at
    → Leads way cell next → Step passes dir cell next → IsBesideSpot (size.w + 2) way at (spot_of size next) × IsReached marks (spot_of size next)
beside_reached passes hit start size marks cell next at way dir read leads step =
    let here = read_joined passes hit start size marks cell at read in
    let joined : Joined passes start next = (here.0.0 ++ dir ∷ [], IsWalk-push passes here.0.0 start cell next dir here.0.1 step) in
    let known = joined_reached passes hit start size marks next read.field (read.field.inside next step.next) joined in
    (subst (λ (k : ℕ). IsBesideSpot (size.w + 2) way k (spot_of size next)) (sym read.is) (beside_leads size way cell next leads), record { some = known.0; known = known.1 })

side_reached : (passes hit : Cell → Bool) (start : Cell) (size : Size) (marks : List ℕ) (cell : Cell) (at : ℕ) (way : Dir) → is_straight way ≡ true → IsReadAt passes hit start size marks cell at
    → IsTrue (passes cell) → IsFreeBeside passes cell way → IsReachedBeside size marks at way
side_reached passes hit start size marks cell at way straight read passable free_there =
    let step = straight_step passes way cell free_there.0 straight free_there.1.0 passable free_there.1.1 in
    (spot_of size free_there.0, beside_reached passes hit start size marks cell free_there.0 at way way read free_there.1.0 step)

pub descends_nearer : (passes hit : Cell → Bool) (start : Cell) (size : Size) (marks : List ℕ) (cell : Cell) (at : ℕ) (dir : Dir) → IsReadAt passes hit start size marks cell at
    → Descends passes hit cell dir → LeadsNearer size marks at dir
descends_nearer passes hit start size marks cell at dir read descends =
    let step = descends.step in
    let next = descends.next in
    let parts = legal_is_free passes dir cell (next, step) in
    let straight = ways_straight dir in
    let ahead = beside_reached passes hit start size marks cell next at dir dir read step.leads step in
    let there : IsReadAt passes hit start size marks next (spot_of size next) = record { table = read.table; field = read.field; inside = read.field.inside next step.next; is = refl; known = ahead.1 } in
    let far = read_joined passes hit start size marks next (spot_of size next) there in
    let here = read_joined passes hit start size marks cell at read in
    let known = ahead.1 in
    let held = read.known in
    record {
      ahead = spot_of size next;
      to = ahead.0;
      nearer = known;
      less = omega (
        arith,
        known.some,
        held.some,
        IsNearest-unique passes hit next (get_or marks (spot_of size next) 0 - 1) descends.cost far.1 descends.far,
        IsNearest-unique passes hit cell (get_or marks at 0 - 1) (descends.cost + step_cost dir) here.1 descends.here,
      );
      row = side_reached passes hit start size marks cell at (row_part dir) straight.0 read step.start parts.1.0;
      column = side_reached passes hit start size marks cell at (column_part dir) straight.1 read step.start parts.1.1;
    }

-- the first step of a walk of least cost descends
descend_by : (passes hit : Cell → Bool) (cell : Cell) (cost : ℕ) (dirs : List Dir) → LeadsToTarget passes hit cell dirs cost → IsNearest passes hit cell cost → 0 < cost → (dir : Dir) × Descends passes hit cell dir
descend_by passes hit cell cost [] led nearest more = absurd (omega (arith, led.costs, more))
descend_by passes hit cell cost (dir ∷ dirs) led nearest more =
    let way = led.walk in
    let next = way.0 in
    let step = way.1.0 in
    let sums = sum_by-cons step_cost dir dirs in
    let costs = led.costs in
    let whole : cost ≡ walk_cost dirs + step_cost dir = omega arith in (
      dir,
      record {
        next = next;
        step = step;
        cost = walk_cost dirs;
        far = record {
          walk = (dirs, record { target = led.target; is_hit = led.is_hit; walk = way.1.1; costs = refl });
          least = λ target others is_hit walk. omega (arith, nearest.least target (dir ∷ others) is_hit (next, (step, walk)), sum_by-cons step_cost dir others);
        };
        here = subst (λ (n : ℕ). IsNearest passes hit cell n) whole nearest;
      },
    )

-- from a cell that is no target some step descends
pub some_descends : (passes hit : Cell → Bool) (start cell : Cell) (cost : ℕ) → IsNearest passes hit cell cost → 0 < cost → (dir : Dir) × Descends passes hit cell dir
some_descends passes hit start cell cost nearest more = descend_by passes hit cell cost nearest.walk.0 nearest.walk.1 nearest more
