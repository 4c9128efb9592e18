-- The steps to take, one after another.
use Rattle.std.proofs.Common.{ℕ, ◌≡◌, ◌+◌, ◌-◌, ◌<◌, inl, inr, Bool, true, eqb, List, [], ◌∷◌, ◌++◌, get_or, Option, Some, None, sym, ap, subst, arith}
use Rattle.std.specs.Option.{IfSome, IfNone}
use Rattle.std.proofs.lemmas.Bool.{cases_lt, eqb-true, eq-eqb}
use Rattle.std.proofs.lemmas.List.{append_assoc, append-nil}
use Rattle.std.proofs.lemmas.List.Sums.{sum_by-cons}
use Rattle.nav_types.specs.declared.cells.Cell.{Cell}
use Rattle.nav_types.specs.declared.cells.Size.{Size}
use Rattle.nav_types.specs.declared.directions.Dir.{Dir}
use Rattle.nav_types.specs.Cells.{IsInside}
use Rattle.nav_types.specs.Directions.{step_cost, row_part, column_part}
use Rattle.nav_types.specs.Walks.{Step, Joined}
use Rattle.nav_types.proofs.Walking.{leads_to_same, IsWalk-push, step_cost_some}
use Rattle.walks.specs.Chosen.{preference, IsFirstIn}
use Rattle.flow_field.specs.Flows.{LeadsToTarget, IsNearest, Descends, IsNext, IsFieldOf, Follows}
use Rattle.flow_field.specs.inner.Marks.{spot_of, cell_at_spot, is_reached, cells_of, IsBesideSpot, IsTable}
use Rattle.flow_field.specs.inner.Ways.{IsReached, IsReachedBeside, LeadsNearer}
use Rattle.flow_field.proofs.Spots.{leads_beside, beside_same}
use Rattle.flow_field.proofs.Reading.{IsReadAt, read_joined, nearer_descends, descends_nearer, some_descends, IsNearest-unique, reached_parts, reached_from}

-- the first within one set is the first within the same set under another name
pub first_as : (P Q : Dir → Type 0) (dirs : List Dir) (dir : Dir) → ((d : Dir) → P d → Q d) → ((d : Dir) → Q d → P d) → IsFirstIn P dirs dir → IsFirstIn Q dirs dir
first_as P Q [] dir to back first = first
first_as P Q (d ∷ dirs) dir to back (inl here) = inl (to d here.0, here.1)
first_as P Q (d ∷ dirs) dir to back (inr later) = inr (λ q. later.0 (back d q), first_as P Q dirs dir to back later.1)

-- the first of a list within a set is within it
pub first_within : (P : Dir → Type 0) (dirs : List Dir) (dir : Dir) → IsFirstIn P dirs dir → P dir
first_within P [] dir first = absurd first
first_within P (d ∷ dirs) dir (inl here) = subst P (sym here.1) here.0
first_within P (d ∷ dirs) dir (inr later) = first_within P dirs dir later.1

pub next_some : (passes hit : Cell → Bool) (start : Cell) (size : Size) (marks : List ℕ) (cell : Cell) (at : ℕ) (dir : Dir) → IsReadAt passes hit start size marks cell at
    → IsFirstIn (LeadsNearer size marks at) preference dir → IsNext passes hit start cell (Some dir)
next_some passes hit start size marks cell at dir read first = (
  (read_joined passes hit start size marks cell at read).0,
  first_as (LeadsNearer size marks at) (Descends passes hit cell) preference dir (λ d. nearer_descends passes hit start size marks cell at d read) (λ d. descends_nearer passes hit start size marks cell at d read) first,
)

pub next_none : (passes hit : Cell → Bool) (start : Cell) (size : Size) (marks : List ℕ) (cell : Cell) (at : ℕ) → IsReadAt passes hit start size marks cell at
    → ((dir : Dir) → LeadsNearer size marks at dir → ⊥) → IsNext passes hit start cell None
next_none passes hit start size marks cell at read none =
    let far = read_joined passes hit start size marks cell at read in
    let cost = get_or marks at 0 - 1 in
    elim (cases_lt 0 cost) [
      | inl some ↦
          let step = some_descends passes hit start cell cost far.1 some in
          absurd (none step.0 (descends_nearer passes hit start size marks cell at step.0 read step.1))
      | inr zero_cost ↦ let e : cost ≡ 0 = omega arith in inr (subst (λ (n : ℕ). IsNearest passes hit cell n) e far.1)
    ]

pub next_of : (passes hit : Cell → Bool) (start : Cell) (size : Size) (marks : List ℕ) (cell : Cell) (at : ℕ) (next : Option Dir) → IsReadAt passes hit start size marks cell at
    → IfSome next (IsFirstIn (LeadsNearer size marks at) preference) → IfNone next ((dir : Dir) → LeadsNearer size marks at dir → ⊥) → IsNext passes hit start cell next
next_of passes hit start size marks cell at None read some none = next_none passes hit start size marks cell at read none
next_of passes hit start size marks cell at (Some dir) read some none = next_some passes hit start size marks cell at dir read some

-- a walk that costs nothing is empty
arrived : (passes hit : Cell → Bool) (cell : Cell) (cost : ℕ) (dirs : List Dir) → cost ≡ 0 → LeadsToTarget passes hit cell dirs 0 → LeadsToTarget passes hit cell [] cost
arrived passes hit cell cost [] none led = record { target = led.target; is_hit = led.is_hit; walk = led.walk; costs = sym none }
arrived passes hit cell cost (dir ∷ dirs) none led = absurd (omega (arith, led.costs, sum_by-cons step_cost dir dirs, step_cost_some dir))

-- the walk by the steps to take arrives at a target, at the cost of the cell's Far
pub follows_arrives : (passes hit : Cell → Bool) (start : Cell) (dirs : List Dir) (cell : Cell) (cost : ℕ) → Follows passes hit start cell dirs → Joined passes start cell → IsNearest passes hit cell cost
    → LeadsToTarget passes hit cell dirs cost
follows_arrives passes hit start [] cell cost follows joined nearest = elim follows [
  | inl apart ↦ absurd (apart joined)
  | inr zero_far ↦
      let none : cost ≡ 0 = IsNearest-unique passes hit cell cost 0 nearest zero_far in
      arrived passes hit cell cost zero_far.walk.0 none zero_far.walk.1
]
follows_arrives passes hit start (dir ∷ dirs) cell cost follows joined nearest =
    let descends : Descends passes hit cell dir = first_within (Descends passes hit cell) preference dir follows.0.1 in
    let next = follows.1.0 in
    let step = descends.step in
    let same : descends.next ≡ next = leads_to_same dir cell descends.next next step.leads follows.1.1.0 in
    let far : IsNearest passes hit next descends.cost = subst (λ (c : Cell). IsNearest passes hit c descends.cost) same descends.far in
    let taken : Step passes dir cell next = subst (λ (c : Cell). Step passes dir cell c) same step in
    let rest = follows_arrives passes hit start dirs next descends.cost follows.1.1.1 (joined.0 ++ dir ∷ [], IsWalk-push passes joined.0 start cell next dir joined.1 taken) far in
    let costs = rest.costs in
    record {
      target = rest.target;
      is_hit = rest.is_hit;
      walk = (next, (taken, rest.walk));
      costs = omega (arith, sum_by-cons step_cost dir dirs, IsNearest-unique passes hit cell cost (descends.cost + step_cost dir) nearest descends.here);
    }

-- what the test of a step says
pub nearer_both : (size : Size) (marks : List ℕ) (at : ℕ) (dir : Dir) (ahead mark cost here : ℕ) → IsBesideSpot (size.w + 2) dir at ahead → mark ≡ get_or marks ahead 0 → here ≡ get_or marks at 0 → cost ≡ step_cost dir
    → is_reached mark ≡ true → IsReachedBeside size marks at (row_part dir) → IsReachedBeside size marks at (column_part dir)
    → (eqb (mark + cost) here ≡ true → LeadsNearer size marks at dir) × (LeadsNearer size marks at dir → eqb (mark + cost) here ≡ true)
nearer_both size marks at dir ahead mark cost here beside is_mark is_here is_cost reached row column =
    let parts = reached_parts mark reached in (
      λ same. record {
        ahead = ahead;
        to = beside;
        nearer = record { some = omega (arith, parts.0, is_mark); known = omega (arith, parts.1, is_mark) };
        less = omega (arith, eqb-true (mark + cost) here same, is_mark, is_here, is_cost);
        row = row;
        column = column;
      },
      λ nearer.
          let same : nearer.ahead ≡ ahead = beside_same (size.w + 2) dir at nearer.ahead ahead nearer.to beside in
          eq-eqb (mark + cost) here (omega (arith, nearer.less, ap (λ (k : ℕ). get_or marks k 0) same, is_mark, is_here, is_cost)),
    )

pub nearer_reached : (size : Size) (marks : List ℕ) (at : ℕ) (dir : Dir) (ahead mark : ℕ) → IsBesideSpot (size.w + 2) dir at ahead → mark ≡ get_or marks ahead 0 → LeadsNearer size marks at dir → is_reached mark ≡ true
nearer_reached size marks at dir ahead mark beside is_mark nearer =
    let same : nearer.ahead ≡ ahead = beside_same (size.w + 2) dir at nearer.ahead ahead nearer.to beside in
    let known = nearer.nearer in
    reached_from mark (omega (arith, known.some, ap (λ (k : ℕ). get_or marks k 0) same, is_mark)) (omega (arith, known.known, ap (λ (k : ℕ). get_or marks k 0) same, is_mark))

-- ---- the loop

-- a walk that was followed up to a place, whatever follows it
pub record IsFollowedTo (size : Size) (marks : List ℕ) (cell : Cell) (walk : List Dir) (at : ℕ) : Type 0 where
  pub here : Cell
  pub inside : IsInside size here
  pub is : at ≡ spot_of size here
  pub known : IsReached marks at
  pub goes_on : (passes hit : Cell → Bool) (start : Cell) → IsFieldOf passes hit start (cells_of size marks) → (rest : List Dir) → Follows passes hit start here rest → Follows passes hit start cell (walk ++ rest)

pub followed_none : (size : Size) (marks : List ℕ) (cell : Cell) (at : ℕ) → IsInside size cell → at ≡ spot_of size cell → IsReached marks at → IsFollowedTo size marks cell [] at
followed_none size marks cell at inside is known = record { here = cell; inside = inside; is = is; known = known; goes_on = λ passes hit start field rest follows. follows }

pub followed_more : (size : Size) (marks : List ℕ) (cell : Cell) (walk : List Dir) (at to : ℕ) (dir : Dir) → IsTable size marks → IsFollowedTo size marks cell walk at
    → IsFirstIn (LeadsNearer size marks at) preference dir → IsBesideSpot (size.w + 2) dir at to → IsFollowedTo size marks cell (walk ++ dir ∷ []) to
followed_more size marks cell walk at to dir table so_far first beside =
    let nearer = first_within (LeadsNearer size marks at) preference dir first in
    let same : nearer.ahead ≡ to = beside_same (size.w + 2) dir at nearer.ahead to nearer.to beside in
    let known : IsReached marks to = subst (λ (k : ℕ). IsReached marks k) same nearer.nearer in
    let place = table.cells to known.some in
    let next = cell_at_spot size to in
    record {
      here = next;
      inside = place.inside;
      is = place.same;
      known = known;
      goes_on = λ passes hit start field rest follows.
          let read : IsReadAt passes hit start size marks so_far.here at = record { table = table; field = field; inside = so_far.inside; is = so_far.is; known = so_far.known } in
          let step = next_some passes hit start size marks so_far.here at dir read first in
          let leads = leads_beside size dir so_far.here next at to so_far.inside place.inside so_far.is place.same beside in
          let all : Follows passes hit start cell (walk ++ (dir ∷ rest)) = so_far.goes_on passes hit start field (dir ∷ rest) (step, (next, (leads, follows))) in
          subst (λ (dirs : List Dir). Follows passes hit start cell dirs) (sym (append_assoc walk (dir ∷ []) rest)) all;
    }

pub nearer_less : (size : Size) (marks : List ℕ) (at to : ℕ) (dir : Dir) → IsFirstIn (LeadsNearer size marks at) preference dir → IsBesideSpot (size.w + 2) dir at to → get_or marks to 0 < get_or marks at 0
nearer_less size marks at to dir first beside =
    let nearer = first_within (LeadsNearer size marks at) preference dir first in
    let same : nearer.ahead ≡ to = beside_same (size.w + 2) dir at nearer.ahead to nearer.to beside in
    omega (arith, nearer.less, step_cost_some dir, ap (λ (k : ℕ). get_or marks k 0) same)

pub followed_all : (passes hit : Cell → Bool) (start : Cell) (size : Size) (marks : List ℕ) (cell : Cell) (walk : List Dir) (at : ℕ) → IsTable size marks → IsFieldOf passes hit start (cells_of size marks)
    → IsFollowedTo size marks cell walk at → ((dir : Dir) → LeadsNearer size marks at dir → ⊥) → Follows passes hit start cell walk
followed_all passes hit start size marks cell walk at table field so_far none =
    let read : IsReadAt passes hit start size marks so_far.here at = record { table = table; field = field; inside = so_far.inside; is = so_far.is; known = so_far.known } in
    subst (λ (dirs : List Dir). Follows passes hit start cell dirs) (append-nil walk) (so_far.goes_on passes hit start field [] (next_none passes hit start size marks so_far.here at read none))
