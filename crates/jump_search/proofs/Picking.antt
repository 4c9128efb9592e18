-- The last run that the chosen walk takes is picked from the nodes of a cell.
use Rattle.std.proofs.Common.{ℕ, ◌≡◌, ◌+◌, ◌<◌, ◌≤◌, ◌⊎◌, ◌&&◌, nat_eq, List, length}
use Rattle.std.proofs.Common.{Option, Some, None, IfSome, IsTrue, inl, inr, refl, sym, subst, ap, arith}
use Rattle.std.specs.Prelude.{slice_get}
use Rattle.std.proofs.lemmas.Bool.{cases_Bool, cases_eq, cases_lt, and_parts, and_from, eqb-true, eq-eqb, cond-true, cond-false, cond_both}
use Rattle.std.proofs.lemmas.Option.{slice_get_within, IfSome_then}
use Rattle.nav_types.specs.declared.cells.Cell.{Cell}
use Rattle.nav_types.specs.declared.directions.Dir.{Dir}
use Rattle.nav_types.specs.declared.directions.Dir.TheVariants.{N, E, S, W, NE, SE, SW, NW}
use Rattle.nav_types.specs.Directions.{is_straight}
use Rattle.walks.specs.Chosen.{preference, IsFirstIn, CanGoStraight, IsPicked}
use Rattle.jump_search.specs.declared.nodes.Node.{Node}
use Rattle.jump_search.specs.declared.states.JumpState.{JumpState}
use Rattle.jump_search.specs.declared.tracing.LastRun.{LastRun}
use Rattle.jump_search.specs.inner.Numbered.{arrival_number, IsLastInSlot}
use Rattle.jump_search.specs.inner.Paged.{slot_of}
use Rattle.jump_search.specs.inner.Traced.{HasRun, IsExact, IsLastTo, is_straight_on, lateness, IsAsEarly, IsLookedThrough}
use Rattle.jump_search.proofs.Listing.{one_item}
use Rattle.jump_search.proofs.Numbering.{one_arrival}

-- the directions are preferred by their numbers

arrival_some : (dir : Dir) → 0 < arrival_number (Some dir)
arrival_some N = omega arith
arrival_some E = omega arith
arrival_some S = omega arith
arrival_some W = omega arith
arrival_some NE = omega arith
arrival_some SE = omega arith
arrival_some SW = omega arith
arrival_some NW = omega arith

before : (Exact : Dir → Type 0) (limit : ℕ) → ((other : Dir) → Exact other → limit ≤ arrival_number (Some other))
    → (dir : Dir) → arrival_number (Some dir) < limit → Exact dir → ⊥
before Exact limit least dir less has = let most = least dir has in omega (arith, less, most)

-- the first by preference is the one of the least number
first_by : (Exact : Dir → Type 0) (limit : ℕ) → ((other : Dir) → Exact other → limit ≤ arrival_number (Some other))
    → (dir : Dir) → limit ≡ arrival_number (Some dir) → Exact dir → IsFirstIn Exact preference dir
first_by Exact limit least N is has = inl (has, refl)
first_by Exact limit least E is has =
    let no = before Exact limit least in
    inr (no N (omega (arith, is)), inl (has, refl))
first_by Exact limit least S is has =
    let no = before Exact limit least in
    inr (no N (omega (arith, is)), inr (no E (omega (arith, is)), inl (has, refl)))
first_by Exact limit least W is has =
    let no = before Exact limit least in
    inr (no N (omega (arith, is)), inr (no E (omega (arith, is)), inr (no S (omega (arith, is)), inl (has, refl))))
first_by Exact limit least NE is has =
    let no = before Exact limit least in
    inr (
      no N (omega (arith, is)),
      inr (
        no E (omega (arith, is)),
        inr (
          no S (omega (arith, is)),
          inr (
            no W
                (omega (arith, is)),
            inl (has, refl),
          ),
        ),
      ),
    )
first_by Exact limit least SE is has =
    let no = before Exact limit least in
    inr (
      no N (omega (arith, is)),
      inr (
        no E (omega (arith, is)),
        inr (
          no S (omega (arith, is)),
          inr (
            no W
                (omega (arith, is)),
            inr (no NE (omega (arith, is)), inl (has, refl)),
          ),
        ),
      ),
    )
first_by Exact limit least SW is has =
    let no = before Exact limit least in
    inr (
      no N (omega (arith, is)),
      inr (
        no E (omega (arith, is)),
        inr (
          no S (omega (arith, is)),
          inr (
            no W
                (omega (arith, is)),
            inr (no NE (omega (arith, is)), inr (no SE (omega (arith, is)), inl (has, refl))),
          ),
        ),
      ),
    )
first_by Exact limit least NW is has =
    let no = before Exact limit least in
    inr (
      no N (omega (arith, is)),
      inr (
        no E (omega (arith, is)),
        inr (
          no S (omega (arith, is)),
          inr (
            no W
                (omega (arith, is)),
            inr (
              no NE (omega (arith, is)),
              inr (
                no SE (omega (arith, is)),
                inr (
                  no SW
                      (omega (arith, is)),
                  inl (has, refl),
                ),
              ),
            ),
          ),
        ),
      ),
    )

-- how late a direction is picked

lateness_cases : (next : Option Dir) (dir : Dir)
    → (IsTrue (is_straight dir) × (next ≡ Some dir)) ⊎ (lateness next dir ≡ arrival_number (Some dir))
lateness_cases next dir =
    let straight = is_straight dir in
    let same = nat_eq (arrival_number next) (arrival_number (Some dir)) in
    elim (cases_Bool (straight && same)) [
      | inl on ↦
          let parts = and_parts straight same on in
          inl (parts.0, one_arrival next (Some dir) (eqb-true (arrival_number next) (arrival_number (Some dir)) parts.1))
      | inr off ↦ inr (cond-false (straight && same) 0 (arrival_number (Some dir)) off)
    ]

lateness_most : (next : Option Dir) (dir : Dir) → lateness next dir ≤ arrival_number (Some dir)
lateness_most next dir =
    cond_both (is_straight_on next dir) 0 (arrival_number (Some dir))
    (λ (n : ℕ). n ≤ arrival_number (Some dir)) (λ on. omega arith) (λ off. omega arith)

lateness_none : (dir : Dir) → IsTrue (is_straight dir) → lateness (Some dir) dir ≡ 0
lateness_none dir straight =
    let number = arrival_number (Some dir) in
    cond-true (is_straight_on (Some dir) dir) 0 number
    (and_from (is_straight dir) (nat_eq number number) straight (eq-eqb number number refl))

never_straight : (Exact : Dir → Type 0) (next : Option Dir) (dir : Dir) → lateness next dir ≡ arrival_number (Some dir)
    → ((other : Dir) → Exact other → lateness next dir ≤ lateness next other) → CanGoStraight Exact next → ⊥
never_straight Exact None dir is least can = can
never_straight Exact (Some ahead) dir is least can =
    let none = lateness_none ahead can.0 in
    let most = least ahead can.1 in
    let some = arrival_some dir in
    omega (arith, is, none, most, some)

-- the direction that is picked is the earliest one
pub picked_earliest : (Exact : Dir → Type 0) (next : Option Dir) (dir : Dir) → Exact dir
    → ((other : Dir) → Exact other → lateness next dir ≤ lateness next other) → IsPicked Exact next dir
picked_earliest Exact next dir exact least = elim (lateness_cases next dir) [
  | inl on ↦ inl (
    subst (λ (ahead : Option Dir). CanGoStraight Exact ahead) (sym on.1) (on.0, exact),
    on.1,
  )
  | inr late ↦
      let none_earlier : (other : Dir) → Exact other → arrival_number (Some dir) ≤ arrival_number (Some other) = λ other has.
      let after = least other has in
      let most = lateness_most next other in
      omega (arith, late, after, most) in
      inr (
        never_straight Exact next dir late least,
        first_by Exact (arrival_number (Some dir)) none_earlier dir refl exact,
      )
]

-- the nodes of the cell are looked through

pub looked_begins : (nodes : List Node) (cell : Cell) (cost : ℕ) (next : Option Dir) (after : ℕ)
    → IsLastInSlot slot_of nodes (slot_of cell) (length nodes) after
    → IsLookedThrough nodes cell cost next after None
looked_begins nodes cell cost next after last = record {
  bound = length nodes;
  rest = last;
  inside = omega arith;
  picked = λ number node dir from found is.
      let low = slice_get_within nodes number node found in absurd (omega (arith, from, low));
  some = tt;
}

-- a node of the cell is of its slot
slot_here : (node : Node) (cell : Cell) (cost : ℕ) (dir : Dir) → IsLastTo node cell cost dir node.run
    → slot_of node.state.cell ≡ slot_of cell
slot_here node cell cost dir is = ap (λ (s : JumpState). slot_of s.cell) is.state

pub looked_more : (nodes : List Node) (cell : Cell) (cost : ℕ) (next : Option Dir) (after number before : ℕ) (node : Node)
    (best more : Option LastRun)
    → IsLookedThrough nodes cell cost next after best → number + 1 ≡ after → slice_get nodes number ≡ Some node
    → ((dir : Dir) → IsLastTo node cell cost dir node.run → IsAsEarly next more dir)
    → ((dir : Dir) → IsAsEarly next best dir → IsAsEarly next more dir)
    → (more ≡ best) ⊎ IfSome more (λ last. IsLastTo node cell cost last.dir last.run)
    → IsLastInSlot slot_of nodes (slot_of node.state.cell) number before
    → IsLookedThrough nodes cell cost next before more
looked_more nodes cell cost next after number before node best more looked at found here kept from last =
    let rest = looked.rest in
    let low = slice_get_within nodes number node found in
    record {
      bound = number;
      rest = subst (λ (slot : ℕ). IsLastInSlot slot_of nodes slot number before) (rest.here number node at found) last;
      inside = omega (arith, low);
      picked = λ k other dir past got is. elim (cases_eq k number) [
        | inl same ↦
            let one = one_item nodes number node other found
            (subst (λ (n : ℕ). slice_get nodes n ≡ Some other) same got) in
            here dir (subst (λ (n : Node). IsLastTo n cell cost dir n.run) (sym one) is)
        | inr apart ↦ elim (cases_lt k looked.bound) [
          | inl less ↦ absurd (rest.past k other (omega (arith, past, apart, at)) less got
              (slot_here other cell cost dir is))
          | inr beyond ↦ kept dir (looked.picked k other dir beyond got is)
        ]
      ];
      some = elim from [
        | inl same ↦ subst (λ (last : Option LastRun). IfSome last (λ run. HasRun nodes cell cost run.dir run.run))
            (sym same) looked.some
        | inr is ↦ IfSome_then more is (λ run to. record {
          place = number;
          node = node;
          known = found;
          state = to.state;
          costs = to.costs;
          runs = to.runs;
        })
      ];
    }

pub looked_all : (nodes : List Node) (cell : Cell) (cost : ℕ) (next : Option Dir) (after : ℕ) (best : Option LastRun)
    → IsLookedThrough nodes cell cost next after best → after ≤ 0 → (dir : Dir) → IsExact nodes cell cost dir
    → IsAsEarly next best dir
looked_all nodes cell cost next after best looked none dir exact =
    let has = exact.1 in
    let is : IsLastTo has.node cell cost dir has.node.run = record { state = has.state; costs = has.costs; runs = refl } in
    elim (cases_lt has.place looked.bound) [
      | inl less ↦ absurd (looked.rest.past has.place has.node (omega (arith, none)) less has.known
          (slot_here has.node cell cost dir is))
      | inr beyond ↦ looked.picked has.place has.node dir beyond has.known is
    ]
