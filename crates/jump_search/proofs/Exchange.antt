-- Two steps of the chosen walk, one after the other: the second is a successor of the first.
use Rattle.std.proofs.Common.{ℕ, ◌≡◌, ◌+◌, ◌≤◌, ◌⊎◌, Bool, true, false, Option, Some, None, List, [], ◌∷◌, ◌++◌, IsTrue}
use Rattle.std.proofs.Common.{refl, inl, inr, sym, ap, subst, ◌∙◌, arith}
use Rattle.std.proofs.lemmas.Bool.{false≢true}
use Rattle.std.proofs.lemmas.List.Sums.{sum_by-append}
use Rattle.nav_types.specs.declared.cells.Cell.{Cell}
use Rattle.nav_types.specs.declared.directions.Dir.{Dir}
use Rattle.nav_types.specs.declared.directions.Dir.TheVariants.{N, E, S, W, NE, SE, SW, NW}
use Rattle.nav_types.specs.Directions.{is_straight, opposite, step_cost, Leads}
use Rattle.nav_types.specs.Walks.{Step, IsWalk, walk_cost, IsDistance}
use Rattle.nav_types.specs.Beside.{IsFreeBeside, IsLegalFrom}
use Rattle.nav_types.proofs.Walking.{straight_step, free_is_legal, legal_is_free, leads_from_same, leads_to_same}
use Rattle.nav_types.proofs.Walking.{Leads-opposite, IsWalk-append, IsWalk-push, walk_cost-push, IsDistance-unique}
use Rattle.walks.specs.Chosen.{Enters, preference, IsFirstIn, CanGoStraight, IsPicked, IsChosenBack}
use Rattle.walks.proofs.Tracing.{picked_within}
use Rattle.jump_scan.specs.declared.turns.Side.{Side}
use Rattle.jump_scan.specs.Turns.{ahead_to, aside_to, IsNatural, IsTurn}
use Rattle.jump_scan.specs.Successors.{IsForcing, IsForced, IsSuccessor}
use Rattle.jump_scan.proofs.Turning.{behind_to, free_aside}
use Rattle.jump_search.proofs.Turns.{lies_to, leads_both, leads_rest, adds_behind, turns_straight, turns_diagonal}
use Rattle.jump_search.proofs.Turns.{straight_cost, diagonal_cost, least_step_cost}

-- two steps at the end of a walk of least cost
record EndsInTwo (passes : Cell → Bool) (start : Cell) (first second : Dir) (before middle cell : Cell) : Type 0 where
  one : Step passes first before middle
  two : Step passes second middle cell
  cost : ℕ
  near : IsDistance passes start before cost
  far : IsDistance passes start cell (cost + step_cost first + step_cost second)

-- no walk over the two steps costs less than they do
no_less : (passes : Cell → Bool) (start : Cell) (first second : Dir) (before middle cell : Cell)
    → EndsInTwo passes start first second before middle cell → (dirs : List Dir) → IsWalk passes before dirs cell
    → step_cost first + step_cost second ≤ walk_cost dirs
no_less passes start first second before middle cell ends dirs walk =
    let way = ends.near.walk in
    let so_far = way.1.1 in
    let cost = ends.cost in
    let both = IsWalk-append passes start before cell way.0 dirs way.1.0 walk in
    omega (arith, ends.far.least (way.0 ++ dirs) both, sum_by-append step_cost way.0 dirs)

-- nor does one straight step
no_straight : (passes : Cell → Bool) (start : Cell) (first second : Dir) (before middle cell : Cell)
    → EndsInTwo passes start first second before middle cell → (dir : Dir) → is_straight dir ≡ true
    → Leads dir before cell → ⊥
no_straight passes start first second before middle cell ends dir straight leads =
    let step = straight_step passes dir before cell straight leads ends.one.start ends.two.next in
    omega (
      arith,
      no_less passes start first second before middle cell ends (dir ∷ []) (cell, (step, refl)),
      straight_cost dir straight,
      least_step_cost first,
      least_step_cost second,
    )

no_return : (passes : Cell → Bool) (start : Cell) (first second : Dir) (before middle cell : Cell)
    → EndsInTwo passes start first second before middle cell → second ≡ opposite first → ⊥
no_return passes start first second before middle cell ends is =
    let there = subst (λ (d : Dir). Leads d middle cell) is ends.two.leads in
    let here = Leads-opposite first before middle ends.one.leads in
    let same = leads_to_same (opposite first) middle before cell here there in
    omega (arith, no_less passes start first second before middle cell ends [] same, least_step_cost first)

no_turn_behind : (passes : Cell → Bool) (start : Cell) (first second : Dir) (before middle cell : Cell)
    → EndsInTwo passes start first second before middle cell → (side : Side) → second ≡ behind_to side first → ⊥
no_turn_behind passes start first second before middle cell ends side is =
    let sum = adds_behind side first in
    let there = subst (λ (d : Dir). Leads d middle cell) is ends.two.leads in
    no_straight passes start first second before middle cell ends sum.0 sum.1.0
    (leads_both first (behind_to side first) sum.0 sum.1.1 before middle cell ends.one.leads there)

-- after a diagonal step no turn aside
no_turn_aside : (passes : Cell → Bool) (start : Cell) (first second : Dir) (before middle cell : Cell)
    → EndsInTwo passes start first second before middle cell → (side : Side) → is_straight first ≡ false
    → second ≡ aside_to side first → ⊥
no_turn_aside passes start first second before middle cell ends side diagonal is =
    let turns = turns_diagonal side first diagonal in
    let dir = ahead_to side first in
    let F = λ (d : Dir). IsFreeBeside passes before d in
    let legal = legal_is_free passes first before (middle, ends.one) in
    let free : IsFreeBeside passes before dir = elim turns.part [
      | inl row ↦ subst F (sym row) legal.1.0
      | inr column ↦ subst F (sym column) legal.1.1
    ] in
    let corner = free.0 in
    let to_middle = leads_rest turns.rest dir first turns.sums.0 before corner middle free.1.0 ends.one.leads in
    let there = subst (λ (d : Dir). Leads d middle cell) is ends.two.leads in
    let on = leads_both turns.rest (aside_to side first) dir turns.sums.1 corner middle cell to_middle there in
    let one = straight_step passes dir before corner turns.straight free.1.0 ends.one.start free.1.1 in
    let two = straight_step passes dir corner cell turns.straight on free.1.1 ends.two.next in
    omega (
      arith,
      no_less passes start first second before middle cell ends (dir ∷ dir ∷ []) (corner, (one, (cell, (two, refl)))),
      straight_cost dir turns.straight,
      diagonal_cost first diagonal,
      least_step_cost second,
    )

-- where the cell aside of a straight step is passable, the diagonal step between the two is legal
cuts : (passes : Cell → Bool) (side : Side) (first : Dir) (before middle corner : Cell) → is_straight first ≡ true
    → Step passes first before middle → IsFreeBeside passes before (aside_to side first)
    → Leads (aside_to side first) middle corner → IsTrue (passes corner)
    → Step passes (ahead_to side first) before corner
cuts passes side first before middle corner straight step free leads passing =
    let turns = turns_straight side first straight in
    let dir = ahead_to side first in
    let there = leads_both first (aside_to side first) dir turns.adds before middle corner step.leads leads in
    let F = λ (d : Dir). IsFreeBeside passes before d in
    let ahead : IsFreeBeside passes before first = (middle, (step.leads, step.next)) in
    let whole : IsFreeBeside passes before dir = (corner, (there, passing)) in
    let legal : IsLegalFrom passes before dir = elim turns.parts [
      | inl is ↦ free_is_legal passes dir before step.start whole (subst F (sym is.0) ahead) (subst F (sym is.1) free)
      | inr is ↦ free_is_legal passes dir before step.start whole (subst F (sym is.0) free) (subst F (sym is.1) ahead)
    ] in
    let P = λ (c : Cell). Step passes dir before c in
    subst P (leads_to_same dir before legal.0 corner legal.1.leads there) legal.1

-- a diagonal direction is the first by preference only where no straight one is within the set
later : (Within : Dir → Type 0) (first : Dir) (rest : List Dir) (dir : Dir) → is_straight first ≡ true
    → is_straight dir ≡ false → IsFirstIn Within (first ∷ rest) dir → (Within first → ⊥) × IsFirstIn Within rest dir
later Within first rest dir straight diagonal (inl here) =
    absurd (false≢true (sym diagonal ∙ ap is_straight here.1 ∙ straight))
later Within first rest dir straight diagonal (inr after) = after

one_of_four : (Within : Dir → Type 0) → (Within N → ⊥) → (Within E → ⊥) → (Within S → ⊥) → (Within W → ⊥)
    → (dir : Dir) → is_straight dir ≡ true → Within dir → ⊥
one_of_four Within n e s w N straight within = n within
one_of_four Within n e s w E straight within = e within
one_of_four Within n e s w S straight within = s within
one_of_four Within n e s w W straight within = w within
one_of_four Within n e s w NE straight within = false≢true straight
one_of_four Within n e s w SE straight within = false≢true straight
one_of_four Within n e s w SW straight within = false≢true straight
one_of_four Within n e s w NW straight within = false≢true straight

none_straight : (Within : Dir → Type 0) (dir straight : Dir) → is_straight dir ≡ false → is_straight straight ≡ true
    → IsFirstIn Within preference dir → Within straight → ⊥
none_straight Within dir straight diagonal is found =
    let n = later Within N (E ∷ S ∷ W ∷ NE ∷ SE ∷ SW ∷ NW ∷ []) dir refl diagonal found in
    let e = later Within E (S ∷ W ∷ NE ∷ SE ∷ SW ∷ NW ∷ []) dir refl diagonal n.1 in
    let s = later Within S (W ∷ NE ∷ SE ∷ SW ∷ NW ∷ []) dir refl diagonal e.1 in
    let w = later Within W (NE ∷ SE ∷ SW ∷ NW ∷ []) dir refl diagonal s.1 in
    one_of_four Within n.0 e.0 s.0 w.0 straight is

goes_straight : (Within : Dir → Type 0) (next : Option Dir) (dir : Dir) → CanGoStraight Within next → next ≡ Some dir
    → is_straight dir ≡ true
goes_straight Within None dir can same = absurd can
goes_straight Within (Some ahead) dir can same = let e : ahead ≡ dir = cc in ap is_straight (sym e) ∙ can.0

-- a diagonal direction is picked only where no straight one is within the set
picked_diagonal : (Within : Dir → Type 0) (next : Option Dir) (dir straight : Dir) → is_straight dir ≡ false
    → is_straight straight ≡ true → IsPicked Within next dir → Within straight → ⊥
picked_diagonal Within next dir straight diagonal is (inl on) within =
    false≢true (sym diagonal ∙ goes_straight Within next dir on.0 on.1)
picked_diagonal Within next dir straight diagonal is (inr found) within =
    none_straight Within dir straight diagonal is found.1 within

-- a straight step and the diagonal one ahead to a side, in the other order
swapped : (passes : Cell → Bool) (start : Cell) (first second : Dir) (before middle cell : Cell)
    → EndsInTwo passes start first second before middle cell → (side : Side) → is_straight first ≡ true
    → second ≡ ahead_to side first → IsFreeBeside passes before (aside_to side first)
    → IsFreeBeside passes middle (aside_to side first) → Enters passes start cell first
swapped passes start first second before middle cell ends side straight is free beside =
    let corner = beside.0 in
    let dir = ahead_to side first in
    let one = cuts passes side first before middle corner straight ends.one free beside.1.0 beside.1.1 in
    let there = subst (λ (d : Dir). Leads d middle cell) is ends.two.leads in
    let turns = turns_straight side first straight in
    let on = leads_rest first (aside_to side first) dir turns.adds middle corner cell beside.1.0 there in
    let two = straight_step passes first corner cell straight on beside.1.1 ends.two.next in
    let way = ends.near.walk in
    let cost = ends.cost in
    let so_far = way.1.1 in
    let same = ap step_cost is in
    let walked = IsWalk-push passes way.0 start before corner dir way.1.0 one in
    let near : IsDistance passes start corner (cost + step_cost dir) = record {
      walk = (way.0 ++ dir ∷ [], (walked, omega (arith, walk_cost-push way.0 dir)));
      least = λ dirs walk. omega (
        arith,
        ends.far.least (dirs ++ first ∷ []) (IsWalk-push passes dirs start corner cell first walk two),
        walk_cost-push dirs first,
      );
    } in
    let all : cost + step_cost first + step_cost second ≡ (cost + step_cost dir) + step_cost first = omega arith in
    let P = λ (total : ℕ). IsDistance passes start cell total in
    record { before = corner; step = two; cost = cost + step_cost dir; near = near; far = subst P all ends.far }

-- after a straight step a turn to a side is forced
forcing : (passes : Cell → Bool) (start : Cell) (next : Option Dir) (first second : Dir) (before middle cell : Cell)
    → EndsInTwo passes start first second before middle cell → IsPicked (Enters passes start cell) next second
    → (side : Side) → is_straight first ≡ true → IsTurn side first second
    → IsFreeBeside passes before (aside_to side first) → ⊥
forcing passes start next first second before middle cell ends picked side straight turn free =
    let beside = free_aside passes middle first second side straight turn (cell, ends.two) in
    elim turn [
      | inl ahead ↦
          let turns = turns_straight side first straight in
          let diagonal = ap is_straight ahead ∙ turns.diagonal in
          picked_diagonal (Enters passes start cell) next second first diagonal straight picked
          (swapped passes start first second before middle cell ends side straight ahead free beside)
      | inr aside ↦
          let turns = turns_straight side first straight in
          let dir = ahead_to side first in
          let there = subst (λ (d : Dir). Leads d middle cell) aside ends.two.leads in
          let same = leads_to_same (aside_to side first) middle beside.0 cell beside.1.0 there in
          let one = cuts passes side first before middle beside.0 straight ends.one free beside.1.0 beside.1.1 in
          omega (
            arith,
            no_less passes start first second before middle cell ends (dir ∷ []) (beside.0, (one, same)),
            diagonal_cost dir turns.diagonal,
            least_step_cost first,
            least_step_cost second,
          )
    ]

is_forcing : (passes : Cell → Bool) (start : Cell) (next : Option Dir) (first second : Dir) (before middle cell : Cell)
    → EndsInTwo passes start first second before middle cell → IsPicked (Enters passes start cell) next second
    → (side : Side) → is_straight first ≡ true → IsTurn side first second → IsForcing passes middle first side
is_forcing passes start next first second before middle cell ends picked side straight turn =
    let F = λ (c : Cell). IsFreeBeside passes c (aside_to side first) in
    let blocked = forcing passes start next first second before middle cell ends picked side straight turn in
    let same = λ (other : Cell) (leads : Leads first other middle).
    leads_from_same first other before middle leads ends.one.leads in
    (straight, λ other leads free. blocked (subst F (same other leads) free))

-- a turn to a side is natural or forced
turn_kept : (passes : Cell → Bool) (start : Cell) (next : Option Dir) (first second : Dir) (before middle cell : Cell)
    → EndsInTwo passes start first second before middle cell → IsPicked (Enters passes start cell) next second
    → (side : Side) → IsTurn side first second → IsNatural first second ⊎ IsForced passes middle first second
turn_kept passes start next first second before middle cell ends picked side turn =
    let P = λ (v : Bool). is_straight first ≡ v → IsNatural first second ⊎ IsForced passes middle first second in
    elim (is_straight first) as P [
      | true ↦ λ straight.
          let forced = is_forcing passes start next first second before middle cell ends picked side straight turn in
          inr (side, (forced, turn))
      | false ↦ λ diagonal. elim turn [
        | inl ahead ↦ inl (inr (elim (turns_diagonal side first diagonal).part [
          | inl row ↦ inl (ahead ∙ row)
          | inr column ↦ inr (ahead ∙ column)
        ]))
        | inr aside ↦ absurd (no_turn_aside passes start first second before middle cell ends side diagonal aside)
      ]
    ] refl

kept : (passes : Cell → Bool) (start : Cell) (next : Option Dir) (first second : Dir) (before middle cell : Cell)
    → EndsInTwo passes start first second before middle cell → IsPicked (Enters passes start cell) next second
    → IsNatural first second ⊎ IsForced passes middle first second
kept passes start next first second before middle cell ends picked = elim (lies_to first second) [
  | inl on ↦ inl (inl on)
  | inr other ↦ elim other [
    | inl back ↦ absurd (no_return passes start first second before middle cell ends back)
    | inr to_side ↦ elim to_side.1 [
      | inl turn ↦ turn_kept passes start next first second before middle cell ends picked to_side.0 turn
      | inr behind ↦ absurd (no_turn_behind passes start first second before middle cell ends to_side.0 behind)
    ]
  ]
]

-- two entered cells, one after the other
ends_in_two : (passes : Cell → Bool) (start cell middle : Cell) (first second : Dir) → Enters passes start cell second
    → Leads second middle cell → (last : Enters passes start middle first)
    → EndsInTwo passes start first second last.before middle cell
ends_in_two passes start cell middle first second enters leads last =
    let same = leads_from_same second enters.before middle cell enters.step.leads leads in
    let P = λ (c : Cell). Step passes second c cell in
    let Q = λ (c : Cell). IsDistance passes start c enters.cost in
    let near = subst Q same enters.near in
    let cost = IsDistance-unique passes start middle enters.cost (last.cost + step_cost first) near last.far in
    let R = λ (total : ℕ). IsDistance passes start cell (total + step_cost second) in
    record {
      one = last.step;
      two = subst P same enters.step;
      cost = last.cost;
      near = last.near;
      far = subst R cost enters.far;
    }

-- of two steps of a chosen walk the second is a successor of the first
pub exchange : (passes : Cell → Bool) (start cell middle : Cell) (next : Option Dir) (first second : Dir)
    (dirs : List Dir) → IsChosenBack passes start next (second ∷ first ∷ dirs) cell → Leads second middle cell
    → IsSuccessor passes middle (Some first) second
exchange passes start cell middle next first second dirs chosen leads =
    let enters = picked_within (Enters passes start cell) next second chosen.1.0 in
    let rest = chosen.1.1 in
    let same = leads_from_same second rest.0 middle cell rest.1.0 leads in
    let P = λ (c : Cell). Enters passes start c first in
    let last = subst P same (picked_within (Enters passes start rest.0) (Some second) first rest.1.1.1.0) in
    let ends = ends_in_two passes start cell middle first second enters leads last in
    ((cell, ends.two), kept passes start next first second last.before middle cell ends chosen.1.0)
