-- Legs, and the walks that they make.
use Rattle.std.proofs.Common.{ℕ, zero, suc, ◌≡◌, ◌+◌, ◌-◌, ◌<◌, ◌≤◌, ◌⊎◌, inl, inr, Bool, true, false, not, List, [], ◌∷◌, ◌++◌, Option, Some, None, IsTrue, ◌↔◌, length, get_or, replicate, refl, sym, ap, subst, ◌∙◌, arith}
use Rattle.std.specs.Prelude.{drop, if◌then◌else◌}
use Rattle.std.proofs.lemmas.Bool.{cases_Bool, false_from_ne_true, both_ways}
use Rattle.std.proofs.lemmas.List.{drop_all}
use Rattle.std.proofs.lemmas.Option.{same_Some}
use Rattle.std.proofs.Math.Seq.{drop-cons}
use Rattle.nav_types.specs.declared.cells.Cell.{Cell}
use Rattle.nav_types.specs.declared.directions.Dir.{Dir}
use Rattle.nav_types.specs.Directions.{Leads}
use Rattle.nav_types.specs.Walks.{Step, IsWalk}
use Rattle.nav_types.proofs.CellOrder.{same_cell}
use Rattle.nav_types.proofs.Walking.{IsWalk-append, leads_to_same}
use Rattle.walks.specs.Waypoints.{cell_after, is_same_way, is_corner, waypoints}
use Rattle.line_smooth.specs.Segments.{gap}
use Rattle.line_smooth.specs.Smoothed.{AreCorners}
use Rattle.flat_ways.specs.inner.Legs.{PointsTo, IsLeg, IsOnLeg, AreLegs}
use Rattle.flat_ways.proofs.Headings.{same_way, way_is_same, ahead_by, ahead_points, one_heading, no_heading, steps_ahead}

-- ---- the way along a leg

-- so many steps are as many as a leg between the cells has
pub record IsLong (steps : ℕ) (from to : Cell) : Type 0 where
  pub columns : gap from.i to.i ≤ steps
  pub rows : gap from.j to.j ≤ steps
  pub one : (steps ≡ gap from.i to.i) ⊎ (steps ≡ gap from.j to.j)

pub leg_heading : (passes : Cell → Bool) (dir other : Dir) (from to : Cell) → PointsTo dir from to → IsLeg passes other from to → other ≡ dir
leg_heading passes dir other from to heading leg =
    one_heading other dir from to (ahead_points other (suc leg.0) from to (omega arith) (ahead_by passes other (suc leg.0) from to leg.1)) heading

-- no leg leads to where it starts
pub leg_moves : (passes : Cell → Bool) (other : Dir) (from to : Cell) → from ≡ to → IsLeg passes other from to → ⊥
leg_moves passes other from to same leg =
    let points = ahead_points other (suc leg.0) from to (omega arith) (ahead_by passes other (suc leg.0) from to leg.1) in
    no_heading other from (subst (λ (c : Cell). PointsTo other from c) (sym same) points)

pub leg_begins : (passes : Cell → Bool) (dir : Dir) (steps : ℕ) (from to : Cell) → PointsTo dir from to → IsLong steps from to → IsOnLeg passes dir steps from to 0 from
leg_begins passes dir steps from to heading long = record {
  made = λ rest end walk. (let is : rest ≡ 0 + rest = omega arith in subst (λ (n : ℕ). IsWalk passes from (replicate n dir) end) is walk);
  remains = λ other leg. (
      let same = leg_heading passes dir other from to heading leg in
      let ahead = ahead_by passes other (suc leg.0) from to leg.1 in
      let count : suc leg.0 ≡ steps = steps_ahead other (suc leg.0) steps from to ahead long.columns long.rows long.one in
      let all : suc leg.0 ≡ steps - 0 = omega arith in
      subst (λ (n : ℕ). IsWalk passes from (replicate n dir) to) all (subst (λ (d : Dir). IsWalk passes from (replicate (suc leg.0) d) to) same leg.1));
}

ahead_one : (passes : Cell → Bool) (dir : Dir) (steps walked : ℕ) (at to : Cell) → walked < steps → IsWalk passes at (replicate (steps - walked) dir) to
    → IsWalk passes at (replicate (suc (steps - (walked + 1))) dir) to
ahead_one passes dir steps walked at to less walk =
    let is : steps - walked ≡ suc (steps - (walked + 1)) = omega arith in
    subst (λ (n : ℕ). IsWalk passes at (replicate n dir) to) is walk

pub leg_goes : (passes : Cell → Bool) (dir : Dir) (steps : ℕ) (from to : Cell) (walked : ℕ) (at next : Cell) → walked < steps
    → IsOnLeg passes dir steps from to walked at → Step passes dir at next → IsOnLeg passes dir steps from to (walked + 1) next
leg_goes passes dir steps from to walked at next less on step = record {
  made = λ rest end walk. (let is : walked + suc rest ≡ walked + 1 + rest = omega arith in
      subst (λ (n : ℕ). IsWalk passes from (replicate n dir) end) is (on.made (suc rest) end (next, (step, walk))));
  remains = λ other leg. (
      let walk = ahead_one passes dir steps walked at to less (on.remains other leg) in
      subst (λ (c : Cell). IsWalk passes c (replicate (steps - (walked + 1)) dir) to) (leads_to_same dir at walk.0 next walk.1.0.leads step.leads) walk.1.1);
}

pub leg_blocked : (passes : Cell → Bool) (dir : Dir) (steps : ℕ) (from to : Cell) (walked : ℕ) (at : Cell) → walked < steps
    → IsOnLeg passes dir steps from to walked at → ((next : Cell) → Step passes dir at next → ⊥) → (other : Dir) → IsLeg passes other from to → ⊥
leg_blocked passes dir steps from to walked at less on none other leg =
    let walk = ahead_one passes dir steps walked at to less (on.remains other leg) in none walk.0 walk.1.0

-- where cells differ, a leg has a step
long_enough : (steps : ℕ) (from to : Cell) → IsLong steps from to → (from ≡ to → ⊥) → 0 < steps
long_enough zero from to long other =
    let wide = long.columns in let high = long.rows in
    absurd (other (same_cell from to (omega arith) (omega arith)))
long_enough (suc more) from to long other = omega arith

pub leg_arrives : (passes : Cell → Bool) (dir : Dir) (steps : ℕ) (from to at : Cell) → PointsTo dir from to → IsLong steps from to
    → IsOnLeg passes dir steps from to steps at → at ≡ to → IsLeg passes dir from to
leg_arrives passes dir steps from to at heading long on there =
    let some : 0 < steps = long_enough steps from to long (λ same. no_heading dir from (subst (λ (c : Cell). PointsTo dir from c) (sym same) heading)) in
    let is : steps + 0 ≡ suc (steps - 1) = omega arith in
    (steps - 1, subst (λ (n : ℕ). IsWalk passes from (replicate n dir) to) is (on.made 0 to there))

pub leg_misses : (passes : Cell → Bool) (dir : Dir) (steps : ℕ) (from to at : Cell) → IsOnLeg passes dir steps from to steps at → (at ≡ to → ⊥)
    → (other : Dir) → IsLeg passes other from to → ⊥
leg_misses passes dir steps from to at on elsewhere other leg =
    let none : steps - steps ≡ 0 = omega arith in
    elsewhere (subst (λ (n : ℕ). IsWalk passes at (replicate n dir) to) none (on.remains other leg))

-- ---- legs are those of one walk

-- the walk does not go on in the direction before it
abbrev Turns : Option Dir → List Dir → Type 0
Turns None dirs = Unit {0}
Turns (Some dir) dirs = is_corner dir dirs ≡ true

turns_none : (before : Option Dir) → Turns before []
turns_none None = tt
turns_none (Some dir) = refl

turns_by : (before : Option Dir) (dir : Dir) (tail : List Dir) → (before ≡ Some dir → ⊥) → Turns before (dir ∷ tail)
turns_by None dir tail other = tt
turns_by (Some last) dir tail other =
    ap not (false_from_ne_true (is_same_way last dir) (λ same. other (ap (λ (d : Dir). Some d) (same_way last dir same))))

after_is : (dir : Dir) (from next : Cell) → Leads dir from next → cell_after dir from ≡ next
after_is dir from next leads =
    let columns = leads.columns in let rows = leads.rows in
    same_cell (cell_after dir from) next (omega arith) (omega arith)

-- the waypoints of a walk that begins with a leg
leg_waypoints : (passes : Cell → Bool) (dir : Dir) (more : ℕ) (from corner : Cell) (tail : List Dir) → IsWalk passes from (replicate (suc more) dir) corner
    → is_corner dir tail ≡ true → waypoints from (replicate (suc more) dir ++ tail) ≡ corner ∷ waypoints corner tail
leg_waypoints passes dir zero from corner tail walk turn =
    ap (λ (v : Bool). (if v then cell_after dir from ∷ [] else []) ++ waypoints (cell_after dir from) tail) turn
    ∙ ap (λ (c : Cell). c ∷ waypoints c tail) (after_is dir from walk.0 walk.1.0.leads ∙ walk.1.1)
leg_waypoints passes dir (suc more) from corner tail walk turn =
    ap (λ (v : Bool). (if not v then cell_after dir from ∷ [] else []) ++ waypoints (cell_after dir from) (replicate (suc more) dir ++ tail)) (way_is_same dir)
    ∙ ap (λ (c : Cell). waypoints c (replicate (suc more) dir ++ tail)) (after_is dir from walk.0 walk.1.0.leads)
    ∙ leg_waypoints passes dir more walk.0 corner tail walk.1.1 turn

record IsMade (passes : Cell → Bool) (from : Cell) (before : Option Dir) (corners : List Cell) : Type 0 where
  pub dirs : List Dir
  pub end : Cell
  pub walk : IsWalk passes from dirs end
  pub begins : Turns before dirs
  pub turns : corners ≡ waypoints from dirs

walk_by_legs : (passes : Cell → Bool) (corners : List Cell) (from : Cell) (before : Option Dir) → AreLegs passes from before corners → IsMade passes from before corners
walk_by_legs passes [] from before legs = record { dirs = []; end = from; walk = refl; begins = turns_none before; turns = refl }
walk_by_legs passes (corner ∷ corners) from before legs =
    let dir = legs.0 in let more = legs.1.1.0.0 in let walk = legs.1.1.0.1 in
    let on = walk_by_legs passes corners corner (Some dir) legs.1.1.1 in
    record {
      dirs = replicate (suc more) dir ++ on.dirs;
      end = on.end;
      walk = IsWalk-append passes from corner on.end (replicate (suc more) dir) on.dirs walk on.walk;
      begins = turns_by before dir (replicate more dir ++ on.dirs) legs.1.0;
      turns = ap (λ (points : List Cell). corner ∷ points) on.turns ∙ sym (leg_waypoints passes dir more from corner on.dirs walk on.begins);
    }

other_way : (dir turn : Dir) → is_same_way dir turn ≡ false → Some dir ≡ Some turn → ⊥
other_way dir turn other same =
    both_ways (is_same_way dir turn) other (subst (λ (d : Dir). is_same_way dir d ≡ true) (same_Some dir turn same) (way_is_same dir))

legs_by_walk : (passes : Cell → Bool) (dirs : List Dir) (dir : Dir) (walked : ℕ) (from at to : Cell) (before : Option Dir) → (before ≡ Some dir → ⊥)
    → ((rest : ℕ) (end : Cell) → IsWalk passes at (replicate rest dir) end → IsWalk passes from (replicate (walked + rest) dir) end)
    → IsWalk passes at (dir ∷ dirs) to → AreLegs passes from before (waypoints at (dir ∷ dirs))
legs_by_walk passes [] dir walked from at to before other made walk =
    let next = walk.0 in let step = walk.1.0 in
    let is : walked + 1 ≡ suc walked = omega arith in
    let leg : IsLeg passes dir from next = (walked, subst (λ (n : ℕ). IsWalk passes from (replicate n dir) next) is (made 1 next (next, (step, refl)))) in
    subst (λ (c : Cell). AreLegs passes from before (c ∷ [])) (sym (after_is dir at next step.leads)) (dir, (other, (leg, tt)))
legs_by_walk passes (turn ∷ dirs) dir walked from at to before other made walk =
    let next = walk.0 in let step = walk.1.0 in
    let is = sym (after_is dir at next step.leads) in
    let P = λ (v : Bool). AreLegs passes from before ((if not v then cell_after dir at ∷ [] else []) ++ waypoints (cell_after dir at) (turn ∷ dirs)) in
    elim (cases_Bool (is_same_way dir turn)) [
      | inl same ↦
          let longer : (rest : ℕ) (end : Cell) → IsWalk passes next (replicate rest dir) end → IsWalk passes from (replicate (walked + 1 + rest) dir) end =
          λ rest end on. (let n : walked + suc rest ≡ walked + 1 + rest = omega arith in
          subst (λ (k : ℕ). IsWalk passes from (replicate k dir) end) n (made (suc rest) end (next, (step, on)))) in
          let go = λ (d : Dir). (before ≡ Some d → ⊥)
          → ((rest : ℕ) (end : Cell) → IsWalk passes next (replicate rest d) end → IsWalk passes from (replicate (walked + 1 + rest) d) end)
          → AreLegs passes from before (waypoints next (turn ∷ dirs)) in
          let done : AreLegs passes from before (waypoints next (turn ∷ dirs)) =
          subst go (sym (same_way dir turn same)) (λ ne on. legs_by_walk passes dirs turn (walked + 1) from next to before ne on walk.1.1) other longer in
          subst P (sym same) (subst (λ (c : Cell). AreLegs passes from before (waypoints c (turn ∷ dirs))) is done)
      | inr differs ↦
          let one : walked + 1 ≡ suc walked = omega arith in
          let leg : IsLeg passes dir from next = (walked, subst (λ (n : ℕ). IsWalk passes from (replicate n dir) next) one (made 1 next (next, (step, refl)))) in
          let start : (rest : ℕ) (end : Cell) → IsWalk passes next (replicate rest turn) end → IsWalk passes next (replicate (0 + rest) turn) end =
          λ rest end on. (let n : rest ≡ 0 + rest = omega arith in subst (λ (k : ℕ). IsWalk passes next (replicate k turn) end) n on) in
          let on : AreLegs passes next (Some dir) (waypoints next (turn ∷ dirs)) =
          legs_by_walk passes dirs turn 0 next next to (Some dir) (other_way dir turn differs) start walk.1.1 in
          subst P (sym differs) (subst (λ (c : Cell). AreLegs passes from before (c ∷ waypoints c (turn ∷ dirs))) is (dir, (other, (leg, on))))
    ]

legs_of_walk : (passes : Cell → Bool) (start end : Cell) (dirs : List Dir) → IsWalk passes start dirs end → AreLegs passes start None (waypoints start dirs)
legs_of_walk passes start end [] walk = tt
legs_of_walk passes start end (dir ∷ dirs) walk =
    let begins : (rest : ℕ) (to : Cell) → IsWalk passes start (replicate rest dir) to → IsWalk passes start (replicate (0 + rest) dir) to =
    λ rest to on. (let n : rest ≡ 0 + rest = omega arith in subst (λ (k : ℕ). IsWalk passes start (replicate k dir) to) n on) in
    legs_by_walk passes dirs dir 0 start start end None (λ none. absurd cc) begins walk

pub corners_by_legs : (passes : Cell → Bool) (start : Cell) (corners : List Cell) → AreLegs passes start None corners → AreCorners passes start corners
corners_by_legs passes start corners legs =
    let made = walk_by_legs passes corners start None legs in
    record { dirs = made.dirs; end = made.end; walk = made.walk; turns = made.turns }

pub legs_by_corners : (passes : Cell → Bool) (start : Cell) (corners : List Cell) → AreCorners passes start corners → AreLegs passes start None corners
legs_by_corners passes start corners are =
    subst (λ (points : List Cell). AreLegs passes start None points) (sym are.turns) (legs_of_walk passes start are.end are.dirs are.walk)

-- ---- one leg more

-- the legs that are left are as good as all of them
abbrev pub IsLeft : (Cell → Bool) → Cell → List Cell → Cell → Option Dir → List Cell → Type 0
IsLeft passes start all at before left =
    (AreLegs passes start None all → AreLegs passes at before left) × (AreLegs passes at before left → AreLegs passes start None all)

pub left_less : (passes : Cell → Bool) (start at corner : Cell) (all left : List Cell) (before : Option Dir) (dir : Dir) → IsLeft passes start all at before (corner ∷ left)
    → IsLeg passes dir at corner → ((other : Dir) → IsLeg passes other at corner → other ≡ dir) → (before ≡ Some dir → ⊥) → IsLeft passes start all corner (Some dir) left
left_less passes start at corner all left before dir is leg only turns = (
  λ legs. (let on = is.0 legs in subst (λ (d : Dir). AreLegs passes corner (Some d) left) (only on.0 on.1.1.0) on.1.1.1),
  λ legs. is.1 (dir, (turns, (leg, legs))),
)

pub left_blocked : (passes : Cell → Bool) (start at corner : Cell) (all left : List Cell) (before : Option Dir) → IsLeft passes start all at before (corner ∷ left)
    → ((other : Dir) → IsLeg passes other at corner → ⊥) → AreLegs passes start None all → ⊥
left_blocked passes start at corner all left before is none legs = let on = is.0 legs in none on.0 on.1.1.0

pub left_straight : (passes : Cell → Bool) (start at corner : Cell) (all left : List Cell) (before : Option Dir) (dir : Dir) → IsLeft passes start all at before (corner ∷ left)
    → ((other : Dir) → IsLeg passes other at corner → other ≡ dir) → before ≡ Some dir → AreLegs passes start None all → ⊥
left_straight passes start at corner all left before dir is only same legs =
    let on = is.0 legs in on.1.0 (same ∙ ap (λ (d : Dir). Some d) (sym (only on.0 on.1.1.0)))

-- the corners that are left, one by one
pub corners_left : (corners : List Cell) (k : ℕ) (other : Cell) → k < length corners → drop k corners ≡ get_or corners k other ∷ drop (k + 1) corners
corners_left corners k other within =
    let next : suc k ≡ k + 1 = omega arith in
    drop-cons corners k other within ∙ ap (λ (n : ℕ). get_or corners k other ∷ drop n corners) next

-- where it is not so, no is right
pub refused : {P : Type 0} → (P → ⊥) → IsTrue false ↔ P
refused none = (λ no. absurd cc, λ is. absurd (none is))

-- where no corner is left, all are those of a walk
pub all_walked : (passes : Cell → Bool) (start at : Cell) (corners : List Cell) (k : ℕ) (before : Option Dir) → length corners ≤ k
    → IsLeft passes start corners at before (drop k corners) → AreCorners passes start corners
all_walked passes start at corners k before past left =
    corners_by_legs passes start corners (left.1 (subst (λ (rest : List Cell). AreLegs passes at before rest) (sym (drop_all k corners past)) tt))
