-- Steps back, straight steps, and walks put together.
use Rattle.std.proofs.Common.{ℕ, ◌≡◌, ◌≤◌, ◌<◌, ◌+◌, ◌⊎◌, ◌↔◌, Bool, true, false, List, [], ◌∷◌, ◌++◌, IsTrue, refl, inl, inr, sym, subst, ◌∙◌, arith}
use Rattle.std.proofs.lemmas.List.Sums.{sum_by_push}
use Rattle.std.proofs.lemmas.Bool.{false≢true}
use Rattle.std.proofs.lemmas.List.Elements.{All-nil, All-cons}
use Rattle.nav_types.specs.declared.cells.Cell.{Cell}
use Rattle.nav_types.specs.declared.directions.Dir.{Dir}
use Rattle.nav_types.specs.declared.directions.Dir.TheVariants.{N, E, S, W, NE, SE, SW, NW}
use Rattle.nav_types.specs.Cells.{cell_at}
use Rattle.nav_types.specs.Directions.{is_straight, opposite, row_part, column_part, step_cost, Leads}
use Rattle.nav_types.specs.Walks.{Step, IsWalk, walk_cost, Joined, IsDistance}
use Rattle.nav_types.specs.Beside.{IsFreeBeside, IsLegalFrom}
use Rattle.nav_types.specs.Regions.{JoinedStraight, IsBeside}
use Rattle.nav_types.proofs.CellOrder.{same_cell}

pub Leads-opposite : (dir : Dir) (a b : Cell) → Leads dir a b → Leads (opposite dir) b a
Leads-opposite N a b leads = record { columns = sym leads.columns; rows = sym leads.rows }
Leads-opposite E a b leads = record { columns = sym leads.columns; rows = sym leads.rows }
Leads-opposite S a b leads = record { columns = sym leads.columns; rows = sym leads.rows }
Leads-opposite W a b leads = record { columns = sym leads.columns; rows = sym leads.rows }
Leads-opposite NE a b leads = record { columns = sym leads.columns; rows = sym leads.rows }
Leads-opposite SE a b leads = record { columns = sym leads.columns; rows = sym leads.rows }
Leads-opposite SW a b leads = record { columns = sym leads.columns; rows = sym leads.rows }
Leads-opposite NW a b leads = record { columns = sym leads.columns; rows = sym leads.rows }

is_straight-opposite : (dir : Dir) → is_straight (opposite dir) ≡ is_straight dir
is_straight-opposite N = refl
is_straight-opposite E = refl
is_straight-opposite S = refl
is_straight-opposite W = refl
is_straight-opposite NE = refl
is_straight-opposite SE = refl
is_straight-opposite SW = refl
is_straight-opposite NW = refl

-- lying side by side goes both ways
pub IsBeside-back : (a b : Cell) → IsBeside a b → IsBeside b a
IsBeside-back a b beside = (opposite beside.0, (is_straight-opposite beside.0 ∙ beside.1.0, Leads-opposite beside.0 a b beside.1.1))

-- a straight step stays in its column or in its row
stays : (dir : Dir) (a b : Cell) → is_straight dir ≡ true → Leads dir a b → (a.i ≡ b.i) ⊎ (a.j ≡ b.j)
stays N a b straight leads = let columns = leads.columns in inl (omega arith)
stays E a b straight leads = let rows = leads.rows in inr (omega arith)
stays S a b straight leads = let columns = leads.columns in inl (omega arith)
stays W a b straight leads = let rows = leads.rows in inr (omega arith)
stays NE a b straight leads = absurd (false≢true straight)
stays SE a b straight leads = absurd (false≢true straight)
stays SW a b straight leads = absurd (false≢true straight)
stays NW a b straight leads = absurd (false≢true straight)

-- between two passable cells a straight step is legal
pub straight_step : (passes : Cell → Bool) (dir : Dir) (a b : Cell) → is_straight dir ≡ true → Leads dir a b
    → IsTrue (passes a) → IsTrue (passes b) → Step passes dir a b
straight_step passes dir a b straight leads here there =
    let P = λ (cell : Cell). IsTrue (passes cell) in
    elim (stays dir a b straight leads) [
      | inl column ↦ record {
        leads = leads;
        start = here;
        next = there;
        side = subst P (same_cell a (cell_at b.i a.j) column refl) here;
        ahead = subst P (same_cell b (cell_at a.i b.j) (sym column) refl) there;
      }
      | inr row ↦ record {
        leads = leads;
        start = here;
        next = there;
        side = subst P (same_cell b (cell_at b.i a.j) refl (sym row)) there;
        ahead = subst P (same_cell a (cell_at a.i b.j) refl row) here;
      }
    ]

-- a cell is joined to itself
pub JoinedStraight-refl : (passes : Cell → Bool) (a : Cell) → JoinedStraight passes a a
JoinedStraight-refl passes a = ([], (All-nil (λ dir. is_straight dir ≡ true), refl))

-- one straight step, and then on
pub JoinedStraight-step : (passes : Cell → Bool) (dir : Dir) (a b c : Cell) → is_straight dir ≡ true
    → Step passes dir a b → JoinedStraight passes b c → JoinedStraight passes a c
JoinedStraight-step passes dir a b c straight step rest =
    (dir ∷ rest.0, (All-cons (λ way. is_straight way ≡ true) dir rest.0 straight rest.1.0, (b, (step, rest.1.1))))

-- one cell on between passable cells, and then on
pub JoinedStraight-beside : (passes : Cell → Bool) (a b c : Cell) → IsBeside a b → IsTrue (passes a) → IsTrue (passes b)
    → JoinedStraight passes b c → JoinedStraight passes a c
JoinedStraight-beside passes a b c beside here there rest =
    JoinedStraight-step passes beside.0 a b c beside.1.0 (straight_step passes beside.0 a b beside.1.0 beside.1.1 here there) rest

-- a diagonal step is one along the row and then one along the column
two_ways : (dir : Dir) (a b : Cell) → is_straight dir ≡ false → Leads dir a b
    → Leads (row_part dir) a (cell_at b.i a.j) × Leads (column_part dir) (cell_at b.i a.j) b
two_ways N a b diagonal leads = absurd (false≢true (sym diagonal))
two_ways E a b diagonal leads = absurd (false≢true (sym diagonal))
two_ways S a b diagonal leads = absurd (false≢true (sym diagonal))
two_ways W a b diagonal leads = absurd (false≢true (sym diagonal))
two_ways NE a b diagonal leads = (record { columns = leads.columns; rows = refl }, record { columns = refl; rows = leads.rows })
two_ways SE a b diagonal leads = (record { columns = leads.columns; rows = refl }, record { columns = refl; rows = leads.rows })
two_ways SW a b diagonal leads = (record { columns = leads.columns; rows = refl }, record { columns = refl; rows = leads.rows })
two_ways NW a b diagonal leads = (record { columns = leads.columns; rows = refl }, record { columns = refl; rows = leads.rows })

pub ways_straight : (dir : Dir) → (is_straight (row_part dir) ≡ true) × (is_straight (column_part dir) ≡ true)
ways_straight N = (refl, refl)
ways_straight E = (refl, refl)
ways_straight S = (refl, refl)
ways_straight W = (refl, refl)
ways_straight NE = (refl, refl)
ways_straight SE = (refl, refl)
ways_straight SW = (refl, refl)
ways_straight NW = (refl, refl)

-- one legal step, and then on by straight steps
JoinedStraight-any : (passes : Cell → Bool) (dir : Dir) (a b c : Cell) → Step passes dir a b
    → JoinedStraight passes b c → JoinedStraight passes a c
JoinedStraight-any passes dir a b c step rest =
    let corner = cell_at b.i a.j in
    let P = λ (v : Bool). is_straight dir ≡ v → JoinedStraight passes a c in
    elim (is_straight dir) as P [
      | true ↦ λ straight. JoinedStraight-step passes dir a b c straight step rest
      | false ↦ λ diagonal.
          let ways = two_ways dir a b diagonal step.leads in
          let straight = ways_straight dir in
          let first = straight_step passes (row_part dir) a corner straight.0 ways.0 step.start step.side in
          let second = straight_step passes (column_part dir) corner b straight.1 ways.1 step.side step.next in
          JoinedStraight-step passes (row_part dir) a corner c straight.0 first
          (JoinedStraight-step passes (column_part dir) corner b c straight.1 second rest)
    ] refl

straightened : (passes : Cell → Bool) (dirs : List Dir) (a b : Cell) → IsWalk passes a dirs b → JoinedStraight passes a b
straightened passes [] a b walk = subst (λ (cell : Cell). JoinedStraight passes a cell) walk (JoinedStraight-refl passes a)
straightened passes (dir ∷ dirs) a b walk =
    JoinedStraight-any passes dir a walk.0 b walk.1.0 (straightened passes dirs walk.0 b walk.1.1)

pub JoinedStraight-from_Joined : (passes : Cell → Bool) (a b : Cell) → Joined passes a b → JoinedStraight passes a b
JoinedStraight-from_Joined passes a b joined = straightened passes joined.0 a b joined.1

pub Joined-from_straight : (passes : Cell → Bool) (a b : Cell) → JoinedStraight passes a b → Joined passes a b
Joined-from_straight passes a b joined = (joined.0, joined.1.1)

-- legal steps join what straight steps join
pub straight_steps_join : (passes : Cell → Bool) (a b : Cell) → Joined passes a b ↔ JoinedStraight passes a b
straight_steps_join passes a b = (JoinedStraight-from_Joined passes a b, Joined-from_straight passes a b)

pub Joined-step : (passes : Cell → Bool) (dir : Dir) (a b c : Cell) → Step passes dir a b → Joined passes b c → Joined passes a c
Joined-step passes dir a b c step rest = (dir ∷ rest.0, (b, (step, rest.1)))

-- a walk behind a walk
pub IsWalk-append : (passes : Cell → Bool) (a b c : Cell) (front back : List Dir) → IsWalk passes a front b → IsWalk passes b back c → IsWalk passes a (front ++ back) c
IsWalk-append passes a b c [] back here there = subst (λ (cell : Cell). IsWalk passes cell back c) (sym here) there
IsWalk-append passes a b c (dir ∷ front) back here there =
    (here.0, (here.1.0, IsWalk-append passes here.0 b c front back here.1.1 there))

-- one step more at the end of a walk
pub IsWalk-push : (passes : Cell → Bool) (dirs : List Dir) (from to next : Cell) (dir : Dir) → IsWalk passes from dirs to → Step passes dir to next → IsWalk passes from (dirs ++ dir ∷ []) next
IsWalk-push passes dirs from to next dir walk step = IsWalk-append passes from to next dirs (dir ∷ []) walk (next, (step, refl))

-- what a step costs at most and at least
pub step_cost_most : (dir : Dir) → step_cost dir ≤ 92682
step_cost_most N = omega arith
step_cost_most E = omega arith
step_cost_most S = omega arith
step_cost_most W = omega arith
step_cost_most NE = omega arith
step_cost_most SE = omega arith
step_cost_most SW = omega arith
step_cost_most NW = omega arith

pub step_cost_some : (dir : Dir) → 0 < step_cost dir
step_cost_some N = omega arith
step_cost_some E = omega arith
step_cost_some S = omega arith
step_cost_some W = omega arith
step_cost_some NE = omega arith
step_cost_some SE = omega arith
step_cost_some SW = omega arith
step_cost_some NW = omega arith

pub walk_cost-push : (dirs : List Dir) (dir : Dir) → walk_cost (dirs ++ dir ∷ []) ≡ walk_cost dirs + step_cost dir
walk_cost-push dirs dir = sum_by_push step_cost dirs dir

-- a walk from a passable cell ends at one
pub IsWalk-passes : (passes : Cell → Bool) (dirs : List Dir) (from to : Cell) → IsTrue (passes from) → IsWalk passes from dirs to → IsTrue (passes to)
IsWalk-passes passes [] from to free walk = let P = λ (cell : Cell). IsTrue (passes cell) in subst P walk free
IsWalk-passes passes (dir ∷ dirs) from to free walk = IsWalk-passes passes dirs walk.0 to walk.1.0.next walk.1.1

-- what is joined to a passable cell is passable
pub Joined-passes : (passes : Cell → Bool) (a b : Cell) → IsTrue (passes a) → Joined passes a b → IsTrue (passes b)
Joined-passes passes a b free joined = IsWalk-passes passes joined.0 a b free joined.1

-- two cells have one distance
pub IsDistance-unique : (passes : Cell → Bool) (from to : Cell) (a b : ℕ) → IsDistance passes from to a → IsDistance passes from to b → a ≡ b
IsDistance-unique passes from to a b x y =
    let p : a ≤ b = let w = y.walk in omega (arith, x.least w.0 w.1.0, w.1.1) in
    let q : b ≤ a = let w = x.walk in omega (arith, y.least w.0 w.1.0, w.1.1) in
    omega arith

-- a direction leads to one cell from one cell
pub leads_from_same : (dir : Dir) (a b to : Cell) → Leads dir a to → Leads dir b to → a ≡ b
leads_from_same dir a b to p q =
    let pc = p.columns in let pr = p.rows in let qc = q.columns in let qr = q.rows in
    same_cell a b (omega arith) (omega arith)

pub leads_to_same : (dir : Dir) (from a b : Cell) → Leads dir from a → Leads dir from b → a ≡ b
leads_to_same dir from a b p q =
    let pc = p.columns in let pr = p.rows in let qc = q.columns in let qr = q.rows in
    same_cell a b (omega arith) (omega arith)

-- two walks make one
pub Joined-trans : (passes : Cell → Bool) (a b c : Cell) → Joined passes a b → Joined passes b c → Joined passes a c
Joined-trans passes a b c here there = (here.0 ++ there.0, IsWalk-append passes a b c here.0 there.0 here.1 there.1)

-- a step back
pub Step-opposite : (passes : Cell → Bool) (dir : Dir) (a b : Cell) → Step passes dir a b → Step passes (opposite dir) b a
Step-opposite passes dir a b step = record {
  leads = Leads-opposite dir a b step.leads;
  start = step.next;
  next = step.start;
  side = step.ahead;
  ahead = step.side;
}

-- the direction back of the direction back is the direction
opposite-opposite : (dir : Dir) → opposite (opposite dir) ≡ dir
opposite-opposite N = refl
opposite-opposite E = refl
opposite-opposite S = refl
opposite-opposite W = refl
opposite-opposite NE = refl
opposite-opposite SE = refl
opposite-opposite SW = refl
opposite-opposite NW = refl

pub Leads-from_opposite : (dir : Dir) (a b : Cell) → Leads (opposite dir) a b → Leads dir b a
Leads-from_opposite dir a b leads =
    subst (λ (way : Dir). Leads way b a) (opposite-opposite dir) (Leads-opposite (opposite dir) a b leads)

pub Step-from_opposite : (passes : Cell → Bool) (dir : Dir) (a b : Cell) → Step passes (opposite dir) a b → Step passes dir b a
Step-from_opposite passes dir a b step =
    subst (λ (way : Dir). Step passes way b a) (opposite-opposite dir) (Step-opposite passes (opposite dir) a b step)

walk_back : (passes : Cell → Bool) (dirs : List Dir) (a b : Cell) → IsWalk passes a dirs b → Joined passes b a
walk_back passes [] a b walk = ([], sym walk)
walk_back passes (dir ∷ dirs) a b walk =
    let one = Joined-step passes (opposite dir) walk.0 a a (Step-opposite passes dir a walk.0 walk.1.0) ([], refl) in
    Joined-trans passes b walk.0 a (walk_back passes dirs walk.0 b walk.1.1) one

-- a walk can be gone back
pub Joined-sym : (passes : Cell → Bool) (a b : Cell) → Joined passes a b → Joined passes b a
Joined-sym passes a b joined = walk_back passes joined.0 a b joined.1

pub JoinedStraight-sym : (passes : Cell → Bool) (a b : Cell) → JoinedStraight passes a b → JoinedStraight passes b a
JoinedStraight-sym passes a b joined =
    JoinedStraight-from_Joined passes b a (Joined-sym passes a b (Joined-from_straight passes a b joined))

pub JoinedStraight-trans : (passes : Cell → Bool) (a b c : Cell) → JoinedStraight passes a b → JoinedStraight passes b c → JoinedStraight passes a c
JoinedStraight-trans passes a b c here there = JoinedStraight-from_Joined passes a c
    (Joined-trans passes a b c (Joined-from_straight passes a b here) (Joined-from_straight passes b c there))

-- ---- legal steps by what is passable beside the cell

-- and one along the column first
column_first : (dir : Dir) (a b : Cell) → is_straight dir ≡ false → Leads dir a b → Leads (column_part dir) a (cell_at a.i b.j)
column_first N a b diagonal leads = absurd (false≢true (sym diagonal))
column_first E a b diagonal leads = absurd (false≢true (sym diagonal))
column_first S a b diagonal leads = absurd (false≢true (sym diagonal))
column_first W a b diagonal leads = absurd (false≢true (sym diagonal))
column_first NE a b diagonal leads = record { columns = refl; rows = leads.rows }
column_first SE a b diagonal leads = record { columns = refl; rows = leads.rows }
column_first SW a b diagonal leads = record { columns = refl; rows = leads.rows }
column_first NW a b diagonal leads = record { columns = refl; rows = leads.rows }

-- a straight direction is both of its parts
pub own_parts : (dir : Dir) → is_straight dir ≡ true → (row_part dir ≡ dir) × (column_part dir ≡ dir)
own_parts N straight = (refl, refl)
own_parts E straight = (refl, refl)
own_parts S straight = (refl, refl)
own_parts W straight = (refl, refl)
own_parts NE straight = absurd (false≢true straight)
own_parts SE straight = absurd (false≢true straight)
own_parts SW straight = absurd (false≢true straight)
own_parts NW straight = absurd (false≢true straight)

-- a step from a passable cell is legal where the cells beside it that it needs are passable
pub free_is_legal : (passes : Cell → Bool) (dir : Dir) (a : Cell) → IsTrue (passes a) → IsFreeBeside passes a dir
    → IsFreeBeside passes a (row_part dir) → IsFreeBeside passes a (column_part dir) → IsLegalFrom passes a dir
free_is_legal passes dir a here free row column =
    let b = free.0 in
    let P = λ (v : Bool). is_straight dir ≡ v → IsLegalFrom passes a dir in
    let Q = λ (cell : Cell). IsTrue (passes cell) in
    elim (is_straight dir) as P [
      | true ↦ λ straight. (b, straight_step passes dir a b straight free.1.0 here free.1.1)
      | false ↦ λ diagonal. (
        b,
        record {
          leads = free.1.0;
          start = here;
          next = free.1.1;
          side = subst Q (leads_to_same (row_part dir) a row.0 (cell_at b.i a.j) row.1.0 (two_ways dir a b diagonal free.1.0).0) row.1.1;
          ahead = subst Q (leads_to_same (column_part dir) a column.0 (cell_at a.i b.j) column.1.0 (column_first dir a b diagonal free.1.0)) column.1.1;
        },
      )
    ] refl

-- where a step is legal, the cells that it needs are passable
pub legal_is_free : (passes : Cell → Bool) (dir : Dir) (a : Cell) → IsLegalFrom passes a dir
    → IsFreeBeside passes a dir × (IsFreeBeside passes a (row_part dir) × IsFreeBeside passes a (column_part dir))
legal_is_free passes dir a (b, step) =
    let free : IsFreeBeside passes a dir = (b, (step.leads, step.next)) in
    let P = λ (v : Bool). is_straight dir ≡ v → IsFreeBeside passes a dir × (IsFreeBeside passes a (row_part dir) × IsFreeBeside passes a (column_part dir)) in
    let Q = λ (d : Dir). IsFreeBeside passes a d in
    elim (is_straight dir) as P [
      | true ↦ λ straight. let own = own_parts dir straight in (free, (subst Q (sym own.0) free, subst Q (sym own.1) free))
      | false ↦ λ diagonal. (
        free,
        (
          (cell_at b.i a.j, ((two_ways dir a b diagonal step.leads).0, step.side)),
          (cell_at a.i b.j, (column_first dir a b diagonal step.leads, step.ahead)),
        ),
      )
    ] refl
