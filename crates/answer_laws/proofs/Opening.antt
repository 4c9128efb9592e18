-- The opened number of a search: which jump states are opened is decided, and there are finitely many.
use Rattle.std.proofs.Common.{ℕ, zero, suc, ◌≡◌, ◌+◌, ◌*◌, ◌<◌, ◌≤◌, ◌⊎◌, Bool, Option, Some, None, List, [], ◌∷◌, ◌++◌, length, map, get_or, replicate, IsTrue, refl, inl, inr, ap, sym, subst, ◌∙◌, arith}
use Rattle.std.specs.Prelude.{IsFalse}
use Rattle.std.specs.List.{Contains}
use Rattle.std.proofs.lemmas.Bool.{both_ways, cases_eq, false_from_ne_true}
use Rattle.std.proofs.lemmas.List.{length-map}
use Rattle.std.proofs.lemmas.Option.{same_Some}
use Rattle.std.proofs.Math.Nat.{mul-le-mul_left}
use Rattle.nav_types.specs.declared.cells.Cell.{Cell}
use Rattle.nav_types.specs.declared.cells.Rect.{Rect}
use Rattle.nav_types.specs.declared.directions.Dir.{Dir}
use Rattle.nav_types.specs.declared.directions.Dir.TheVariants.{N, E, S, W, NE, SE, SW, NW}
use Rattle.nav_types.specs.Beside.{IsFreeBeside, IsLegalFrom}
use Rattle.nav_types.specs.Counting.{Counts}
use Rattle.nav_types.specs.Directions.{is_straight, row_part, column_part, Leads}
use Rattle.nav_types.specs.Walks.{Step}
use Rattle.nav_types.proofs.Items.{Contains-head, Contains-tail, Contains-map}
use Rattle.nav_types.proofs.Walking.{IsWalk-passes, step_cost_some}
use Rattle.jump_scan.specs.declared.turns.Side.{Side}
use Rattle.jump_scan.specs.declared.turns.Side.TheVariants.{Left, Right}
use Rattle.jump_scan.specs.Turns.{ahead_to, aside_to, IsNatural, IsTurn}
use Rattle.jump_scan.specs.Successors.{IsBlockedBefore, IsForcing, IsForced, IsSuccessor, HasForced}
use Rattle.jump_scan.specs.Stops.{IsRun, IsStop, HaltsStraight, IsStraightStop, HasStraightStop, HaltsDiagonal}
use Rattle.jump_search.specs.declared.states.JumpState.{JumpState}
use Rattle.jump_search.specs.JumpStates.{IsStopOf, IsJump, octile_between, octile_to, start_state, AreJumps, jumps_cost, IsPrunedCost, IsOpened}
use Rattle.jump_search.proofs.Measuring.{octile_run}
use Rattle.answer_laws.proofs.Deciding.{Decided, decided_test, decided_both, decided_either, decided_not, decided_as, decided_some, LeastNumber}
use Rattle.answer_laws.proofs.Paths.{IsVia, least_via, via_holds, via_of_short, ViaUpTo, put_together}
use Rattle.answer_laws.proofs.Distances.{HasAll, decided_same_cell, decided_less, decided_leads, decided_step, all_dirs, in_all_dirs}
use Rattle.answer_laws.proofs.Listing.{below, in_below, gathered, in_gathered, from_gathered, only_where, in_only_where, from_only_where, counted, gathered_few, counts_few}
use Rattle.answer_laws.proofs.Smoothing.{decided_most, block, in_block}

-- ---- directions and states

-- the place of a direction in the list of all
abbrev place_of_dir : Dir → ℕ
place_of_dir N = 0
place_of_dir E = 1
place_of_dir S = 2
place_of_dir W = 3
place_of_dir NE = 4
place_of_dir SE = 5
place_of_dir SW = 6
place_of_dir NW = 7

dir_at_place : (dir : Dir) → get_or all_dirs (place_of_dir dir) N ≡ dir
dir_at_place N = refl
dir_at_place E = refl
dir_at_place S = refl
dir_at_place W = refl
dir_at_place NE = refl
dir_at_place SE = refl
dir_at_place SW = refl
dir_at_place NW = refl

decided_same_dir : (a b : Dir) → Decided (a ≡ b)
decided_same_dir a b = decided_as {P = place_of_dir a ≡ place_of_dir b}
    (λ same. sym (dir_at_place a) ∙ ap (λ (k : ℕ). get_or all_dirs k N) same ∙ dir_at_place b)
    (λ same. ap place_of_dir same) (cases_eq (place_of_dir a) (place_of_dir b))

decided_same_arrival : (a b : Option Dir) → Decided (a ≡ b)
decided_same_arrival None None = inl refl
decided_same_arrival None (Some b) = inr (λ same. cc)
decided_same_arrival (Some a) None = inr (λ same. cc)
decided_same_arrival (Some a) (Some b) = decided_as (λ same. ap (λ (dir : Dir). Some dir) same) (same_Some a b) (decided_same_dir a b)

same_state : (a b : JumpState) → a.cell ≡ b.cell → a.arrived ≡ b.arrived → a ≡ b
same_state a b cell arrived = λ i. record { cell = cell i; arrived = arrived i }

decided_same_state : (a b : JumpState) → Decided (a ≡ b)
decided_same_state a b = decided_as {P = (a.cell ≡ b.cell) × (a.arrived ≡ b.arrived)} (λ both. same_state a b both.0 both.1)
    (λ same. (ap (λ (s : JumpState). s.cell) same, ap (λ (s : JumpState). s.arrived) same))
    (decided_both (decided_same_cell a.cell b.cell) (decided_same_arrival a.arrived b.arrived))

decided_fails : (b : Bool) → Decided (IsFalse b)
decided_fails b = decided_as (λ fails. false_from_ne_true b fails) (λ fails holds. both_ways b fails holds) (decided_not (decided_test b))

-- the cell before a step lies no further than one column and one row on
before_low : (dir : Dir) (a b : Cell) → Leads dir a b → (a.i < b.i + 2) × (a.j < b.j + 2)
before_low N a b leads = let columns = leads.columns in let rows = leads.rows in (omega arith, omega arith)
before_low E a b leads = let columns = leads.columns in let rows = leads.rows in (omega arith, omega arith)
before_low S a b leads = let columns = leads.columns in let rows = leads.rows in (omega arith, omega arith)
before_low W a b leads = let columns = leads.columns in let rows = leads.rows in (omega arith, omega arith)
before_low NE a b leads = let columns = leads.columns in let rows = leads.rows in (omega arith, omega arith)
before_low SE a b leads = let columns = leads.columns in let rows = leads.rows in (omega arith, omega arith)
before_low SW a b leads = let columns = leads.columns in let rows = leads.rows in (omega arith, omega arith)
before_low NW a b leads = let columns = leads.columns in let rows = leads.rows in (omega arith, omega arith)

decided_turn : (side : Side) (arrived dir : Dir) → Decided (IsTurn side arrived dir)
decided_turn side arrived dir =
    decided_either (decided_same_dir dir (ahead_to side arrived)) (decided_same_dir dir (aside_to side arrived))

decided_natural : (arrived dir : Dir) → Decided (IsNatural arrived dir)
decided_natural arrived dir = decided_either (decided_same_dir dir arrived)
    (decided_either (decided_same_dir dir (row_part arrived)) (decided_same_dir dir (column_part arrived)))

abbrev sides : List Side
sides = Left ∷ Right ∷ []

in_sides : (side : Side) → Contains sides side
in_sides Left = Contains-head Left (Right ∷ [])
in_sides Right = Contains-tail Left (Right ∷ []) Right (Contains-head Right [])

-- ---- successors, runs and stops

-- a run of one step or more ends at a passable cell
run_passes : (passes : Cell → Bool) (dir : Dir) (count : ℕ) (from to : Cell) → 0 < count → IsRun passes dir count from to → IsTrue (passes to)
run_passes passes dir zero from to some run = absurd (omega (arith, some))
run_passes passes dir (suc count) from to some run = IsWalk-passes passes (replicate count dir) run.0 to run.1.0.next run.1.1

-- a run has no more steps than its ends are apart
run_short : (passes : Cell → Bool) (dir : Dir) (count : ℕ) (from to : Cell) → IsRun passes dir count from to → count < octile_between from to + 1
run_short passes dir count from to run =
    let product = mul-le-mul_left count (step_cost_some dir) in
    let far = octile_run passes dir count from to run in
    omega (arith, product, far)

module _ (passes : Cell → Bool) (cells : List Cell) (whole : HasAll passes cells) where
  decided_free : (cell : Cell) (dir : Dir) → Decided (IsFreeBeside passes cell dir)
  decided_free cell dir = decided_some (λ next. Leads dir cell next × IsTrue (passes next))
      (λ next. decided_both (decided_leads dir cell next) (decided_test (passes next))) cells (λ next free. whole next free.1)

  decided_legal : (cell : Cell) (dir : Dir) → Decided (IsLegalFrom passes cell dir)
  decided_legal cell dir = decided_some (λ next. Step passes dir cell next) (λ next. decided_step passes dir cell next) cells
      (λ next step. whole next step.next)

  decided_blocked : (cell : Cell) (arrived : Dir) (side : Side) → Decided (IsBlockedBefore passes cell arrived side)
  decided_blocked cell arrived side =
      let Frees : Cell → Type 0 = λ before. Leads arrived before cell × IsFreeBeside passes before (aside_to side arrived) in
      decided_as {P = ((before : Cell) × Frees before) → ⊥}
      (λ none before leads free. none (before, (leads, free))) (λ blocked some. blocked some.0 some.1.0 some.1.1)
      (decided_not (decided_some Frees
      (λ before. decided_both (decided_leads arrived before cell) (decided_free before (aside_to side arrived)))
      (block (cell.i + 2) (cell.j + 2))
      (λ before frees. let low = before_low arrived before cell frees.0 in in_block (cell.i + 2) (cell.j + 2) before low.0 low.1)))

  decided_forced : (cell : Cell) (arrived dir : Dir) → Decided (IsForced passes cell arrived dir)
  decided_forced cell arrived dir = decided_some (λ side. IsForcing passes cell arrived side × IsTurn side arrived dir)
      (λ side. decided_both (decided_both (decided_test (is_straight arrived)) (decided_blocked cell arrived side)) (decided_turn side arrived dir))
      sides (λ side is. in_sides side)

  decided_successor : (cell : Cell) (arrived : Option Dir) (dir : Dir) → Decided (IsSuccessor passes cell arrived dir)
  decided_successor cell None dir = decided_legal cell dir
  decided_successor cell (Some arrived) dir = decided_both (decided_legal cell dir)
      (decided_either (decided_natural arrived dir) (decided_forced cell arrived dir))

  decided_has_forced : (cell : Cell) (arrived : Dir) → Decided (HasForced passes cell arrived)
  decided_has_forced cell arrived = decided_some (λ dir. IsLegalFrom passes cell dir × IsForced passes cell arrived dir)
      (λ dir. decided_both (decided_legal cell dir) (decided_forced cell arrived dir)) all_dirs (λ dir is. in_all_dirs dir)

  decided_run : (dir : Dir) (count : ℕ) (from to : Cell) → Decided (IsRun passes dir count from to)
  decided_run dir zero from to = decided_same_cell from to
  decided_run dir (suc count) from to = decided_some (λ next. Step passes dir from next × IsRun passes dir count next to)
      (λ next. decided_both (decided_step passes dir from next) (decided_run dir count next to)) cells (λ next run. whole next run.0.next)

  -- a shorter run to a cell that halts
  abbrev HaltsAt : (Cell → Type 0) → Dir → ℕ → Cell → ℕ → Cell → Type 0
  HaltsAt Halts dir count from fewer cell =
      (0 < fewer) × ((fewer < count) × (IsRun passes dir fewer from cell × Halts cell))

  abbrev HaltsSooner : (Cell → Type 0) → Dir → ℕ → Cell → Type 0
  HaltsSooner Halts dir count from = (fewer : ℕ) × ((cell : Cell) × HaltsAt Halts dir count from fewer cell)

  decided_sooner : (Halts : Cell → Type 0) → ((cell : Cell) → Decided (Halts cell)) → (dir : Dir) (count : ℕ) (from : Cell)
      → Decided (HaltsSooner Halts dir count from)
  decided_sooner Halts decide dir count from =
      decided_some (λ fewer. (cell : Cell) × HaltsAt Halts dir count from fewer cell)
      (λ fewer. decided_some (λ cell. HaltsAt Halts dir count from fewer cell)
      (λ cell. decided_both (decided_less 0 fewer) (decided_both (decided_less fewer count)
      (decided_both (decided_run dir fewer from cell) (decide cell))))
      cells (λ cell at. whole cell (run_passes passes dir fewer from cell at.0 at.1.1.0)))
      (below count) (λ fewer some. in_below count fewer some.1.1.0)

  -- the run stops after so many steps
  abbrev StopsAfter : (Cell → Type 0) → Dir → Cell → Cell → ℕ → Type 0
  StopsAfter Halts dir from stop count =
      (0 < count) × (IsRun passes dir count from stop × (Halts stop × (HaltsSooner Halts dir count from → ⊥)))

  decided_stop : (Halts : Cell → Type 0) → ((cell : Cell) → Decided (Halts cell)) → (dir : Dir) (from stop : Cell)
      → Decided (IsStop passes Halts dir from stop)
  decided_stop Halts decide dir from stop = decided_as {P = (count : ℕ) × StopsAfter Halts dir from stop count}
      (λ after. record {
        count = after.0;
        some = after.1.0;
        run = after.1.1.0;
        halts = after.1.1.1.0;
        first = λ fewer cell some less run halts. after.1.1.1.1 (fewer, (cell, (some, (less, (run, halts)))));
      })
      (λ is. (
        is.count,
        (
          is.some,
          (
            is.run,
            (
              is.halts,
              λ sooner. is.first sooner.0 sooner.1.0 sooner.1.1.0 sooner.1.1.1.0 sooner.1.1.1.1.0 sooner.1.1.1.1.1,
            ),
          ),
        ),
      ))
      (decided_some (StopsAfter Halts dir from stop)
      (λ count. decided_both (decided_less 0 count) (decided_both (decided_run dir count from stop)
      (decided_both (decide stop) (decided_not (decided_sooner Halts decide dir count from)))))
      (below (octile_between from stop + 1))
      (λ count after. in_below (octile_between from stop + 1) count (run_short passes dir count from stop after.1.0)))

  stop_passes : (Halts : Cell → Type 0) (dir : Dir) (from stop : Cell) → IsStop passes Halts dir from stop → IsTrue (passes stop)
  stop_passes Halts dir from stop is = run_passes passes dir is.count from stop is.some is.run

  module _ (hit : Cell → Bool) where
    halts_straight : (dir : Dir) (cell : Cell) → Decided (HaltsStraight passes hit dir cell)
    halts_straight dir cell = decided_either (decided_test (hit cell)) (decided_has_forced cell dir)

    has_jump_point : (dir : Dir) (from : Cell) → Decided (HasStraightStop passes hit dir from)
    has_jump_point dir from = decided_some (λ stop. IsStraightStop passes hit dir from stop)
        (λ stop. decided_stop (HaltsStraight passes hit dir) (halts_straight dir) dir from stop) cells
        (λ stop is. whole stop (stop_passes (HaltsStraight passes hit dir) dir from stop is))

    halts_diagonal : (dir : Dir) (cell : Cell) → Decided (HaltsDiagonal passes hit dir cell)
    halts_diagonal dir cell = decided_either (decided_test (hit cell))
        (decided_either (has_jump_point (row_part dir) cell) (has_jump_point (column_part dir) cell))

    decided_stop_of : (dir : Dir) (from stop : Cell) → Decided (IsStopOf passes hit dir from stop)
    decided_stop_of dir from stop = decided_either
        (decided_both (decided_test (is_straight dir)) (decided_stop (HaltsStraight passes hit dir) (halts_straight dir) dir from stop))
        (decided_both (decided_fails (is_straight dir)) (decided_stop (HaltsDiagonal passes hit dir) (halts_diagonal dir) dir from stop))

    stop_of_passes : (dir : Dir) (from stop : Cell) → IsStopOf passes hit dir from stop → IsTrue (passes stop)
    stop_of_passes dir from stop (inl straight) = stop_passes (HaltsStraight passes hit dir) dir from stop straight.1
    stop_of_passes dir from stop (inr diagonal) = stop_passes (HaltsDiagonal passes hit dir) dir from stop diagonal.1

    -- ---- jumps

    abbrev JumpsBy : JumpState → JumpState → Dir → Type 0
    JumpsBy from to dir = (to.arrived ≡ Some dir)
        × (IsSuccessor passes from.cell from.arrived dir × IsStopOf passes hit dir from.cell to.cell)

    decided_jump : (from to : JumpState) → Decided (IsJump passes hit from to)
    decided_jump from to = decided_as {P = (dir : Dir) × JumpsBy from to dir}
        (λ by. record { dir = by.0; arrived = by.1.0; successor = by.1.1.0; stop = by.1.1.1 })
        (λ jump. (jump.dir, (jump.arrived, (jump.successor, jump.stop))))
        (decided_some (JumpsBy from to)
        (λ dir. decided_both (decided_same_arrival to.arrived (Some dir))
        (decided_both (decided_successor from.cell from.arrived dir) (decided_stop_of dir from.cell to.cell)))
        all_dirs (λ dir is. in_all_dirs dir))

    -- the cost of a jump
    abbrev IsJumpCost : JumpState → JumpState → ℕ → Type 0
    IsJumpCost from to cost = IsJump passes hit from to × (cost ≡ octile_between from.cell to.cell)

    least_jump : (from to : JumpState) → LeastNumber (IsJumpCost from to)
    least_jump from to = elim (decided_jump from to) [
      | inl jump ↦ inl (octile_between from.cell to.cell, ((jump, refl), λ d is. omega (arith, is.1)))
      | inr none ↦ inr (λ d is. none is.0)
    ]

    -- jumps from a state, which are given backwards
    abbrev JumpsFrom : JumpState → List JumpState → JumpState → Type 0
    JumpsFrom origin [] state = state ≡ origin
    JumpsFrom origin (before ∷ rest) state = IsJump passes hit before state × JumpsFrom origin rest before

    jumps_from_start : (start : Cell) (before : List JumpState) (state : JumpState) → JumpsFrom (start_state start) before state
        → AreJumps passes hit start before state
    jumps_from_start start [] state jumps = jumps
    jumps_from_start start (before ∷ rest) state jumps = (jumps.0, jumps_from_start start rest before jumps.1)

    abbrev JumpsOf : JumpState → JumpState → ℕ → Type 0
    JumpsOf origin state cost = (before : List JumpState) × (JumpsFrom origin before state × (jumps_cost before state ≡ cost))

    jumps_on : (origin mid : JumpState) (first : List JumpState) → JumpsFrom origin first mid → (second : List JumpState) (state : JumpState)
        → JumpsFrom mid second state
        → JumpsFrom origin (second ++ first) state × (jumps_cost (second ++ first) state ≡ jumps_cost first mid + jumps_cost second state)
    jumps_on origin mid first one [] state two = (
      subst (λ (s : JumpState). JumpsFrom origin first s) (sym two) one,
      (let same = ap (λ (s : JumpState). jumps_cost first s) two in omega (arith, same)),
    )
    jumps_on origin mid first one (before ∷ rest) state two =
        let more = jumps_on origin mid first one rest before two.1 in
        ((two.0, more.0), omega (arith, more.1))

    jumps_of_via : (states : List JumpState) (origin state : JumpState) (cost : ℕ) → IsVia IsJumpCost states origin state cost → JumpsOf origin state cost
    jumps_of_via =
        via_holds IsJumpCost JumpsOf (λ a. ([], (refl, refl)))
        (λ a b c by. (a ∷ [], ((by.0, refl), omega (arith, by.1))))
        (λ a x b p q one two.
        let both = jumps_on a x one.0 one.1.0 two.0 b two.1.0 in
        (two.0 ++ one.0, (both.0, omega (arith, both.1, one.1.1, two.1.1))))

    -- ---- the states of a search

    module _ (start : Cell) (passing : IsTrue (passes start)) where
      -- the state at a cell to which a run came
      abbrev state_by : Cell → Dir → JumpState
      state_by cell dir = record { cell = cell; arrived = Some dir }

      arrivals_at : Cell → List JumpState
      arrivals_at cell = map (state_by cell) all_dirs

      states : List JumpState
      states = start_state start ∷ gathered arrivals_at cells

      state_in : (before state : JumpState) → IsJump passes hit before state → Contains states state
      unfolding states arrivals_at
      state_in before state jump =
          let cell = state.cell in
          let made : JumpState = state_by cell jump.dir in
          let same : made ≡ state = same_state made state refl (sym jump.arrived) in
          Contains-tail (start_state start) (gathered arrivals_at cells) state
          (in_gathered arrivals_at cells cell state (whole cell (stop_of_passes jump.dir before.cell cell jump.stop))
          (subst (Contains (arrivals_at cell)) same (Contains-map (state_by cell) all_dirs jump.dir (in_all_dirs jump.dir))))

      jumped_in : (before : List JumpState) (state : JumpState) → AreJumps passes hit start before state → Contains states state
      unfolding states
      jumped_in [] state jumps = subst (Contains states) (sym jumps) (Contains-head (start_state start) (gathered arrivals_at cells))
      jumped_in (before ∷ rest) state jumps = state_in before state jumps.0

      via_of_jumps : (before : List JumpState) (state : JumpState) → AreJumps passes hit start before state
          → ViaUpTo IsJumpCost states (start_state start) state (jumps_cost before state)
      via_of_jumps [] state jumps = (0, (via_of_short IsJumpCost states (start_state start) state 0 (inl (sym jumps, refl)), omega arith))
      via_of_jumps (before ∷ rest) state jumps =
          let first = via_of_jumps rest before jumps.1 in
          let cost = octile_between before.cell state.cell in
          let last = via_of_short IsJumpCost states before state cost (inr (jumps.0, refl)) in
          let both = put_together IsJumpCost states before (jumped_in rest before jumps.1) (start_state start) state first.0 cost first.1.0 last in
          (both.0, (both.1.0, omega (arith, both.1.1, first.1.1)))

      -- the least cost of jumps to a state, or none lead there
      pruned : (state : JumpState)
          → ((cost : ℕ) × IsPrunedCost passes hit start state cost) ⊎ ((before : List JumpState) → AreJumps passes hit start before state → ⊥)
      pruned state = elim (least_via IsJumpCost decided_same_state least_jump states (start_state start) state) [
        | inl least ↦
            let jumps = jumps_of_via states (start_state start) state least.0 least.1.0 in
            inl (
              least.0,
              record {
                jumps = (jumps.0, (jumps_from_start start jumps.0 state jumps.1.0, jumps.1.1));
                least = λ before are. let via = via_of_jumps before state are in omega (arith, least.1.1 via.0 via.1.0, via.1.1);
              },
            )
        | inr none ↦ inr (λ before are. let via = via_of_jumps before state are in none via.0 via.1.0)
      ]

      decided_opened : (rect : Rect) (bound : ℕ) (state : JumpState) → Decided (IsOpened passes hit start rect bound state)
      decided_opened rect bound state = elim (pruned state) [
        | inr none ↦ inr (λ opened. let jumps = opened.pruned.jumps in none jumps.0 jumps.1.0)
        | inl least ↦ elim (decided_most (least.0 + octile_to rect state.cell) bound) [
          | inl near ↦ inl (record { cost = least.0; pruned = least.1; near = near })
          | inr far ↦ inr (λ opened.
              let jumps = opened.pruned.jumps in
              let low : least.0 ≤ jumps_cost jumps.0 state = least.1.least jumps.0 jumps.1.0 in
              far (omega (arith, low, jumps.1.1, opened.near)))
        ]
      ]

      pub opened_number : (rect : Rect) (bound : ℕ) → (opened : ℕ) × Counts (IsOpened passes hit start rect bound) opened
      opened_number rect bound =
          let Opened : JumpState → Type 0 = IsOpened passes hit start rect bound in
          let only : JumpState → List JumpState = λ state. only_where (decided_opened rect bound state) state in
          counted Opened decided_same_state (gathered only states)
          (λ state inside.
          let from = from_gathered only states state inside in
          let item = from_only_where (decided_opened rect bound from.0) from.0 state from.1.1 in
          subst Opened item.1 item.0)
          (λ state opened.
          let jumps = opened.pruned.jumps in
          in_gathered only states state state (jumped_in jumps.0 state jumps.1.0) (in_only_where (decided_opened rect bound state) state opened))

      states_few : length states ≤ 1 + 8 * length cells
      unfolding states arrivals_at
      states_few =
          let each : (cell : Cell) → length (arrivals_at cell) ≤ 8 = λ cell. omega (arith, length-map all_dirs (state_by cell)) in
          omega (arith, gathered_few arrivals_at 8 each cells)

      pub opened_few : (rect : Rect) (bound count : ℕ) → Counts (IsOpened passes hit start rect bound) count → count ≤ 1 + 8 * length cells
      opened_few rect bound count counts =
          let few = counts_few (IsOpened passes hit start rect bound) count counts states
          (λ state opened. let jumps = opened.pruned.jumps in jumped_in jumps.0 state jumps.1.0) in
          omega (arith, few, states_few)
