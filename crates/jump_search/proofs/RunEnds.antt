-- The ends of runs.
use Rattle.std.proofs.Common.{ℕ, zero, suc, ◌≡◌, ◌<◌, Bool, subst, arith}
use Rattle.nav_types.specs.declared.cells.Cell.{Cell}
use Rattle.nav_types.specs.declared.directions.Dir.{Dir}
use Rattle.nav_types.specs.declared.directions.Dir.TheVariants.{N, E, S, W, NE, SE, SW, NW}
use Rattle.nav_types.specs.Directions.{Leads}
use Rattle.nav_types.proofs.Walking.{leads_from_same}
use Rattle.jump_scan.specs.Stops.{IsRun}
use Rattle.jump_search.specs.inner.Traced.{Moves}
use Rattle.jump_search.proofs.Measuring.{run_moves}

moves_back : (dir : Dir) (count more : ℕ) (a b : Cell) → Moves dir count a b → Moves dir more b a → count ≡ 0
moves_back N count more a b here there = let one = here.rows in let two = there.rows in omega (arith, one, two)
moves_back E count more a b here there = let one = here.columns in let two = there.columns in omega (arith, one, two)
moves_back S count more a b here there = let one = here.rows in let two = there.rows in omega (arith, one, two)
moves_back W count more a b here there = let one = here.columns in let two = there.columns in omega (arith, one, two)
moves_back NE count more a b here there = let one = here.rows in let two = there.rows in omega (arith, one, two)
moves_back SE count more a b here there = let one = here.rows in let two = there.rows in omega (arith, one, two)
moves_back SW count more a b here there = let one = here.rows in let two = there.rows in omega (arith, one, two)
moves_back NW count more a b here there = let one = here.rows in let two = there.rows in omega (arith, one, two)

-- no run in a direction comes back
pub no_way_back : (passes : Cell → Bool) (dir : Dir) (count more : ℕ) (a b : Cell) → IsRun passes dir count a b
    → IsRun passes dir more b a → 0 < count → ⊥
no_way_back passes dir count more a b here there some =
    let one = run_moves passes dir count a b here in
    let two = run_moves passes dir more b a there in
    let none = moves_back dir count more a b one two in
    omega (arith, none, some)

-- a run without its last step
pub run_less : (passes : Cell → Bool) (dir : Dir) (count : ℕ) (from cell to : Cell)
    → IsRun passes dir (suc count) from to → Leads dir cell to → IsRun passes dir count from cell
run_less passes dir zero from cell to run leads =
    leads_from_same dir from cell to (subst (λ (end : Cell). Leads dir from end) run.1.1 run.1.0.leads) leads
run_less passes dir (suc count) from cell to run leads =
    (run.0, (run.1.0, run_less passes dir count run.0 cell to run.1.1 leads))
