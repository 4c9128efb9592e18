-- Answers fit the program's words.
use Rattle.std.proofs.Common.{ℕ, ◌≡◌, ◌≢◌, ◌+◌, ◌*◌, ◌/◌, ◌%◌, ◌-◌, ◌<◌, ◌≤◌, Bool, true, false, List, [], ◌∷◌, length, map, get_or, reverse, ℤ, pos, negsuc, Option, None, Some, Result, Ok, Err, IsTrue, refl, inl, inr, sym, subst, ◌∙◌, arith, if◌then◌else◌}
use Rattle.std.specs.List.{AllPairs, Contains}
use Rattle.std.proofs.lemmas.Bool.{cases_Bool}
use Rattle.std.proofs.lemmas.Int.{ints}
use Rattle.std.proofs.lemmas.List.{length-map}
use Rattle.std.proofs.lemmas.List.Elements.{Contains-append_cases, Contains-get_or}
use Rattle.std.proofs.lemmas.Option.{slice_get_within}
use Rattle.std.proofs.Math.Nat.{mul-le-mul_right, mul-le-mul_left}
use Rattle.nav_types.specs.declared.cells.Cell.{Cell}
use Rattle.nav_types.specs.declared.cells.Chunk.{Chunk}
use Rattle.nav_types.specs.declared.cells.Size.{Size}
use Rattle.nav_types.specs.declared.directions.Dir.{Dir}
use Rattle.nav_types.specs.Cells.{cell_at, chunk_of, IsInside, IsBefore}
use Rattle.nav_types.specs.Counting.{HasNumber}
use Rattle.nav_types.specs.Directions.{step_cost, Leads}
use Rattle.nav_types.specs.Regions.{passes_in, InOneRegion, HasRegion, IsAreaBefore, HasArea}
use Rattle.nav_types.specs.Walks.{IsWalk, Joined, IsDistance}
use Rattle.nav_types.proofs.CellOrder.{same_cell, IsBefore-asym, IsAreaBefore-asym}
use Rattle.nav_types.proofs.Items.{IsOnce, Contains-none, Contains-cons_cases, Contains-map, AllPairs-nil, AllPairs-front}
use Rattle.nav_types.proofs.Regions.{lies_in}
use Rattle.nav_types.proofs.Walking.{IsWalk-passes, IsDistance-unique, step_cost_most, step_cost_some, leads_from_same}
use Rattle.fixed_point.specs.Raw.{floor_of}
use Rattle.fixed_point.specs.Plane.{IsOnAxis}
use Rattle.goal_shapes.specs.declared.goals.Goal.{Goal}
use Rattle.walks.specs.Chosen.{Enters, IsChosenBack, IsAnswer}
use Rattle.walks.specs.Waypoints.{cell_after, is_corner, waypoints}
use Rattle.walks.proofs.Tracing.{picked_within, chosen_walk}
use Rattle.posts.specs.declared.edits.Refusal.{Refusal}
use Rattle.posts.specs.declared.posts.Request.{Request}
use Rattle.posts.specs.declared.posts.Request.TheVariants.{Path as AsksPath, Region as AsksRegion}
use Rattle.posts.specs.declared.replies.PathAnswer.{PathAnswer}
use Rattle.posts.specs.declared.replies.RegionAnswer.{RegionAnswer}
use Rattle.posts.specs.declared.replies.Answer.{Answer}
use Rattle.posts.specs.Maps.{Map}
use Rattle.grid_versions.specs.Passing.{passable_at}
use Rattle.grid_versions.specs.inner.PassingLaws.{passes_within}
use Rattle.grid_versions.specs.Versions.{map_state}
use Rattle.turn_core.specs.Words.{Standing}
use Rattle.turn_core.specs.NamedGoals.{class_named, is_on_map, goal_found}
use Rattle.turn_core.specs.Solving.{IsPathAnswer, IsPathTo, IsPathFound, IsRegionAnswer, IsRegionAt, IsAnswerAt, IsAnswerTo}
use Rattle.turn_core.proofs.FoundGoals.{on_map_decides}
use Rattle.answer_laws.specs.WordFits.{PathFits, RegionFits, AnswerFits}
use Rattle.answer_laws.proofs.Distances.{HasAll}
use Rattle.answer_laws.proofs.Listing.{below, in_below, cells_of, gathered, in_gathered, fewer, below_length, gathered_few}
use Rattle.answer_laws.proofs.Requests.{has_all}

-- ---- cells

pub few_cells : (size : Size) → length (cells_of size) ≤ 4194304
few_cells size =
    let wide = size.wide.few in
    let high = size.high.few in
    let rows = mul-le-mul_right size.h wide in
    omega (arith, length-map (below (size.w * size.h)) (λ place. cell_at (place % size.w) (place / size.w)), below_length (size.w * size.h), rows, high)

-- ---- numbers of groups

rising_once : (Before : Cell → Cell → Type 0) → ((a b : Cell) → Before a b → Before b a → ⊥) → (list : List Cell)
    → AllPairs Before list → IsOnce list
rising_once Before asym list rising = λ i j d less within same.
    let a = get_or list i d in
    let b = get_or list j d in
    let before : Before a b = rising i j d less within in
    let own : Before b b = subst (λ (c : Cell). Before c b) same before in
    asym b b own own

-- a number is no more than the passable cells of a list of all
number_few : (passes : Cell → Bool) (Together Before : Cell → Cell → Type 0) → ((a b : Cell) → Before a b → Before b a → ⊥)
    → (cells : List Cell) → HasAll passes cells → (cell : Cell) (number : ℕ) → HasNumber passes Together Before cell number
    → number ≤ length cells
number_few passes Together Before asym cells whole cell number has = elim (cases_Bool (passes cell)) [
  | inr fails ↦ (let none = has.blocked fails in omega (arith, none))
  | inl passing ↦
      let placed = has.placed passing in
      let firsts = placed.1.0 in
      let place = placed.1.1 in
      let short = fewer placed.0 cells (rising_once Before asym placed.0 firsts.rising)
      (λ c inside. whole c (firsts.each c inside).passable) in
      let low = slice_get_within placed.0 place.0 place.1.0 place.1.1.0 in
      omega (arith, short, low, place.1.1.1.1)
]

-- the cells of a chunk
chunk_cells : Chunk → List Cell
chunk_cells chunk = gathered (λ j. map (λ i. cell_at (96 * chunk.ci + i) (96 * chunk.cj + j)) (below 96)) (below 96)

chunk_cells_few : (chunk : Chunk) → length (chunk_cells chunk) ≤ 9216
unfolding chunk_cells
chunk_cells_few chunk =
    let row : ℕ → List Cell = λ j. map (λ i. cell_at (96 * chunk.ci + i) (96 * chunk.cj + j)) (below 96) in
    let each : (j : ℕ) → length (row j) ≤ 96 =
    λ j. omega (arith, length-map (below 96) (λ i. cell_at (96 * chunk.ci + i) (96 * chunk.cj + j)), below_length 96) in
    omega (arith, gathered_few row 96 each (below 96), below_length 96)

in_chunk_cells : (chunk : Chunk) (cell : Cell) → cell.i / 96 ≡ chunk.ci → cell.j / 96 ≡ chunk.cj → Contains (chunk_cells chunk) cell
unfolding chunk_cells
in_chunk_cells chunk cell column row =
    let i : ℕ = cell.i - 96 * chunk.ci in
    let j : ℕ = cell.j - 96 * chunk.cj in
    let low_i : i < 96 = omega (arith, column) in
    let low_j : j < 96 = omega (arith, row) in
    let same_i : 96 * chunk.ci + i ≡ cell.i = omega (arith, column) in
    let same_j : 96 * chunk.cj + j ≡ cell.j = omega (arith, row) in
    let at : ℕ → ℕ → Cell = λ b a. cell_at (96 * chunk.ci + a) (96 * chunk.cj + b) in
    subst (Contains (gathered (λ b. map (at b) (below 96)) (below 96))) (same_cell (at j i) cell same_i same_j)
    (in_gathered (λ b. map (at b) (below 96)) (below 96) j (at j i) (in_below 96 j low_j)
    (Contains-map (at j) (below 96) i (in_below 96 i low_i)))

region_few : (passes : Cell → Bool) (chunk : Chunk) (cell : Cell) (number : ℕ) → HasRegion passes chunk cell number → number ≤ 9216
region_few passes chunk cell number has =
    let few = number_few (passes_in passes chunk) (InOneRegion passes chunk) IsBefore IsBefore-asym (chunk_cells chunk)
    (λ c passing. let lies = lies_in passes chunk c passing in in_chunk_cells chunk c lies.column lies.row) cell number has in
    omega (arith, few, chunk_cells_few chunk)

area_few : (passes : Cell → Bool) (cells : List Cell) → HasAll passes cells → (cell : Cell) (number : ℕ) → HasArea passes cell number
    → number ≤ length cells
area_few passes cells whole cell number has =
    number_few passes (Joined passes) IsAreaBefore IsAreaBefore-asym cells whole cell number has

-- ---- costs

-- the cells that chosen steps pass, from a cell back to the start: each once, and none further from the start than the cell
record Visited (passes : Cell → Bool) (start : Cell) (cost : ℕ) : Type 0 where
  list : List Cell
  once : IsOnce list
  passing : (c : Cell) → Contains list c → IsTrue (passes c)
  known : (c : Cell) → Contains list c → (d : ℕ) × (IsDistance passes start c d × (d ≤ cost))
  cheap : cost ≤ 92682 * length list

visited : (passes : Cell → Bool) (start : Cell) (dirs : List Dir) (next : Option Dir) (cell : Cell) (cost : ℕ)
    → IsChosenBack passes start next dirs cell → IsDistance passes start cell cost → Visited passes start cost
visited passes start [] next cell cost chosen there = record {
  list = [];
  once = AllPairs-nil (λ a b. a ≢ b);
  passing = λ c inside. absurd (Contains-none c inside);
  known = λ c inside. absurd (Contains-none c inside);
  cheap = (let none = there.least [] chosen in omega (arith, none));
}
visited passes start (dir ∷ dirs) next cell cost chosen there =
    let enters = picked_within (Enters passes start cell) next dir chosen.1.0 in
    let after = chosen.1.1 in
    let same : enters.before ≡ after.0 = leads_from_same dir enters.before after.0 cell enters.step.leads after.1.0 in
    let near : IsDistance passes start after.0 enters.cost =
    subst (λ (c : Cell). IsDistance passes start c enters.cost) same enters.near in
    let rest = visited passes start dirs (Some dir) after.0 enters.cost after.1.1 near in
    let sum : cost ≡ enters.cost + step_cost dir =
    IsDistance-unique passes start cell cost (enters.cost + step_cost dir) there enters.far in
    record {
      list = cell ∷ rest.list;
      once = AllPairs-front (λ a b. a ≢ b) cell rest.list
          (λ c inside one.
          let far = rest.known c inside in
          let own : IsDistance passes start cell far.0 = subst (λ (z : Cell). IsDistance passes start z far.0) (sym one) far.1.0 in
          let equal = IsDistance-unique passes start cell cost far.0 there own in
          omega (arith, equal, far.1.1, sum, step_cost_some dir))
          rest.once;
      passing = λ c inside. elim (Contains-cons_cases cell rest.list c inside) [
        | inl one ↦ subst (λ (z : Cell). IsTrue (passes z)) one enters.step.next
        | inr later ↦ rest.passing c later
      ];
      known = λ c inside. elim (Contains-cons_cases cell rest.list c inside) [
        | inl one ↦ (cost, (subst (λ (z : Cell). IsDistance passes start z cost) one there, omega arith))
        | inr later ↦ let far = rest.known c later in (far.0, (far.1.0, omega (arith, far.1.1, sum)))
      ];
      cheap = omega (arith, rest.cheap, sum, step_cost_most dir);
    }

pub cost_few : (passes : Cell → Bool) (cells : List Cell) → HasAll passes cells → (start : Cell) (hit : Cell → Bool) (end : Cell) (cost : ℕ)
    (points : List Cell) → IsAnswer passes start hit end cost points → cost ≤ 92682 * length cells
cost_few passes cells whole start hit end cost points answer =
    let walk = answer.walk in
    let there : IsDistance passes start end cost = record {
      walk = (walk.0, (chosen_walk passes start end walk.0 walk.1.0, walk.1.1.0));
      least = λ dirs way. answer.nearest end dirs answer.is_hit way;
    } in
    let seen = visited passes start (reverse walk.0) None end cost walk.1.0 there in
    let few = fewer seen.list cells seen.once (λ c inside. whole c (seen.passing c inside)) in
    omega (arith, seen.cheap, mul-le-mul_left 92682 few)

-- ---- waypoints

only_item : (b : Bool) (x c : Cell) → Contains (if b then x ∷ [] else []) c → x ≡ c
only_item true x c inside = elim (Contains-cons_cases x [] c inside) [ inl same ↦ same | inr none ↦ absurd (Contains-none c none) ]
only_item false x c inside = absurd (Contains-none c inside)

after_is : (dir : Dir) (from next : Cell) → Leads dir from next → cell_after dir from ≡ next
after_is dir from next leads =
    let columns = leads.columns in
    let rows = leads.rows in
    same_cell (cell_after dir from) next (omega arith) (omega arith)

points_pass : (passes : Cell → Bool) (dirs : List Dir) (from to : Cell) → IsWalk passes from dirs to → (c : Cell)
    → Contains (waypoints from dirs) c → IsTrue (passes c)
points_pass passes [] from to walk c inside = absurd (Contains-none c inside)
points_pass passes (dir ∷ dirs) from to walk c inside =
    let next = walk.0 in
    let step = walk.1.0 in
    let made : cell_after dir from ≡ next = after_is dir from next step.leads in
    elim (Contains-append_cases (if is_corner dir dirs then cell_after dir from ∷ [] else []) (waypoints (cell_after dir from) dirs) c inside) [
      | inl here ↦ subst (λ (z : Cell). IsTrue (passes z)) (sym made ∙ only_item (is_corner dir dirs) (cell_after dir from) c here) step.next
      | inr later ↦ points_pass passes dirs next to walk.1.1 c (subst (λ (z : Cell). Contains (waypoints z dirs) c) made later)
    ]

-- ---- answers

path_fits : (m : Map) (standing : Standing) (class : ℕ) (x z : ℤ) (goal : Goal) (path : PathAnswer)
    → IsPathAnswer (passable_at m standing class) x z goal path → PathFits m.size path
path_fits m standing class x z goal path is =
    let passes : Cell → Bool = passable_at m standing class in
    let within : (cell : Cell) → IsTrue (passes cell) → IsInside m.size cell = passes_within (map_state m standing) class in
    let answer = is.walk in
    let dirs = answer.walk.0 in
    let walk = chosen_walk passes path.start path.end dirs answer.walk.1.0 in
    let passing = is.start_cell.passable in
    let cost = cost_few passes (cells_of m.size) (has_all m standing class) path.start _ path.end path.cost.0 path.waypoints answer in
    record {
      start = within path.start passing;
      end = within path.end (IsWalk-passes passes dirs path.start path.end passing walk);
      points = λ k d low. within (get_or path.waypoints k d) (points_pass passes dirs path.start path.end walk (get_or path.waypoints k d)
          (subst (λ (points : List Cell). Contains points (get_or path.waypoints k d)) answer.walk.1.1.1 (Contains-get_or path.waypoints k d low)));
      cost = omega (arith, cost, mul-le-mul_left 92682 (few_cells m.size));
    }

holder_inside : (count i : ℕ) (x : ℤ) → IsOnAxis count x → floor_of x ≡ pos i → i < count
holder_inside count i (pos n) on holds = let same : n / 65536 ≡ i = cc in omega (arith, ints)
holder_inside count i (negsuc n) on holds = absurd (omega (arith, ints))

region_fits : (m : Map) (standing : Standing) (class : ℕ) (x z : ℤ) (answer : RegionAnswer) → IsTrue (is_on_map m.size x z)
    → IsRegionAnswer (passable_at m standing class) x z answer → RegionFits answer
region_fits m standing class x z answer on is =
    let axes = (on_map_decides m.size x z).0 on in
    let i = holder_inside m.size.w is.cell.i x axes.0 is.holder.column in
    let j = holder_inside m.size.h is.cell.j z axes.1 is.holder.row in
    let wide = m.size.wide.few in
    let high = m.size.high.few in
    let region = region_few (passable_at m standing class) (chunk_of is.cell) is.cell answer.region is.region_number in
    let area = area_few (passable_at m standing class) (cells_of m.size) (has_all m standing class) is.cell answer.area is.area_number in
    record {
      column = omega (arith, is.chunk_column, i, wide);
      row = omega (arith, is.chunk_row, j, high);
      region = omega (arith, region);
      area = omega (arith, area, few_cells m.size);
    }

fits_at : (size : Size) (named : Option ℕ) (on_map : Bool) (Answers : ℕ → Answer → Type 0) (answer : Answer)
    → ((class : ℕ) → on_map ≡ true → Answers class answer → AnswerFits size answer) → IsAnswerAt named on_map Answers answer → AnswerFits size answer
fits_at size None on_map Answers answer each is = subst (AnswerFits size) (sym is) tt
fits_at size (Some class) false Answers answer each is = subst (AnswerFits size) (sym is) tt
fits_at size (Some class) true Answers answer each is = each class refl is

path_to_fits : (m : Map) (standing : Standing) (class : ℕ) (x z : ℤ) (goal : Goal) (answer : Answer)
    → IsPathTo (passable_at m standing class) x z goal answer → AnswerFits m.size answer
path_to_fits m standing class x z goal answer (inl nowhere) = subst (AnswerFits m.size) (sym nowhere.1) tt
path_to_fits m standing class x z goal answer (inr path) =
    subst (AnswerFits m.size) (sym path.1.0) (path_fits m standing class x z goal path.0 path.1.1)

path_found_fits : (m : Map) (standing : Standing) (class : ℕ) (x z : ℤ) (goal : Result Goal Refusal) (answer : Answer)
    → IsPathFound (passable_at m standing class) x z goal answer → AnswerFits m.size answer
path_found_fits m standing class x z (Err refusal) answer is = subst (AnswerFits m.size) (sym is) tt
path_found_fits m standing class x z (Ok goal) answer is = path_to_fits m standing class x z goal answer is

pub answer_fits : (m : Map) (standing : Standing) (request : Request) (answer : Answer) → IsAnswerTo m standing request answer → AnswerFits m.size answer
unfolding IsAnswerTo
answer_fits m standing (AsksPath request) answer is =
    let goal = goal_found m standing request.goal in
    fits_at m.size (class_named m request.class) (is_on_map m.size request.x request.z)
    (λ class. IsPathFound (passable_at m standing class) request.x request.z goal) answer
    (λ class on found. path_found_fits m standing class request.x request.z goal answer found) is
answer_fits m standing (AsksRegion query) answer is =
    fits_at m.size (class_named m query.class) (is_on_map m.size query.x query.z) (λ class. IsRegionAt (passable_at m standing class) query.x query.z) answer
    (λ class on region. subst (AnswerFits m.size) (sym region.1.0) (region_fits m standing class query.x query.z region.0 on region.1.1)) is
