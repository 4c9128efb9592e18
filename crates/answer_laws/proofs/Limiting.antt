-- Notes and the numbers of turns fit the program's words.
use Rattle.std.proofs.Common.{ℕ, ◌≡◌, ◌≢◌, ◌*◌, ◌^◌, ◌<◌, ◌≤◌, Bool, true, false, List, [], ◌∷◌, length, map, get_or, sum_by, ℤ, Option, None, Some, Result, Ok, Err, IsTrue, refl, inl, inr, sym, subst, arith}
use Rattle.std.specs.List.{All, AllPairs, Contains, slice_get}
use Rattle.std.proofs.lemmas.List.{length-map}
use Rattle.std.proofs.lemmas.List.Elements.{Contains-get_or, All-contains}
use Rattle.std.proofs.lemmas.Option.{same_Some}
use Rattle.std.proofs.lemmas.List.Sums.{sum_by-cons}
use Rattle.std.proofs.Math.Nat.{mul-le-mul_right, mul-le-mul_left}
use Rattle.nav_types.specs.declared.cells.Cell.{Cell}
use Rattle.nav_types.specs.declared.cells.Chunk.{Chunk}
use Rattle.nav_types.specs.declared.cells.Size.{Size}
use Rattle.nav_types.specs.Cells.{chunk_of, IsInside}
use Rattle.nav_types.specs.Counting.{Counts}
use Rattle.nav_types.specs.Regions.{IsRegionFirst, IsAreaFirst}
use Rattle.nav_types.proofs.Items.{Contains-head, Contains-tail, Contains-cons_cases, Contains-map, Contains-from_slice_get, from_map, AllPairs-map, same_pair}
use Rattle.nav_types.proofs.Regions.{lies_in}
use Rattle.nav_types.proofs.Walking.{Joined-passes}
use Rattle.goal_shapes.specs.declared.goals.Goal.{Goal}
use Rattle.goal_reach.specs.declared.targets.Target.{Target}
use Rattle.goal_reach.specs.Targets.{hit_by}
use Rattle.walks.proofs.Tracing.{chosen_walk}
use Rattle.flow_field.specs.Flows.{IsNearest, HasSummary}
use Rattle.flow_field.proofs.Reading.{IsNearest-unique}
use Rattle.posts.specs.declared.edits.Refusal.{Refusal}
use Rattle.posts.specs.declared.notes.FlowSummary.{FlowSummary}
use Rattle.posts.specs.declared.notes.Note.{Note}
use Rattle.posts.specs.declared.notes.Report.{Report}
use Rattle.posts.specs.declared.notes.Report.TheVariants.{Answers, OpenedNumbers, Flows, Smoothed as SmoothedPaths}
use Rattle.posts.specs.declared.posts.Request.{Request}
use Rattle.posts.specs.declared.posts.PathRequest.{PathRequest}
use Rattle.posts.specs.declared.posts.Request.TheVariants.{Path as AsksPath, Region as AsksRegion}
use Rattle.posts.specs.declared.replies.PathAnswer.{PathAnswer}
use Rattle.posts.specs.declared.replies.Answer.{Answer}
use Rattle.posts.specs.declared.replies.Answer.TheVariants.{Refused, Nowhere, Path as IsPath, Region as IsRegion}
use Rattle.posts.specs.declared.replies.TurnReplies.{TurnReplies}
use Rattle.posts.specs.Maps.{Map}
use Rattle.grid_versions.specs.Passing.{passable_at}
use Rattle.turn_core.specs.Words.{Standing, TellsNumbers}
use Rattle.turn_core.specs.NamedGoals.{class_named, is_on_map, goal_found}
use Rattle.turn_core.specs.Solving.{IsPathFound, IsPathAsked, IsAnswerAt, IsAnswerTo}
use Rattle.turn_core.specs.Notes.{IsTold, IsPathNote, IsNoteBy, IsNote}
use Rattle.answer_laws.specs.WordFits.{PathFits, AnswerFits, NoteFits, NumbersFit}
use Rattle.answer_laws.proofs.Distances.{HasAll}
use Rattle.answer_laws.proofs.Listing.{below, in_below, cells_of, gathered, in_gathered, below_length, gathered_few, counts_few, fewer}
use Rattle.answer_laws.proofs.Tallying.{edges_few, changed_passes}
use Rattle.answer_laws.proofs.Choosing.{found}
use Rattle.answer_laws.proofs.Opening.{opened_few}
use Rattle.answer_laws.proofs.Requests.{has_all}
use Rattle.answer_laws.proofs.Bounding.{few_cells, cost_few, answer_fits}

-- ---- counts

-- no more than one for each class and cell
module _ {B : Type 0} (classes : ℕ) (cells : List Cell) (name : ℕ → Cell → B) where
  by_pair : List B
  by_pair = gathered (λ class. map (name class) cells) (below classes)

  by_pair_few : length by_pair ≤ length cells * classes
  unfolding by_pair
  by_pair_few =
      let row : ℕ → List B = λ class. map (name class) cells in
      let each : (class : ℕ) → length (row class) ≤ length cells = λ class. omega (arith, length-map cells (name class)) in
      subst (λ (n : ℕ). length (gathered row (below classes)) ≤ length cells * n) (below_length classes)
      (gathered_few row (length cells) each (below classes))

  in_by_pair : (class : ℕ) (cell : Cell) → class < classes → Contains cells cell → Contains by_pair (name class cell)
  unfolding by_pair
  in_by_pair class cell less inside =
      in_gathered (λ k. map (name k) cells) (below classes) class (name class cell) (in_below classes class less)
      (Contains-map (name class) cells cell inside)

cells_few : (classes : ℕ) (cells : List Cell) (Kind : ℕ → Cell → Type 0) → ((class : ℕ) (cell : Cell) → Kind class cell → Contains cells cell)
    → (count : ℕ) → Counts (λ (r : ℕ × Cell). (r.0 < classes) × Kind r.0 r.1) count → count ≤ length cells * classes
cells_few classes cells Kind all count counts =
    let pair : ℕ → Cell → ℕ × Cell = λ class cell. (class, cell) in
    let few = counts_few (λ (r : ℕ × Cell). (r.0 < classes) × Kind r.0 r.1) count counts (by_pair classes cells pair)
    (λ r is. in_by_pair classes cells pair r.0 r.1 is.0 (all r.0 r.1 is.1)) in
    omega (arith, few, by_pair_few classes cells pair)

-- ---- the numbers of a turn

product_few : (cells classes : ℕ) → cells ≤ 4194304 → classes ≤ 16 → cells * classes ≤ 67108864
product_few cells classes few most = let product = mul-le-mul_left cells most in omega (arith, product, few)

square_few : (cells pairs : ℕ) → cells ≤ 4194304 → pairs ≤ 67108864 → pairs * cells ≤ 281474976710656
square_few cells pairs few most = let product = mul-le-mul_right cells most in omega (arith, product, few)

pub numbers_fit : (m : Map) (before now : Standing) (told : TurnReplies) → length m.classes ≤ 16 → TellsNumbers m before now told → NumbersFit told
unfolding TellsNumbers
numbers_fit m before now told most tells =
    let classes : ℕ = length m.classes in
    let cells : List Cell = cells_of m.size in
    let whole = has_all m now in
    let pairs = product_few (length cells) classes (few_cells m.size) most in
    let regions = cells_few classes cells (λ class cell. IsRegionFirst (passable_at m now class) cell)
    (λ class cell first. whole class cell (lies_in (passable_at m now class) (chunk_of cell) cell first.passable).passable)
    told.tallies.regions tells.0.region_count in
    let areas = cells_few classes cells (λ class cell. IsAreaFirst (passable_at m now class) cell)
    (λ class cell first. whole class cell first.passable) told.tallies.areas tells.0.area_count in
    let edges = edges_few classes cells (passable_at m now) whole told.tallies.edges tells.0.edge_count in
    let name : ℕ → Cell → ℕ × Chunk = λ class cell. (class, chunk_of cell) in
    let changed = counts_few (λ (p : ℕ × Chunk). (p.0 < classes) × ((cell : Cell) × ((chunk_of cell ≡ p.1)
    × (passable_at m before p.0 cell ≢ passable_at m now p.0 cell)))) told.relabelled tells.1 (by_pair classes cells name)
    (λ p is.
    let cell = is.1.0 in
    let inside : Contains cells cell = elim (changed_passes (passable_at m before p.0 cell) (passable_at m now p.0 cell) is.1.1.1) [
      | inl open_before ↦ has_all m before p.0 cell open_before
      | inr open_now ↦ has_all m now p.0 cell open_now
    ] in
    subst (Contains (by_pair classes cells name)) (same_pair (name p.0 cell) p refl is.1.1.0)
    (in_by_pair classes cells name p.0 cell is.0 inside)) in
    record {
      regions = omega (arith, regions, pairs);
      edges = omega (arith, edges, square_few (length cells) (length cells * classes) (few_cells m.size) pairs);
      areas = omega (arith, areas, pairs);
      relabelled = omega (arith, changed, by_pair_few classes cells name, pairs);
    }

-- ---- fields

sum_few : (fars : List (Cell × ℕ)) (most : ℕ) → ((far : Cell × ℕ) → Contains fars far → far.1 ≤ most)
    → sum_by (λ (far : Cell × ℕ). far.1) fars ≤ most * length fars
sum_few [] most each = omega arith
sum_few (far ∷ fars) most each = omega (
  arith,
  sum_by-cons (λ (f : Cell × ℕ). f.1) far fars,
  each far (Contains-head far fars),
  sum_few fars most (λ other inside. each other (Contains-tail far fars other inside)),
)

module _ (passes hit : Cell → Bool) (cells : List Cell) (whole : HasAll passes cells) where
  nearest_few : (cell : Cell) → IsTrue (passes cell) → (cost : ℕ) → IsNearest passes hit cell cost → cost ≤ 92682 * length cells
  nearest_few cell passing cost near = elim (found passes cells whole cell passing hit) [
    | inl made ↦
        let walk = made.answer.walk in
        let low = near.least made.end walk.0 made.answer.is_hit (chosen_walk passes cell made.end walk.0 walk.1.0) in
        omega (arith, low, walk.1.1.0, cost_few passes cells whole cell hit made.end made.cost made.points made.answer)
    | inr none ↦ (let way = near.walk.1 in absurd (none (way.target, (way.is_hit, (near.walk.0, way.walk)))))
  ]

  summary_few : (start : Cell) → IsTrue (passes start) → (summary : FlowSummary) → HasSummary passes hit start summary
      → (summary.cells ≤ length cells) × ((summary.farthest ≤ 92682 * length cells) × (summary.sum ≤ (92682 * length cells) * length cells))
  summary_few start passing summary has =
      let fars : List (Cell × ℕ) = has.fars in
      let cell_of_far : Cell × ℕ → Cell = λ far. far.0 in
      let inside : (far : Cell × ℕ) → Contains fars far → Contains cells far.0 =
      λ far within. whole far.0 (Joined-passes passes start far.0 passing (has.lists.each far within).0) in
      let cheap : (far : Cell × ℕ) → Contains fars far → far.1 ≤ 92682 * length cells =
      λ far within.
      let is = has.lists.each far within in
      nearest_few far.0 (Joined-passes passes start far.0 passing is.0) far.1 is.1 in
      let apart : AllPairs (λ a b. a ≢ b) (map cell_of_far fars) =
      AllPairs-map (λ a b. a ≢ b) (λ a b. a ≢ b) cell_of_far fars has.lists.once
      (λ a b in_a in_b differ same.
      let one = has.lists.each a in_a in
      let two = has.lists.each b in_b in
      let moved : IsNearest passes hit a.0 b.1 = subst (λ (c : Cell). IsNearest passes hit c b.1) (sym same) two.1 in
      differ (same_pair a b same (IsNearest-unique passes hit a.0 a.1 b.1 one.1 moved))) in
      let short = fewer (map cell_of_far fars) cells apart
      (λ c within.
      let from = from_map cell_of_far fars c within in
      subst (Contains cells) from.1.1 (inside from.0 from.1.0)) in
      let few : length fars ≤ length cells = omega (arith, short, length-map fars cell_of_far) in
      let most = from_map (λ (far : Cell × ℕ). far.1) fars summary.farthest has.reached in (
        omega (arith, has.cells, few),
        (
          omega (arith, most.1.1, cheap most.0 most.1.0),
          omega (arith, has.sum, sum_few fars (92682 * length cells) cheap, mul-le-mul_left (92682 * length cells) few),
        ),
      )

-- ---- notes

costs_few : (cells cost sum : ℕ) → cells ≤ 4194304 → cost ≤ 92682 * cells → sum ≤ (92682 * cells) * cells
    → (cells < 2 ^ 64) × ((cost < 2 ^ 64) × (sum < 2 ^ 64))
costs_few cells cost sum few cheap total =
    let product = mul-le-mul_right cells few in
    (omega (arith, few), (omega (arith, few, cheap), omega (arith, few, total, product)))

flow_fits : (cells count farthest sum : ℕ) → cells ≤ 4194304 → count ≤ cells → farthest ≤ 92682 * cells → sum ≤ (92682 * cells) * cells
    → (count < 2 ^ 64) × ((farthest < 2 ^ 64) × (sum < 2 ^ 64))
flow_fits cells count farthest sum few less cheap total =
    let all = costs_few cells farthest sum few cheap total in (omega (arith, less, all.0), all.1)

-- a smoothed point is the start or one of the corners
point_kept : (places points : List Cell) (kept : List ℕ) → map (λ place. slice_get places place) kept ≡ map (λ (point : Cell). Some point) points
    → (point : Cell) → Contains points point → Contains places point
point_kept places points kept placed point inside =
    let some : Cell → Option Cell = λ c. Some c in
    let among : Contains (map (λ place. slice_get places place) kept) (Some point) =
    subst (λ (list : List (Option Cell)). Contains list (Some point)) (sym placed) (Contains-map some points point inside) in
    let from = from_map (λ place. slice_get places place) kept (Some point) among in
    Contains-from_slice_get places from.0 point from.1.1

-- a named class is the one by which the request was answered
start_passes : (named : Option ℕ) (on_map : Bool) (passes : ℕ → Cell → Bool) (x z : ℤ) (goal : Result Goal Refusal) (path : PathAnswer) (class : ℕ)
    → named ≡ Some class → IsAnswerAt named on_map (λ k. IsPathFound (passes k) x z goal) (IsPath path) → IsTrue (passes class path.start)
start_passes None on_map passes x z goal path class known is = absurd cc
start_passes (Some k) false passes x z goal path class known is = absurd cc
start_passes (Some k) true passes x z (Err refusal) path class known is = absurd cc
start_passes (Some k) true passes x z (Ok goal) path class known (inl nowhere) = let e = nowhere.1 in absurd cc
start_passes (Some k) true passes x z (Ok goal) path class known (inr found) =
    let is = found.1.0 in
    let same : path ≡ found.0 = cc in
    let one = same_Some k class known in
    let own = found.1.1.start_cell.passable in
    subst (λ (n : ℕ). IsTrue (passes n path.start)) one (subst (λ (p : PathAnswer). IsTrue (passes k p.start)) (sym same) own)

told_fits : (report : Report) (passes : Cell → Bool) (size : Size) → HasAll passes (cells_of size) → (target : Target) (path : PathAnswer) (note : Note)
    → IsTrue (passes path.start) → PathFits size path → IsTold report passes size target path note → NoteFits size note
told_fits Answers passes size whole target path note passing fits told = subst (NoteFits size) (sym told) tt
told_fits OpenedNumbers passes size whole target path note passing fits told =
    let number = told.1.1 in
    let few = opened_few passes (cells_of size) whole (hit_by target) path.start passing number.box path.cost.0 told.0 number.counted in
    let low : told.0 < 2 ^ 64 = omega (arith, few, few_cells size) in
    subst (NoteFits size) (sym told.1.0) low
told_fits Flows passes size whole target path note passing fits told =
    let line = told.0 in
    let few = summary_few passes (hit_by target) (cells_of size) whole path.start passing line.summary told.1.1.summary in
    subst (NoteFits size) (sym told.1.0)
    (flow_fits (length (cells_of size)) line.summary.cells line.summary.farthest line.summary.sum (few_cells size) few.0 few.1.0 few.1.1)
told_fits SmoothedPaths passes size whole target path note passing fits told =
    let points : List Cell = told.0 in
    let smoothing = told.1.1 in
    let inside : (point : Cell) → Contains (path.start ∷ path.waypoints) point → IsInside size point =
    λ point within. elim (Contains-cons_cases path.start path.waypoints point within) [
      | inl same ↦ subst (IsInside size) same fits.start
      | inr later ↦ All-contains (IsInside size) path.waypoints point fits.points later
    ] in
    let all : All (IsInside size) points = λ k d low.
    inside (get_or points k d)
    (point_kept (path.start ∷ path.waypoints) points smoothing.kept smoothing.placed (get_or points k d) (Contains-get_or points k d low)) in
    subst (NoteFits size) (sym told.1.0) all

path_note_fits : (m : Map) (standing : Standing) (report : Report) (request : PathRequest) (answer : Answer) (note : Note)
    → AnswerFits m.size answer → IsPathAsked m standing request answer → IsNoteBy (IsPathNote m standing report request) answer note → NoteFits m.size note
path_note_fits m standing report request (Refused refusal) note fits is by = subst (NoteFits m.size) (sym by) tt
path_note_fits m standing report request Nowhere note fits is by = subst (NoteFits m.size) (sym by) tt
path_note_fits m standing report request (IsRegion region) note fits is by = subst (NoteFits m.size) (sym by) tt
path_note_fits m standing report request (IsPath path) note fits is by =
    let passing = start_passes (class_named m request.class) (is_on_map m.size request.x request.z) (passable_at m standing) request.x request.z
    (goal_found m standing request.goal) path by.class by.named is in
    told_fits report (passable_at m standing by.class) m.size (has_all m standing by.class) by.noted.target path note passing fits by.noted.told

pub note_fits : (m : Map) (standing : Standing) (report : Report) (request : Request) (note : Note) → IsNote m standing report request note
    → NoteFits m.size note
unfolding IsNote IsAnswerTo
note_fits m standing report (AsksPath request) note is =
    path_note_fits m standing report request is.0 note (answer_fits m standing (AsksPath request) is.0 is.1.0) is.1.0 is.1.1
note_fits m standing report (AsksRegion query) note is = subst (NoteFits m.size) (sym is.1.1) tt
