-- Each request has an answer.
use Rattle.std.proofs.Common.{ℕ, ◌≡◌, ◌/◌, ◌⊎◌, ◌==◌, Bool, true, false, List, [], ℤ, pos, negsuc, Option, None, Some, Result, Ok, Err, IsTrue, refl, inl, inr, arith, eq-eqb}
use Rattle.std.specs.Ordering.{int_eq}
use Rattle.std.proofs.lemmas.Bool.{and_parts, and_from, false_from_ne_true}
use Rattle.std.proofs.lemmas.Bool.Decides.{Decides-int_eq}
use Rattle.std.proofs.lemmas.Int.{ints}
use Rattle.nav_types.specs.declared.cells.Cell.{Cell}
use Rattle.nav_types.specs.declared.cells.Size.{Size}
use Rattle.nav_types.specs.Cells.{cell_at, chunk_of}
use Rattle.nav_types.specs.Walks.{Joined, CanReach}
use Rattle.nav_types.proofs.Walking.{Joined-passes}
use Rattle.fixed_point.specs.Raw.{floor_of}
use Rattle.fixed_point.specs.Plane.{IsOnAxis}
use Rattle.goal_shapes.specs.declared.goals.Goal.{Goal}
use Rattle.goal_shapes.specs.Goals.{HoldsPoint, holds_point, squared_distance, contains, remoteness}
use Rattle.goal_shapes.proofs.Middles.{is_held}
use Rattle.goal_reach.specs.declared.targets.Target.{Target}
use Rattle.goal_reach.specs.declared.targets.Target.TheVariants.{Goal as GoalTarget, Near}
use Rattle.goal_reach.specs.Starts.{IsStartCell}
use Rattle.goal_reach.specs.Targets.{is_cell, hit_by, AreTargets}
use Rattle.posts.specs.declared.edits.Refusal.{Refusal}
use Rattle.posts.specs.declared.edits.Refusal.TheVariants.{UnknownClass, StartOutside}
use Rattle.posts.specs.declared.posts.Request.{Request}
use Rattle.posts.specs.declared.posts.RegionQuery.{RegionQuery}
use Rattle.posts.specs.declared.posts.Request.TheVariants.{Path as AsksPath, Region as AsksRegion}
use Rattle.posts.specs.declared.replies.PathAnswer.{PathAnswer}
use Rattle.posts.specs.declared.replies.RegionAnswer.{RegionAnswer}
use Rattle.posts.specs.declared.replies.Answer.{Answer}
use Rattle.posts.specs.declared.replies.Answer.TheVariants.{Refused, Nowhere, Path as IsPath, Region as IsRegion}
use Rattle.posts.specs.Maps.{Map}
use Rattle.grid_versions.specs.Passing.{passable_at}
use Rattle.grid_versions.specs.inner.PassingLaws.{passes_within}
use Rattle.grid_versions.specs.Versions.{map_state}
use Rattle.turn_core.specs.Words.{Standing}
use Rattle.turn_core.specs.NamedGoals.{class_named, is_on_map, goal_found}
use Rattle.turn_core.specs.Solving.{IsImpassable, is_near, IsPathAnswer, IsPathTo, IsPathFound, IsRegionAt, IsRegionAsked, IsAnswerAt, IsAnswerTo}
use Rattle.turn_core.proofs.FoundGoals.{on_map_decides}
use Rattle.answer_laws.proofs.Deciding.{Decided, decided_test, decided_both, decided_as, some_in}
use Rattle.answer_laws.proofs.Listing.{cells_of, in_cells_of}
use Rattle.answer_laws.proofs.Distances.{HasAll, decided_joined}
use Rattle.answer_laws.proofs.Choosing.{least_by, found, decided_reach}
use Rattle.answer_laws.proofs.Numbers.{region_of, area_of}

-- ---- starts

decided_holds : (x z : ℤ) (cell : Cell) → Decided (HoldsPoint x z cell)
decided_holds x z cell = decided_as {P = IsTrue (holds_point x z cell)}
    (λ held. let parts = and_parts (int_eq (floor_of x) (pos cell.i)) (int_eq (floor_of z) (pos cell.j)) held in
    record {
      column = (Decides-int_eq (floor_of x) (pos cell.i)).0 parts.0;
      row = (Decides-int_eq (floor_of z) (pos cell.j)).0 parts.1;
    })
    (is_held x z cell) (decided_test (holds_point x z cell))

-- a point of an axis of the map lies in a column
axis_holder : (count : ℕ) (x : ℤ) → IsOnAxis count x → (i : ℕ) × (floor_of x ≡ pos i)
axis_holder count (pos n) on = (n / 65536, refl)
axis_holder count (negsuc n) on = absurd (omega (arith, ints))

point_holder : (size : Size) (x z : ℤ) → IsTrue (is_on_map size x z) → (cell : Cell) × HoldsPoint x z cell
point_holder size x z on =
    let axes = (on_map_decides size x z).0 on in
    let column = axis_holder size.w x axes.0 in
    let row = axis_holder size.h z axes.1 in
    (cell_at column.0 row.0, record { column = column.1; row = row.1 })

module _ (passes : Cell → Bool) (cells : List Cell) (whole : HasAll passes cells) where
  pub start_cell : (x z : ℤ) → IsImpassable passes ⊎ ((cell : Cell) × IsStartCell passes x z cell)
  start_cell x z = elim (some_in (λ cell. HoldsPoint x z cell × IsTrue (passes cell))
      (λ cell. decided_both (decided_holds x z cell) (decided_test (passes cell))) cells) [
        | inl held ↦ inr (held.0, record { passable = held.1.1.1; nearest = inl held.1.1.0 })
        | inr none ↦ elim (least_by (squared_distance x z) (λ cell. IsTrue (passes cell)) (λ cell. decided_test (passes cell)) cells whole) [
          | inl best ↦ inr (
            best.0,
            record {
              passable = best.1.within;
              nearest = inr (
                λ holder holds. false_from_ne_true (passes holder) (λ passing. none holder (whole holder passing) (holds, passing)),
                best.1,
              );
            },
          )
          | inr nowhere ↦ inl (λ cell. false_from_ne_true (passes cell) (nowhere cell))
        ]
      ]

  -- ---- targets and paths

  own_cell : (cell : Cell) → IsTrue (is_cell cell cell)
  own_cell cell = and_from (cell.i == cell.i) (cell.j == cell.j) (eq-eqb cell.i cell.i refl) (eq-eqb cell.j cell.j refl)

  pub targets : (start : Cell) → IsTrue (passes start) → (goal : Goal)
      → (target : Target) × (AreTargets passes start goal target × CanReach passes start (hit_by target))
  targets start passing goal = elim (decided_reach passes cells whole start passing (contains goal)) [
    | inl reach ↦ (GoalTarget goal, ((refl, reach), reach))
    | inr no_reach ↦ elim (least_by (remoteness goal) (Joined passes start) (decided_joined passes cells whole start) cells
        (λ cell joined. whole cell (Joined-passes passes start cell passing joined))) [
          | inl best ↦ (
            Near best.0,
            (
              (no_reach, best.1),
              (best.0, (own_cell best.0, best.1.within)),
            ),
          )
          | inr none ↦ absurd (none start ([], refl))
        ]
  ]

  pub path_from : (x z : ℤ) (goal : Goal) (start : Cell) → IsStartCell passes x z start
      → (path : PathAnswer) × IsPathAnswer passes x z goal path
  path_from x z goal start is =
      let aim = targets start is.passable goal in
      elim (found passes cells whole start is.passable (hit_by aim.0)) [
        | inl made ↦ (
          record { start = start; end = made.end; near = is_near aim.0; cost = record { 0 = made.cost }; waypoints = made.points },
          record { start_cell = is; target = aim.0; targets = aim.1.0; nearness = refl; walk = made.answer },
        )
        | inr none ↦ absurd (none aim.1.1)
      ]

  path_to : (x z : ℤ) (goal : Goal) → (answer : Answer) × IsPathTo passes x z goal answer
  path_to x z goal = elim (start_cell x z) [
    | inl nowhere ↦ (Nowhere, inl (nowhere, refl))
    | inr start ↦ let path = path_from x z goal start.0 start.1 in (IsPath path.0, inr (path.0, (refl, path.1)))
  ]

  path_found : (x z : ℤ) (goal : Result Goal Refusal) → (answer : Answer) × IsPathFound passes x z goal answer
  path_found x z (Err refusal) = (Refused refusal, refl)
  path_found x z (Ok goal) = path_to x z goal

  -- ---- regions

  region_at : (x z : ℤ) → (cell : Cell) × HoldsPoint x z cell → (answer : Answer) × IsRegionAt passes x z answer
  region_at x z held =
      let cell = held.0 in
      let region = region_of passes cells whole (chunk_of cell) cell in
      let area = area_of passes cells whole cell in
      let answer : RegionAnswer = record { ci = (chunk_of cell).ci; cj = (chunk_of cell).cj; region = region.0; area = area.0 } in (
        IsRegion answer,
        (
          answer,
          (
            refl,
            record {
              cell = cell;
              holder = held.1;
              chunk_column = refl;
              chunk_row = refl;
              region_number = region.1;
              area_number = area.1;
            },
          ),
        ),
      )

-- ---- requests

answer_at : (named : Option ℕ) (on_map : Bool) (Answers : ℕ → Answer → Type 0)
    → (on_map ≡ true → (class : ℕ) → (answer : Answer) × Answers class answer)
    → (answer : Answer) × IsAnswerAt named on_map Answers answer
answer_at None on_map Answers has = (Refused UnknownClass, refl)
answer_at (Some class) false Answers has = (Refused StartOutside, refl)
answer_at (Some class) true Answers has = has refl class

-- the cells of the map are all that pass
pub has_all : (m : Map) (standing : Standing) (class : ℕ) → HasAll (passable_at m standing class) (cells_of m.size)
has_all m standing class cell passing = in_cells_of m.size cell (passes_within (map_state m standing) class cell passing)

-- the answer to a region query
pub region_answer : (m : Map) (standing : Standing) (query : RegionQuery) → (answer : Answer) × IsRegionAsked m standing query answer
region_answer m standing query =
    let x = query.x in let z = query.z in
    answer_at (class_named m query.class) (is_on_map m.size x z) (λ class. IsRegionAt (passable_at m standing class) x z)
    (λ on class. region_at (passable_at m standing class) (cells_of m.size) (has_all m standing class) x z (point_holder m.size x z on))

pub answer_to : (m : Map) (standing : Standing) (request : Request) → (answer : Answer) × IsAnswerTo m standing request answer
unfolding IsAnswerTo
answer_to m standing (AsksPath request) =
    let x = request.x in let z = request.z in let goal = goal_found m standing request.goal in
    answer_at (class_named m request.class) (is_on_map m.size x z)
    (λ class. IsPathFound (passable_at m standing class) x z goal)
    (λ on class. path_found (passable_at m standing class) (cells_of m.size) (has_all m standing class) x z goal)
answer_to m standing (AsksRegion query) = region_answer m standing query
