-- What a search that has ended or was halted says of the answer and of the opened number.
use Rattle.std.proofs.Common.{ℕ, suc, ◌≡◌, ◌+◌, ◌≤◌, ◌⊎◌, Bool, true, IsTrue, List, Option, Some, None}
use Rattle.std.proofs.Common.{[], ◌∷◌, inl, inr, refl, sym, subst, arith, Result, Ok, Err, IfOk}
use Rattle.std.specs.Prelude.{slice_get}
use Rattle.std.proofs.lemmas.List.Sums.{sum_by-cons}
use Rattle.nav_types.specs.declared.cells.Cell.{Cell}
use Rattle.nav_types.specs.declared.cells.Rect.{Rect}
use Rattle.nav_types.specs.declared.cells.Size.{Size}
use Rattle.nav_types.specs.declared.directions.Dir.{Dir}
use Rattle.nav_types.specs.Cells.{IsInside, IsNotAfter}
use Rattle.nav_types.specs.Directions.{step_cost}
use Rattle.nav_types.specs.Counting.{Counts}
use Rattle.nav_types.specs.Walks.{IsWalk, walk_cost, CanReach}
use Rattle.nav_types.proofs.Walking.{step_cost_some}
use Rattle.walks.specs.Chosen.{IsChosen, IsAnswer}
use Rattle.walks.specs.Waypoints.{waypoints}
use Rattle.walks.proofs.Tracing.{chosen_walk, chosen_cost, in_grid}
use Rattle.jump_search.specs.declared.nodes.Node.{Node}
use Rattle.jump_search.specs.declared.searching.Best.{Best}
use Rattle.jump_search.specs.Estimates.{IsConsistent, IsEstimate}
use Rattle.jump_search.specs.JumpStates.{CanSearch, IsOpened, IsWithinOpened, octile_to}
use Rattle.jump_search.specs.inner.Searched.{AreMet, IsSearched}
use Rattle.jump_search.specs.inner.Underway.{opened_count, IsHalted, IsExhausted, HasEnded}
use Rattle.jump_search.specs.inner.Traced.{IsTraceable}
use Rattle.jump_search.proofs.Ending.{none_nearer, some_hit, nearest_end, first_end, end_distance}
use Rattle.jump_search.proofs.Opening.{opened_number, few_opened}
use Rattle.jump_search.proofs.Taking.{node_free}

pub traceable : (all : Bool) (passes hit : Cell → Bool) (start : Cell) (size : Size) (ahead : Cell → ℕ) (end : Cell)
    (bound : ℕ) (nodes : List Node)
    → ((cell : Cell) → IsTrue (passes cell) → IsInside size cell) → IsTrue (passes start) → IsConsistent passes hit ahead
    → IsSearched all passes hit start ahead end bound nodes → IsTraceable all passes hit start ahead end bound nodes
traceable all passes hit start size ahead end bound nodes within passing consistent searched =
    record {
      searched = searched;
      passing = passing;
      consistent = consistent;
      grid =
          λ cell passes_there. in_grid size cell (within cell passes_there);
    }

-- a search with a hit cell to reach doesn't end without one
pub not_exhausted : (all : Bool) (passes hit : Cell → Bool) (start : Cell) (ahead : Cell → ℕ) (nodes : List Node)
    → IsTrue (passes start)
    → IsConsistent passes hit ahead → CanReach passes start hit → IsExhausted all passes hit start nodes → ⊥
not_exhausted all passes hit start ahead nodes passing consistent reach ended =
    some_hit all passes hit start ahead nodes
    (λ bound least. record {
      consistent = consistent;
      met = ended.met;
      followed = ended.followed;
      least = least;
      beyond =
          λ place node known waits. inr (ended.beyond place node known waits);
    })
    passing consistent reach ended.missed

-- a walk that costs nothing ends where it starts
ends_at_start : (passes : Cell → Bool) (dirs : List Dir) (from to : Cell) → IsWalk passes from dirs to
    → walk_cost dirs ≡ 0 → from ≡ to
ends_at_start passes [] from to walk none = walk
ends_at_start passes (dir ∷ dirs) from to walk none =
    absurd (omega (arith, none, sum_by-cons step_cost dir dirs, step_cost_some dir))

-- a start that is hit is the answer, for nothing
pub answer_at_start : (passes hit : Cell → Bool) (start : Cell) → IsTrue (hit start) → (points : List Cell)
    → points ≡ [] → IsAnswer passes start hit start 0 points
answer_at_start passes hit start is_hit points none = record {
  is_hit = is_hit;
  walk = ([], (refl, (refl, none)));
  nearest = λ target dirs hits walk. omega arith;
  first = λ target hits distance.
      let same = ends_at_start passes distance.walk.0 start target distance.walk.1.0 distance.walk.1.1 in
      subst (λ (c : Cell). IsNotAfter start c) same (inr (refl, omega arith));
}

pub answer_of : (all : Bool) (passes hit : Cell → Bool) (start : Cell) (ahead : Cell → ℕ) (end : Cell) (bound : ℕ)
    (nodes : List Node)
    → IsTraceable all passes hit start ahead end bound nodes → (dirs : List Dir) → IsChosen passes start dirs end
    → (points : List Cell)
    → points ≡ waypoints start dirs → IsAnswer passes start hit end bound points
answer_of all passes hit start ahead end bound nodes able dirs chosen points is =
    let searched = able.searched in
    let passing = able.passing in
    let consistent = able.consistent in
    let distance = end_distance all passes hit start ahead end bound nodes searched passing consistent in
    record {
      is_hit = searched.ends.1.1.1.1.1.1;
      walk = (dirs, (chosen, (chosen_cost passes start end dirs bound chosen distance, is)));
      nearest = nearest_end all passes hit start ahead end bound nodes searched passing consistent;
      first = first_end all passes hit start ahead end bound nodes searched passing consistent;
    }

-- where the estimate is the octile distance to a rectangle, the opened number by it is how many nodes are opened
pub counts_of : (all : Bool) (passes hit : Cell → Bool) (start : Cell) (ahead : Cell → ℕ) (rect : Rect) (end : Cell)
    (bound : ℕ) (nodes : List Node)
    → IsTraceable all passes hit start ahead end bound nodes → IsTrue all → ahead ≡ octile_to rect
    → (opened : ℕ) → opened ≡ opened_count nodes → Counts (IsOpened passes hit start rect bound) opened
counts_of all passes hit start ahead rect end bound nodes able is same opened count =
    let octile = subst (λ (f : Cell → ℕ). IsTraceable true passes hit start f end bound nodes) same
    (subst (λ (a : Bool). IsTraceable a passes hit start ahead end bound nodes) is able) in
    subst (λ (n : ℕ). Counts (IsOpened passes hit start rect bound) n) (sym count)
    (opened_number passes hit start rect end bound nodes octile.passing octile.consistent octile.searched)

-- what a search opens is no more than the opened number

-- estimates don't come past the cost of an answer
pub halted_below : (all : Bool) (passes hit : Cell → Bool) (start : Cell) (ahead : Cell → ℕ) (floor : ℕ) (nodes : List Node)
    → IsHalted all passes hit start ahead floor nodes → IsTrue (passes start) → IsConsistent passes hit ahead
    → (target : Cell) (dirs : List Dir) → IsTrue (hit target) → IsWalk passes start dirs target → floor ≤ walk_cost dirs
halted_below all passes hit start ahead floor nodes halted passing consistent target dirs is_hit walk =
    none_nearer all passes hit start ahead floor nodes passing consistent
    (λ bound less least. record {
      consistent = consistent;
      met = halted.met;
      followed = halted.followed;
      least = least;
      beyond = λ place node known waits. elim (halted.beyond place node known waits) [
        | inl far ↦ inl (omega (arith, less, far))
        | inr dearer ↦ inr dearer
      ];
    })
    halted.passed (suc (walk_cost dirs)) target dirs (omega arith) is_hit walk

-- the estimate is nowhere below the octile distance to the rectangle
abbrev IsAbove : (Cell → Bool) → Rect → (Cell → ℕ) → Type 0
IsAbove passes rect ahead = (cell : Cell) → IsTrue (passes cell) → octile_to rect cell ≤ ahead cell

-- so nodes that are opened within a bound by the estimate are so by the octile distance
pub few_within : (passes hit : Cell → Bool) (start : Cell) (ahead : Cell → ℕ) (rect : Rect) (bound most : ℕ)
    (nodes : List Node)
    → IsTrue (passes start) → IsAbove passes rect ahead → AreMet passes hit start nodes
    → ((place : ℕ) (node : Node) → slice_get nodes place ≡ Some node → IsTrue node.opened
    → node.cost + ahead node.state.cell ≤ bound) → bound ≤ most
    → (n : ℕ) → Counts (IsOpened passes hit start rect most) n → opened_count nodes ≤ n
few_within passes hit start ahead rect bound most nodes passing above met within below n counts =
    few_opened passes hit start rect most nodes met
    (λ place node known opened.
    (let near = within place node known opened in
    let least = above node.state.cell (node_free passes hit start nodes place node passing met known) in
    omega (arith, near, least, below)))
    n counts

halted_most : (all : Bool) (passes hit : Cell → Bool) (start : Cell) (ahead : Cell → ℕ) (rect : Rect) (floor : ℕ)
    (nodes : List Node)
    → IsHalted all passes hit start ahead floor nodes → IsTrue (passes start) → IsConsistent passes hit ahead
    → IsAbove passes rect ahead
    → (end : Cell) (cost : ℕ) (points : List Cell) → IsAnswer passes start hit end cost points → (n : ℕ)
    → Counts (IsOpened passes hit start rect cost) n → opened_count nodes ≤ n
halted_most all passes hit start ahead rect floor nodes halted passing consistent above end cost points answer n counts =
    let walk = answer.walk in
    let sums = walk.1.1.0 in
    let below = halted_below all passes hit start ahead floor nodes halted passing consistent end walk.0 answer.is_hit
    (chosen_walk passes start end walk.0 walk.1.0) in
    few_within passes hit start ahead rect floor cost nodes passing above halted.met halted.within
    (omega (arith, below, sums)) n counts

ended_most : (all : Bool) (passes hit : Cell → Bool) (start : Cell) (ahead : Cell → ℕ) (rect : Rect) (last : Cell)
    (bound : ℕ) (nodes : List Node)
    → IsTraceable all passes hit start ahead last bound nodes → IsAbove passes rect ahead
    → (end : Cell) (cost : ℕ) (points : List Cell) → IsAnswer passes start hit end cost points → (n : ℕ)
    → Counts (IsOpened passes hit start rect cost) n → opened_count nodes ≤ n
ended_most all passes hit start ahead rect last bound nodes able above end cost points answer n counts =
    let walk = answer.walk in
    let sums = walk.1.1.0 in
    let below = nearest_end all passes hit start ahead last bound nodes able.searched able.passing able.consistent end
    walk.0 answer.is_hit (chosen_walk passes start end walk.0 walk.1.0) in
    few_within passes hit start ahead rect bound cost nodes able.passing above able.searched.met able.searched.within
    (omega (arith, below, sums)) n counts

-- a search that has ended with a best hit can be traced back
pub ended_able : (all : Bool) (passes hit : Cell → Bool) (start : Cell) (size : Size) (ahead : Cell → ℕ)
    (nodes : List Node) (best : Option Best) (at : Best)
    → ((cell : Cell) → IsTrue (passes cell) → IsInside size cell) → IsTrue (passes start)
    → IsConsistent passes hit ahead → HasEnded all passes hit start ahead nodes best → best ≡ Some at
    → IsTraceable all passes hit start ahead at.cell at.cost nodes
ended_able all passes hit start size ahead nodes best at within passing consistent ended is =
    traceable all passes hit start size ahead at.cell at.cost nodes within passing consistent
    (subst (λ (o : Option Best). HasEnded all passes hit start ahead nodes o) is ended)

pub ended_some : (all : Bool) (passes hit : Cell → Bool) (start : Cell) (ahead : Cell → ℕ) (nodes : List Node)
    (best : Option Best)
    → IsTrue (passes start) → IsConsistent passes hit ahead → CanReach passes start hit
    → HasEnded all passes hit start ahead nodes best → best ≡ None → ⊥
ended_some all passes hit start ahead nodes best passing consistent reach ended is =
    not_exhausted all passes hit start ahead nodes passing consistent reach
    (subst (λ (o : Option Best). HasEnded all passes hit start ahead nodes o) is ended)

-- the ticks of a search that was halted
pub halted_ticks : (all : Bool) (passes hit framed : Cell → Bool) (start : Cell) (size : Size) (ahead : Cell → ℕ)
    (before after : ℕ)
    → IsTrue (passes start) → IsEstimate passes hit framed size ahead
    → (after ≡ before) ⊎ ((nodes : List Node)
    × ((floor : ℕ) × (IsHalted all passes hit start ahead floor nodes × (after ≡ before + opened_count nodes))))
    → IsWithinOpened passes hit framed size start before after
halted_ticks all passes hit framed start size ahead before after passing estimate (inl none) end cost points rect n
    answer frame counts = omega (arith, none)
halted_ticks all passes hit framed start size ahead before after passing estimate (inr some) end cost points rect n
    answer frame counts =
    let ticks = some.1.1.1 in
    omega (
      arith,
      ticks,
      halted_most all passes hit start ahead rect some.1.0 some.0 some.1.1.0 passing estimate.consistent
          (estimate.octile rect frame) end cost points answer n counts,
    )

-- the ticks of a search that has ended
pub ended_ticks : (all : Bool) (passes hit framed : Cell → Bool) (start : Cell) (size : Size) (ahead : Cell → ℕ)
    (last : Cell) (bound : ℕ) (nodes : List Node) (before after opened : ℕ)
    → IsEstimate passes hit framed size ahead → IsTraceable all passes hit start ahead last bound nodes
    → opened ≡ opened_count nodes → after ≡ before + opened
    → IsWithinOpened passes hit framed size start before after
ended_ticks all passes hit framed start size ahead last bound nodes before after opened estimate able count ticks end
    cost points rect n answer frame counts =
    omega (
      arith,
      count,
      ticks,
      ended_most all passes hit start ahead rect last bound nodes able (estimate.octile rect frame) end cost points
          answer n counts,
    )

-- What is known of a search that can be made: only cells of the map pass, those that are looked for lie in the frame, and
-- from the start, which passes, one of them can be reached.
pub record Begins (passes hit framed : Cell → Bool) (start : Cell) (size : Size) : Type 0 where
  pub within : (cell : Cell) → IsTrue (passes cell) → IsInside size cell
  pub hits_framed : (cell : Cell) → IsInside size cell → IsTrue (hit cell) → IsTrue (framed cell)
  pub free : IsTrue (passes start)
  pub reach : CanReach passes start hit

-- it is known of each view and aim by their laws
pub begins : {V A : Type 0} (extent : V → Size) (passes : V → ℕ → Cell → Bool) (Sound : A → Size → Type 0)
    (hit framed : A → Size → Cell → Bool)
    → ((view : V) (class : ℕ) (cell : Cell) → IsTrue (passes view class cell) → IsInside (extent view) cell)
    → ((aim : A) (size : Size) (cell : Cell) → Sound aim size → IsInside size cell → IsTrue (hit aim size cell)
    → IsTrue (framed aim size cell))
    → (view : V) (class : ℕ) (aim : A) (start : Cell)
    → CanSearch (passes view class) (hit aim (extent view)) (Sound aim (extent view)) start
    → Begins (passes view class) (hit aim (extent view)) (framed aim (extent view)) start (extent view)
begins extent passes Sound hit framed within hits_framed view class aim start can =
    record {
      within = within view class;
      hits_framed = λ cell inside is. hits_framed aim (extent view) cell can.sound inside is;
      free = can.free;
      reach = can.reach;
    }

-- what is told of a result follows from what else is told of it
pub told_over : {T E : Type 0} {P Q : T → Type 0} (result : Result T E) → ((told : T) → P told → Q told)
    → IfOk result P → IfOk result Q
told_over (Ok told) follows is = follows told is
told_over (Err refused) follows is = tt
