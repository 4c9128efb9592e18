-- What a request wants, and what that makes of its answer within a greatest cost.
use Rattle.std.proofs.Common.{◌≡◌, ◌<◌, ℕ, ℤ, Bool, true, false, Option, None, Some, Result, Ok, Err, IfOk, inl, inr, refl, sym, ap, ◌∙◌, subst, arith}
use Rattle.nav_types.specs.declared.cells.Cell.{Cell}
use Rattle.nav_types.specs.declared.sequences.NoMemory.{NoMemory}
use Rattle.goal_shapes.specs.declared.goals.Goal.{Goal}
use Rattle.goal_reach.specs.declared.targets.Target.{Target}
use Rattle.goal_reach.specs.Starts.{IsStartCell}
use Rattle.goal_reach.specs.Targets.{AreTargets, hit_by}
use Rattle.goal_reach.proofs.Targeting.{one_target}
use Rattle.goal_reach.proofs.Starting.{one_start}
use Rattle.walks.specs.Chosen.{IsAnswer}
use Rattle.walks.specs.declared.found_walk.Found.{Found}
use Rattle.walks.proofs.Tracing.{chosen_walk}
use Rattle.jump_search.specs.Within.{IsTooFar}
use Rattle.posts.specs.declared.edits.Refusal.{Refusal}
use Rattle.posts.specs.declared.posts.Request.{Request}
use Rattle.posts.specs.declared.replies.Answer.{Answer}
use Rattle.posts.specs.declared.replies.Answer.TheVariants.{Path as IsPath}
use Rattle.posts.specs.declared.replies.PathAnswer.{PathAnswer}
use Rattle.grid_versions.specs.Versions.{MapState, passes_of}
use Rattle.turn_core.specs.Solving.{is_near, IsPathAnswer, IsPathTo, IsPathFound, IsRegionAt, IsAnswerAt, IsAnswerTo}
use Rattle.turn_core.specs.Within.{IsFarther, IsAnswerWithin}
use Rattle.turn_core.specs.declared.near_answers.Walk.{Walk}
use Rattle.turn_core.specs.declared.near_answers.Wanted.{Wanted}
use Rattle.turn_core.specs.inner.Searching.{CanFind, IsFoundTo, path_by}
use Rattle.turn_core.specs.inner.Wanted.{asked_on, IsWalkedWithin, IsWalkFor, IsWanted}

-- ---- walks

-- a path that answers is the one of its walk to the targets
only_path : (state : MapState) (class : ℕ) (x z : ℤ) (start : Cell) (goal : Goal) (target : Target) (path : PathAnswer)
    → IsStartCell (passes_of state class) x z start → AreTargets (passes_of state class) start goal target
    → IsPathAnswer (passes_of state class) x z goal path
    → (found : Found) × ((IsPath path ≡ IsPath (path_by start target found)) × IsFoundTo state class start target found)
only_path state class x z start goal target path starts targets is =
    let passes = passes_of state class in
    let from : path.start ≡ start = one_start passes x z path.start start is.start_cell starts in
    let theirs = subst (λ (c : Cell). AreTargets passes c goal is.target) from is.targets in
    let same : is.target ≡ target = one_target passes start goal is.target target theirs targets in
    let near : path.near ≡ is_near target = is.nearness ∙ ap is_near same in
    let walk = subst (λ (c : Cell). IsAnswer passes c (hit_by is.target) path.end path.cost.0 path.waypoints) from is.walk in (
      record { end = path.end; cost = path.cost; waypoints = path.waypoints },
      (
        λ i. IsPath (record { start = from i; end = path.end; near = near i; cost = path.cost; waypoints = path.waypoints }),
        subst (λ (t : Target). IsAnswer passes start (hit_by t) path.end path.cost.0 path.waypoints) same walk,
      ),
    )

-- the path by the chosen walk from the start cell of a point to the targets of a goal answers, and no other
pub walk_for : (state : MapState) (class : ℕ) (x z : ℤ) (start : Cell) (goal : Goal) (target : Target)
    → CanFind state class start target
    → IsStartCell (passes_of state class) x z start → AreTargets (passes_of state class) start goal target
    → IsWalkFor state (IsPathTo (passes_of state class) x z goal) (record { class = class; start = start; target = target })
walk_for state class x z start goal target can starts targets = record {
  can = can;
  gives = λ found is. inr (
    path_by start target found,
    (refl, record { start_cell = starts; target = target; targets = targets; nearness = refl; walk = is }),
  );
  only = λ answer is. elim is [
    | inl none ↦
        let no : passes_of state class start ≡ false = none.0 start in
        let yes : passes_of state class start ≡ true = can.passes in
        absurd cc
    | inr path ↦
        let one = only_path state class x z start goal target path.0 starts targets path.1.1 in
        (one.0, (path.1.0 ∙ one.1.0, one.1.1))
  ];
}

-- ---- requests

-- what is wanted of a class that the map has at a point that lies on it, for a goal that is found
pub wanted_at : (state : MapState) (x z : ℤ) (named : Option ℕ) (on_map : Bool) (found : Result Goal Refusal) (class : ℕ)
    (goal : Goal) (wanted : Wanted)
    → named ≡ Some class → on_map ≡ true → Ok goal ≡ found → IsWanted state (IsPathTo (passes_of state class) x z goal) wanted
    → IsWanted state (IsAnswerAt named on_map (λ k. IsPathFound (passes_of state k) x z found)) wanted
wanted_at state x z named on_map found class goal wanted has on is told =
    subst (λ (n : Option ℕ). IsWanted state (IsAnswerAt n on_map (λ k. IsPathFound (passes_of state k) x z found)) wanted)
    (sym has)
    (subst (λ (o : Bool). IsWanted state (IsAnswerAt (Some class) o (λ k. IsPathFound (passes_of state k) x z found)) wanted)
    (sym on)
    (subst (λ (f : Result Goal Refusal). IsWanted state (IsPathFound (passes_of state class) x z f) wanted) is told))

-- a refusal answers whatever is asked
pub refused_at : (named : Option ℕ) (on_map : Bool) (Answers : ℕ → Answer → Type 0) (answer : Answer)
    → IsAnswerAt named on_map (λ class other. ⊥) answer → IsAnswerAt named on_map Answers answer
refused_at None on_map Answers answer is = is
refused_at (Some class) false Answers answer is = is
refused_at (Some class) true Answers answer is = absurd is

-- an answer to a region query is no path
pub region_near : (named : Option ℕ) (on_map : Bool) (passes : ℕ → Cell → Bool) (x z : ℤ) (answer : Answer)
    → IsAnswerAt named on_map (λ class. IsRegionAt (passes class) x z) answer → (most : ℕ) → IsFarther most answer → ⊥
region_near None on_map passes x z answer is most far = subst (λ (a : Answer). IsFarther most a) is far
region_near (Some class) false passes x z answer is most far = subst (λ (a : Answer). IsFarther most a) is far
region_near (Some class) true passes x z answer is most far = subst (λ (a : Answer). IsFarther most a) is.1.0 far

-- ---- the answer within a greatest cost

-- a walk to the target that is too far is that of an answer
far_answer : (state : MapState) (class : ℕ) (start : Cell) (target : Target) (most : ℕ) (found : Found)
    → IsTooFar (asked_on state class start target) most → IsFoundTo state class start target found → most < found.cost.0
far_answer state class start target most found far is =
    let walk = is.walk in
    let costs = walk.1.1.0 in
    let more = far found.end walk.0 is.is_hit (chosen_walk (passes_of state class) start found.end walk.0 walk.1.0) in
    omega (arith, costs, more)

-- what is walked within it answers
pub within_walked : (state : MapState) (request : Request) (walk : Walk) (most : ℕ) (result : Result (Option Answer) NoMemory)
    → IsWalkFor state (IsAnswerTo state.map state.standing request) walk → IfOk result (IsWalkedWithin state walk most)
    → IfOk result (IsAnswerWithin state.map state.standing request most)
within_walked state request walk most (Err refused) for walked = tt
within_walked state request walk most (Ok None) for walked = λ answer is.
    let one = for.only answer is in
    subst (λ (a : Answer). IsFarther most a) (sym one.1.0)
    (far_answer state walk.class walk.start walk.target most one.0 walked one.1.1)
within_walked state request walk most (Ok (Some answer)) for walked =
    let found = walked.0 in
    let low = walked.1.1.1 in
    let path = IsPath (path_by walk.start walk.target found) in (
      subst (λ (a : Answer). IsAnswerTo state.map state.standing request a) (sym walked.1.0) (for.gives found walked.1.1.0),
      λ far.
          let more : most < found.cost.0 = subst (λ (a : Answer). IsFarther most a) walked.1.0 far in
          omega (arith, low, more),
    )
