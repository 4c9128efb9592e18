-- The flow field of a path that was answered.
use Rattle.std.proofs.Common.{ℕ, ◌≡◌, Bool, true, false, IsTrue, List, Option, Some, None, Ok, Err, inl, inr, refl, sym, ap, subst}
use Rattle.std.specs.Prelude.{ℤ, Result, IfOk}
use Rattle.nav_types.specs.declared.cells.Cell.{Cell}
use Rattle.goal_shapes.specs.declared.goals.Goal.{Goal}
use Rattle.goal_shapes.specs.declared.goals.GoalSpec.{GoalSpec}
use Rattle.goal_reach.specs.declared.targets.Target.{Target}
use Rattle.goal_reach.specs.Targets.{AreTargets, hit_by}
use Rattle.flow_field.specs.Flows.{FieldCells, IsFieldOf}
use Rattle.posts.specs.declared.edits.Refusal.{Refusal}
use Rattle.posts.specs.declared.posts.Post.{Post}
use Rattle.posts.specs.declared.posts.Post.TheVariants.{Edit as Editing, Ask}
use Rattle.posts.specs.declared.posts.PathRequest.{PathRequest}
use Rattle.posts.specs.declared.posts.RegionQuery.{RegionQuery}
use Rattle.posts.specs.declared.posts.Request.{Request}
use Rattle.posts.specs.declared.posts.Request.TheVariants.{Path as AsksPath, Region as AsksRegion}
use Rattle.posts.specs.declared.replies.Answer.{Answer}
use Rattle.posts.specs.declared.replies.Answer.TheVariants.{Refused, Nowhere, Path as IsPath, Region as IsRegion}
use Rattle.posts.specs.declared.replies.PathAnswer.{PathAnswer}
use Rattle.posts.specs.declared.replies.Reply.TheVariants.{Answer as Answered}
use Rattle.posts.specs.Maps.{Map}
use Rattle.grid_versions.specs.Passing.{passable_at}
use Rattle.grid_versions.specs.Versions.{MapState, passes_of}
use Rattle.turn_core.specs.NamedGoals.{class_named, goal_found, is_on_map}
use Rattle.turn_core.specs.Solving.{IsAnswerAt, IsAnswerTo, IsPathFound, IsRegionAt}
use Rattle.flat_posts.specs.declared.posted.FlatPost.{FlatPost}
use Rattle.flat_posts.specs.Posts.{IsPost}
use Rattle.flat_posts.specs.Replies.{flat_reply}
use Rattle.flat_posts.proofs.FlatForms.{one_post-IsPost}
use Rattle.flat_ways.specs.Steps.{HasDistance, HasStep}
use Rattle.pathserve_c.specs.Fields.{FieldRoom, IsFieldBy, MakesField}
use Rattle.pathserve_c.specs.inner.PathFields.{HasField, IsFieldAsked, IsFieldNamed, IsFieldToGoal, IsSized, IsWrittenBy, asks_path}

-- ---- what an answer that is a path says of its request

path_in : PathAnswer → Answer → PathAnswer
path_in other (Refused refusal) = other
path_in other Nowhere = other
path_in other (IsPath path) = path
path_in other (IsRegion region) = other

same_path : (a b : PathAnswer) → IsPath a ≡ IsPath b → a ≡ b
unfolding path_in
same_path a b same = ap (path_in a) same

-- the class, the goal and the start of a path that was answered
record IsGrounded (known : Option ℕ) (goal : Result Goal Refusal) (passes : ℕ → Cell → Bool) (start : Cell) : Type 0 where
  pub class : ℕ
  pub named : known ≡ Some class
  pub shape : Goal
  pub found : goal ≡ Ok shape
  pub passable : IsTrue (passes class start)

grounds : (known : Option ℕ) (on : Bool) (goal : Result Goal Refusal) (passes : ℕ → Cell → Bool) (x z : ℤ) (path : PathAnswer)
    → IsAnswerAt known on (λ class. IsPathFound (passes class) x z goal) (IsPath path) → IsGrounded known goal passes path.start
grounds None on goal passes x z path is = absurd cc
grounds (Some class) false goal passes x z path is = absurd cc
grounds (Some class) true (Err refusal) passes x z path is = absurd cc
grounds (Some class) true (Ok shape) passes x z path (inl none) = let is = none.1 in absurd cc
grounds (Some class) true (Ok shape) passes x z path (inr found) = record {
  class = class;
  named = refl;
  shape = shape;
  found = refl;
  passable = subst (λ (p : PathAnswer). IsTrue (passes class p.start)) (sym (same_path path found.0 found.1.0)) found.1.1.start_cell.passable;
}

pub asked_by_path : (version : MapState) (request : PathRequest) (path : PathAnswer)
    → IsAnswerTo version.map version.standing (AsksPath request) (IsPath path) → IsFieldAsked version request.class request.goal path.start
unfolding IsAnswerTo
asked_by_path version request path answers =
    let is = grounds (class_named version.map request.class) (is_on_map version.map.size request.x request.z) (goal_found version.map version.standing request.goal)
    (λ class. passable_at version.map version.standing class) request.x request.z path answers in
    record { class = is.class; named = is.named; goal = is.shape; found = is.found; passes = is.passable }

no_region : (known : Option ℕ) (on : Bool) (passes : ℕ → Cell → Bool) (x z : ℤ) (path : PathAnswer)
    → IsAnswerAt known on (λ class. IsRegionAt (passes class) x z) (IsPath path) → ⊥
no_region None on passes x z path is = absurd cc
no_region (Some class) false passes x z path is = absurd cc
no_region (Some class) true passes x z path (region, is) = let same = is.0 in absurd cc

pub region_has_no_path : (version : MapState) (query : RegionQuery) (path : PathAnswer)
    → IsAnswerTo version.map version.standing (AsksRegion query) (IsPath path) → ⊥
unfolding IsAnswerTo
region_has_no_path version query path answers =
    no_region (class_named version.map query.class) (is_on_map version.map.size query.x query.z)
    (λ class. passable_at version.map version.standing class) query.x query.z path answers

-- ---- posts that ask for a path

abbrev AsksForPath : Post → Type 0
AsksForPath (Editing edit) = ⊥
AsksForPath (Ask request) = IsTrue (asks_path request)

pub region_asks_no_path : (map : Map) (flat : FlatPost) (caller other : ℕ) (request : Request) (path : PathRequest)
    → IsPost map flat caller (Ask request) → asks_path request ≡ false → IsPost map flat other (Ask (AsksPath path)) → ⊥
region_asks_no_path map flat caller other request path is region asks =
    let same = (one_post-IsPost map flat other caller (Ask (AsksPath path)) (Ask request) asks is).1 in
    let yes : IsTrue (asks_path request) = subst AsksForPath same refl in absurd cc

-- ---- a field that was made

pub field_to_goal : {E : Type 0} (version : MapState) (class : ℕ) (start : Cell) (goal : Goal) (target : Target) (result : Result FieldCells E)
    → AreTargets (passes_of version class) start goal target → IfOk result (λ field. field.size ≡ version.map.size)
    → IfOk result (IsFieldOf (passes_of version class) (hit_by target) start) → IfOk result (IsFieldToGoal version class start goal)
field_to_goal version class start goal target (Ok field) targets size is = record { target = target; targets = targets; size = size; field = is }
field_to_goal version class start goal target (Err fault) targets size is = tt

pub field_named : {E : Type 0} (version : MapState) (name : List ℕ) (spec : GoalSpec) (start : Cell) (class : ℕ) (goal : Goal) (result : Result FieldCells E)
    → class_named version.map name ≡ Some class → goal_found version.map version.standing spec ≡ Ok goal
    → IfOk result (IsFieldToGoal version class start goal) → IfOk result (IsFieldNamed version name spec start)
field_named version name spec start class goal (Ok field) named found is = record { class = class; named = named; goal = goal; found = found; field = is }
field_named version name spec start class goal (Err fault) named found is = tt

-- the buffers have what a call for a field promises
field_made : (version : MapState) (request : PathRequest) (answer : Answer) (field : Option FieldCells) (before after : FieldRoom)
    → HasField version (AsksPath request) answer field → IsWrittenBy HasStep field version.map.size before.steps after.steps
    → IsWrittenBy HasDistance field version.map.size before.distances after.distances → IsFieldBy version request answer before after
field_made version request (IsPath path) None before after has steps distances = absurd has
field_made version request (IsPath path) (Some field) before after has steps distances =
    let to = has.field in record {
      class = has.class;
      named = has.named;
      goal = has.goal;
      found = has.found;
      target = to.target;
      targets = to.targets;
      steps = steps (passes_of version has.class) (hit_by to.target) path.start to.field;
      distances = distances (passes_of version has.class) (hit_by to.target) path.start to.field;
    }
field_made version request (Refused refusal) None before after has steps distances = (steps, distances)
field_made version request (Refused refusal) (Some field) before after has steps distances = absurd has
field_made version request Nowhere None before after has steps distances = (steps, distances)
field_made version request Nowhere (Some field) before after has steps distances = absurd has
field_made version request (IsRegion region) None before after has steps distances = (steps, distances)
field_made version request (IsRegion region) (Some field) before after has steps distances = absurd has

pub makes_field : (version : MapState) (post : FlatPost) (caller : ℕ) (request : Request) (answer : Answer) (field : Option FieldCells) (before after : FieldRoom)
    → IsPost version.map post caller (Ask request) → IsTrue (asks_path request) → IsAnswerTo version.map version.standing request answer
    → HasField version request answer field → after.reply ≡ flat_reply caller 0 0 (Answered answer)
    → IsWrittenBy HasStep field version.map.size before.steps after.steps
    → IsWrittenBy HasDistance field version.map.size before.distances after.distances → MakesField version post before after
makes_field version post caller (AsksPath request) answer field before after asks path answers has told steps distances = record {
  caller = caller;
  request = request;
  asks = asks;
  answer = answer;
  answers = answers;
  told = told;
  field = field_made version request answer field before after has steps distances;
}
makes_field version post caller (AsksRegion query) answer field before after asks path answers has told steps distances = absurd cc

-- a field that an answer has is of the map's size
pub sized : (version : MapState) (request : Request) (answer : Answer) (field : Option FieldCells) → HasField version request answer field → IsSized field version.map.size
sized version request answer None has = tt
sized version (AsksPath request) (IsPath path) (Some field) has = has.field.size
sized version (AsksRegion query) (IsPath path) (Some field) has = absurd has
sized version request (Refused refusal) (Some field) has = absurd has
sized version request Nowhere (Some field) has = absurd has
sized version request (IsRegion region) (Some field) has = absurd has
