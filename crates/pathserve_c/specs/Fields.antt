-- Flow fields in a game's buffers.
use Rattle.std.specs.Prelude.{ℕ, ◌≡◌, List, Option, Some, Result, Ok, Err}
use Rattle.nav_types.specs.declared.cells.Cell.{Cell}
use Rattle.goal_shapes.specs.declared.goals.Goal.{Goal}
use Rattle.goal_reach.specs.declared.targets.Target.{Target}
use Rattle.goal_reach.specs.Targets.{AreTargets, hit_by}
use Rattle.posts.specs.declared.posts.Post.TheVariants.{Ask}
use Rattle.posts.specs.declared.posts.PathRequest.{PathRequest}
use Rattle.posts.specs.declared.posts.Request.TheVariants.{Path as AsksPath}
use Rattle.posts.specs.declared.replies.Answer.{Answer}
use Rattle.posts.specs.declared.replies.Answer.TheVariants.{Path as IsPath}
use Rattle.posts.specs.declared.replies.Reply.TheVariants.{Answer as Answered}
use Rattle.grid_versions.specs.Versions.{MapState, passes_of}
use Rattle.turn_core.specs.NamedGoals.{class_named, goal_found}
use Rattle.turn_core.specs.Solving.{IsAnswerTo}
use Rattle.flat_posts.specs.declared.posted.FlatPost.{FlatPost}
use Rattle.flat_posts.specs.declared.replied.FlatReply.{FlatReply}
use Rattle.flat_posts.specs.Posts.{IsPost}
use Rattle.flat_posts.specs.Replies.{flat_reply}
use Rattle.flat_ways.specs.Steps.{AreTold, HasDistance, HasStep}
use Rattle.pathserve_c.specs.declared.statuses.PostFault.{PostFault}
use Rattle.pathserve_c.specs.declared.statuses.PostFault.TheVariants as fault
use Rattle.pathserve_c.specs.declared.states.State.{State}
use Rattle.pathserve_c.specs.declared.states.State.TheVariants.{View}
use Rattle.pathserve_c.specs.Statuses.{refusal, status_of_posts}

-- what a call for a field writes: the reply, and a number for each cell in each buffer
pub record FieldRoom : Type 0 where
  pub reply : FlatReply
  pub steps : List ℕ
  pub distances : List ℕ

-- The buffers have, of each cell, the step and the distance that the flow field of a path has: that of the goal's targets for
-- the class, in the area of the path's start.
pub record IsFieldTo (version : MapState) (request : PathRequest) (start : Cell) (before after : FieldRoom) : Type 0 where
  pub class : ℕ
  pub named : class_named version.map request.class ≡ Some class
  pub goal : Goal
  pub found : goal_found version.map version.standing request.goal ≡ Ok goal
  pub target : Target
  pub targets : AreTargets (passes_of version class) start goal target
  pub steps : AreTold (HasStep (passes_of version class) (hit_by target) start) version.map.size before.steps after.steps
  pub distances : AreTold (HasDistance (passes_of version class) (hit_by target) start) version.map.size before.distances after.distances

-- the buffers have the field of an answer that is a path; else they stay
abbrev pub IsFieldBy : MapState → PathRequest → Answer → (before after : FieldRoom) → Type 0
IsFieldBy version request (IsPath path) before after = IsFieldTo version request path.start before after
IsFieldBy version request answer before after = (after.steps ≡ before.steps) × (after.distances ≡ before.distances)

-- The post asks for a path by a caller of the map, the reply tells its answer on what stands, and the buffers have its field.
pub record MakesField (version : MapState) (post : FlatPost) (before after : FieldRoom) : Type 0 where
  pub caller : ℕ
  pub request : PathRequest
  pub asks : IsPost version.map post caller (Ask (AsksPath request))
  pub answer : Answer
  pub answers : IsAnswerTo version.map version.standing (AsksPath request) answer
  pub told : after.reply ≡ flat_reply caller 0 0 (Answered answer)
  pub field : IsFieldBy version request answer before after

-- what an answer says of a post whose field was asked for: it refuses where there was no memory, or the post asks for no path
abbrev pub MakesFieldAs : MapState → FlatPost → (before after : FieldRoom) → Result (Unit {0}) PostFault → Type 0
MakesFieldAs version post before after (Ok done) = MakesField version post before after
MakesFieldAs version post before after (Err fault.BadValue) = (after ≡ before)
    × ((caller : ℕ) (request : PathRequest) → IsPost version.map post caller (Ask (AsksPath request)) → ⊥)
MakesFieldAs version post before after (Err fault.NoMemory) = after ≡ before

-- the same of what a handle shows; anything else than a view refuses
abbrev pub IsFieldMade : Option State → FlatPost → (before after : FieldRoom) → ℕ → Type 0
IsFieldMade (Some (View version)) post before after status = (answer : Result (Unit {0}) PostFault)
    × ((status ≡ status_of_posts answer) × MakesFieldAs version post before after answer)
IsFieldMade state post before after status = (status ≡ refusal state) × (after ≡ before)
