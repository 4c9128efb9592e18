-- The flat form of each post, by its kind, and which post a flat post is.
use Rattle.std.specs.Prelude.{ℕ, ◌<◌, ◌≡◌, ◌&&◌, ◌||◌, ◌==◌, List, length, Some, Bool, not, nat_le, ℤ, pos, if◌then◌else◌}
use Rattle.class_config.specs.declared.table.PassabilityClass.{PassabilityClass}
use Rattle.class_config.specs.Classes.{name_at}
use Rattle.goal_shapes.specs.declared.goals.Goal.{Goal}
use Rattle.goal_shapes.specs.declared.goals.Goal.TheVariants.{Point, Circle, NotCircle, Square as SquareGoal, NotSquare}
use Rattle.goal_shapes.specs.declared.goals.GoalSpec.{GoalSpec}
use Rattle.goal_shapes.specs.declared.goals.GoalSpec.TheVariants.{Plain, Obstruction as AboutObstruction}
use Rattle.obstruction_shapes.specs.declared.shapes.Shape.{Shape}
use Rattle.obstruction_shapes.specs.declared.shapes.Shape.TheVariants.{Unit as UnitShape, Square as SquareShape}
use Rattle.posts.specs.declared.edits.Edit.{Edit}
use Rattle.posts.specs.declared.edits.Edit.TheVariants.{Add, Remove, Move}
use Rattle.posts.specs.declared.posts.Post.{Post}
use Rattle.posts.specs.declared.posts.Post.TheVariants.{Edit as Editing, Ask as Asking}
use Rattle.posts.specs.declared.posts.Request.{Request}
use Rattle.posts.specs.declared.posts.Request.TheVariants.{Path, Region}
use Rattle.posts.specs.Maps.{Map}
use Rattle.flat_posts.specs.declared.goal_kinds.TheConstants.{POINT, CIRCLE, NOT_CIRCLE, SQUARE, NOT_SQUARE, OBSTRUCTION}
use Rattle.flat_posts.specs.declared.post_kinds.TheConstants.{ADD_UNIT, ADD_SQUARE, REMOVE, MOVE, PATH, REGION}
use Rattle.flat_posts.specs.declared.posted.FlatFault.{FlatFault}
use Rattle.flat_posts.specs.declared.posted.FlatFault.TheVariants.{Kind, Caller, Class, Goal as GoalKind, UnusedField}
use Rattle.flat_posts.specs.declared.posted.FlatPost.{FlatPost}

-- a flat post of a kind and a caller whose other fields are 0
abbrev pub bare_post : ℕ → ℕ → FlatPost
bare_post kind caller = record {
  kind = kind;
  caller = caller;
  class_number = 0;
  goal = 0;
  mask = 0;
  zero = 0;
  id = 0;
  x = pos 0;
  z = pos 0;
  goal_x = pos 0;
  goal_z = pos 0;
  ux = pos 0;
  uz = pos 0;
  hw = pos 0;
  hh = pos 0;
  radius = pos 0;
}

-- an obstruction that a caller adds: its number, its mask, its middle and what its shape uses
abbrev pub flat_add : ℕ → ℕ → ℕ → Shape → FlatPost
flat_add caller id mask (UnitShape x z half) =
    record (bare_post ADD_UNIT caller) { id = id; mask = mask; x = x; z = z; radius = half }
flat_add caller id mask (SquareShape r) = record (bare_post ADD_SQUARE caller) {
  id = id;
  mask = mask;
  x = r.x;
  z = r.z;
  ux = r.ux;
  uz = r.uz;
  hw = r.hw;
  hh = r.hh;
}

-- an edit of a caller
abbrev pub flat_edit : ℕ → Edit → FlatPost
flat_edit caller (Add id obstruction) = flat_add caller id obstruction.mask obstruction.shape
flat_edit caller (Remove id) = record (bare_post REMOVE caller) { id = id }
flat_edit caller (Move id x z) = record (bare_post MOVE caller) { id = id; x = x; z = z }

-- a flat post with a goal
abbrev pub with_plain_goal : FlatPost → Goal → FlatPost
with_plain_goal flat (Point x z) = record flat { goal = POINT; goal_x = x; goal_z = z }
with_plain_goal flat (Circle x z r) = record flat { goal = CIRCLE; goal_x = x; goal_z = z; radius = r }
with_plain_goal flat (NotCircle x z r) = record flat { goal = NOT_CIRCLE; goal_x = x; goal_z = z; radius = r }
with_plain_goal flat (SquareGoal r) =
    record flat { goal = SQUARE; goal_x = r.x; goal_z = r.z; ux = r.ux; uz = r.uz; hw = r.hw; hh = r.hh }
with_plain_goal flat (NotSquare r) =
    record flat { goal = NOT_SQUARE; goal_x = r.x; goal_z = r.z; ux = r.ux; uz = r.uz; hw = r.hw; hh = r.hh }

abbrev pub with_goal : FlatPost → GoalSpec → FlatPost
with_goal flat (Plain goal) = with_plain_goal flat goal
with_goal flat (AboutObstruction id grow) = record flat { goal = OBSTRUCTION; id = id; radius = grow }

-- a flat post of a caller that asks for something for the class of a number at a point
abbrev pub asked_at : (kind caller class : ℕ) → (x z : ℤ) → FlatPost
asked_at kind caller class x z = record (bare_post kind caller) { class_number = class; x = x; z = z }

-- a request of a caller, for the class of a number
abbrev pub flat_request : ℕ → ℕ → Request → FlatPost
flat_request caller class (Path request) = with_goal (asked_at PATH caller class request.x request.z) request.goal
flat_request caller class (Region query) = asked_at REGION caller class query.x query.z

-- the name of the class that a request is for
abbrev pub asked_class : Request → List ℕ
asked_class (Path request) = request.class
asked_class (Region query) = query.class

-- the flat form of a post of a caller, which for a request has the number of its class
abbrev pub flat_post : ℕ → ℕ → Post → FlatPost
flat_post caller class (Editing edit) = flat_edit caller edit
flat_post caller class (Asking request) = flat_request caller class request

-- the class of a number is the one that a request asks for; an edit asks for none
abbrev pub HasClass : List PassabilityClass → ℕ → Post → Type 0
HasClass classes number (Editing edit) = Unit {0}
HasClass classes number (Asking request) = name_at classes number ≡ Some (asked_class request)

-- a flat post is a post of a caller of the map
pub record IsPost (map : Map) (flat : FlatPost) (caller : ℕ) (post : Post) : Type 0 where
  pub of_map : caller < map.callers
  pub form : flat ≡ flat_post caller flat.class_number post
  pub class : HasClass map.classes flat.class_number post

-- ---- what is wrong with a flat post that is no post

abbrev pub is_post_kind : ℕ → Bool
is_post_kind kind = nat_le ADD_UNIT kind && nat_le kind REGION

-- whether the kind is the one of a request, so that its class counts
abbrev pub is_request_kind : ℕ → Bool
is_request_kind kind = kind == PATH || kind == REGION

abbrev pub is_goal_kind : ℕ → Bool
is_goal_kind goal = nat_le POINT goal && nat_le goal OBSTRUCTION

-- the first that is wrong: a kind, a caller, a class, a goal that there is not; and else a field that is not used and not 0
abbrev pub first_fault : Map → FlatPost → FlatFault
first_fault map flat =
    if not (is_post_kind flat.kind) then Kind else (
    if nat_le map.callers flat.caller then Caller else (
    if is_request_kind flat.kind && nat_le (length map.classes) flat.class_number then Class else (
    if flat.kind == PATH && not (is_goal_kind flat.goal) then GoalKind else UnusedField)))
