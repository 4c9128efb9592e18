-- What a flat post is, read by its kind, whatever stands in the fields that the kind does not use.
use Rattle.std.specs.Prelude.{ℕ, ◌≡◌, ◌==◌, List, Option, None, Some, option_map, option_and_then, if◌then◌else◌, ℤ}
use Rattle.class_config.specs.declared.table.PassabilityClass.{PassabilityClass}
use Rattle.class_config.specs.Classes.{name_at}
use Rattle.fixed_point.specs.declared.plane.Rectangle.{Rectangle}
use Rattle.goal_shapes.specs.declared.goals.Goal.TheVariants.{Point, Circle, NotCircle, Square as SquareGoal, NotSquare}
use Rattle.goal_shapes.specs.declared.goals.GoalSpec.{GoalSpec}
use Rattle.goal_shapes.specs.declared.goals.GoalSpec.TheVariants.{Plain, Obstruction as AboutObstruction}
use Rattle.obstruction_shapes.specs.declared.shapes.Shape.{Shape}
use Rattle.obstruction_shapes.specs.declared.shapes.Shape.TheVariants.{Unit as UnitShape, Square as SquareShape}
use Rattle.posts.specs.declared.edits.Edit.{Edit}
use Rattle.posts.specs.declared.edits.Edit.TheVariants.{Add, Remove, Move}
use Rattle.posts.specs.declared.posts.PathRequest.{PathRequest}
use Rattle.posts.specs.declared.posts.Post.{Post}
use Rattle.posts.specs.declared.posts.Post.TheVariants.{Edit as Editing, Ask as Asking}
use Rattle.posts.specs.declared.posts.Request.{Request}
use Rattle.posts.specs.declared.posts.Request.TheVariants.{Path, Region}
use Rattle.flat_posts.specs.declared.goal_kinds.TheConstants.{POINT, CIRCLE, NOT_CIRCLE, SQUARE, NOT_SQUARE, OBSTRUCTION}
use Rattle.flat_posts.specs.declared.post_kinds.TheConstants.{ADD_UNIT, ADD_SQUARE, REMOVE, MOVE, PATH, REGION}
use Rattle.flat_posts.specs.declared.posted.FlatPost.{FlatPost}

-- the rectangle about a point that the vector and the half sides give
abbrev pub rectangle_at : FlatPost → ℤ → ℤ → Rectangle
rectangle_at flat x z = record { x = x; z = z; ux = flat.ux; uz = flat.uz; hw = flat.hw; hh = flat.hh }

abbrev pub add_of : FlatPost → Shape → Edit
add_of flat shape = Add flat.id (record { shape = shape; mask = flat.mask })

abbrev pub edit_in : FlatPost → Option Edit
edit_in flat =
    if flat.kind == ADD_UNIT then Some (add_of flat (UnitShape flat.x flat.z flat.radius)) else (
    if flat.kind == ADD_SQUARE then Some (add_of flat (SquareShape (rectangle_at flat flat.x flat.z))) else (
    if flat.kind == REMOVE then Some (Remove flat.id) else (
    if flat.kind == MOVE then Some (Move flat.id flat.x flat.z) else None)))

abbrev pub goal_in : FlatPost → Option GoalSpec
goal_in flat =
    if flat.goal == POINT then Some (Plain (Point flat.goal_x flat.goal_z)) else (
    if flat.goal == CIRCLE then Some (Plain (Circle flat.goal_x flat.goal_z flat.radius)) else (
    if flat.goal == NOT_CIRCLE then Some (Plain (NotCircle flat.goal_x flat.goal_z flat.radius)) else (
    if flat.goal == SQUARE then Some (Plain (SquareGoal (rectangle_at flat flat.goal_x flat.goal_z))) else (
    if flat.goal == NOT_SQUARE then Some (Plain (NotSquare (rectangle_at flat flat.goal_x flat.goal_z))) else (
    if flat.goal == OBSTRUCTION then Some (AboutObstruction flat.id flat.radius) else None)))))

-- the request for a path of the class of this name to this goal, from the point
abbrev pub path_to : FlatPost → List ℕ → GoalSpec → PathRequest
path_to flat name goal = record { class = name; x = flat.x; z = flat.z; goal = goal }

abbrev pub request_in : FlatPost → List ℕ → Option Request
request_in flat name =
    if flat.kind == PATH then option_map (λ goal. Path (path_to flat name goal)) (goal_in flat) else (
    if flat.kind == REGION then Some (Region (record { class = name; x = flat.x; z = flat.z })) else None)

-- the edit, or the request for the class of the number
abbrev pub post_from : Option Edit → Option Request → Option Post
post_from (Some edit) request = Some (Editing edit)
post_from None request = option_map Asking request

abbrev pub post_in : List PassabilityClass → FlatPost → Option Post
post_in classes flat =
    post_from (edit_in flat) (option_and_then (request_in flat) (name_at classes flat.class_number))

-- ---- two flat posts field by field

pub record HasSameNumbers (a b : FlatPost) : Type 0 where
  pub kind : a.kind ≡ b.kind
  pub caller : a.caller ≡ b.caller
  pub class : a.class_number ≡ b.class_number
  pub goal : a.goal ≡ b.goal
  pub mask : a.mask ≡ b.mask
  pub zero : a.zero ≡ b.zero
  pub id : a.id ≡ b.id

pub record HasSamePlaces (a b : FlatPost) : Type 0 where
  pub x : a.x ≡ b.x
  pub z : a.z ≡ b.z
  pub goal_x : a.goal_x ≡ b.goal_x
  pub goal_z : a.goal_z ≡ b.goal_z

pub record HasSameShape (a b : FlatPost) : Type 0 where
  pub ux : a.ux ≡ b.ux
  pub uz : a.uz ≡ b.uz
  pub hw : a.hw ≡ b.hw
  pub hh : a.hh ≡ b.hh
  pub radius : a.radius ≡ b.radius
