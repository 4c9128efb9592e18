-- A flat form reads as its post, whatever the caller, and so a flat post is one post of one caller.
use Rattle.std.proofs.Common.{◌≡◌, ℕ, ℤ, List, Some, None, refl, ap, sym, ◌∙◌}
use Rattle.std.specs.Prelude.{option_map, option_and_then}
use Rattle.class_config.specs.declared.table.PassabilityClass.{PassabilityClass}
use Rattle.class_config.specs.Classes.{name_at}
use Rattle.goal_shapes.specs.declared.goals.Goal.TheVariants.{Point, Circle, NotCircle, Square as SquareGoal, NotSquare}
use Rattle.goal_shapes.specs.declared.goals.GoalSpec.{GoalSpec}
use Rattle.goal_shapes.specs.declared.goals.GoalSpec.TheVariants.{Plain, Obstruction as AboutObstruction}
use Rattle.obstruction_shapes.specs.declared.shapes.Shape.{Shape}
use Rattle.obstruction_shapes.specs.declared.shapes.Shape.TheVariants.{Unit as UnitShape, Square as SquareShape}
use Rattle.posts.specs.declared.edits.Edit.{Edit}
use Rattle.posts.specs.declared.edits.Edit.TheVariants.{Add, Remove, Move}
use Rattle.posts.specs.declared.posts.Post.{Post}
use Rattle.posts.specs.declared.posts.Post.TheVariants.{Edit as Editing, Ask as Asking}
use Rattle.posts.specs.declared.posts.Request.{Request}
use Rattle.posts.specs.declared.posts.Request.TheVariants.{Path, Region}
use Rattle.posts.specs.Maps.{Map}
use Rattle.flat_posts.specs.declared.posted.FlatPost.{FlatPost}
use Rattle.flat_posts.specs.declared.post_kinds.TheConstants.{PATH}
use Rattle.flat_posts.specs.Posts.{IsPost, HasClass, flat_post, flat_edit, flat_add, flat_request, asked_at, asked_class, with_goal}
use Rattle.flat_posts.specs.inner.Reading.{HasSameNumbers, HasSamePlaces, HasSameShape, edit_in, request_in, post_in, post_from}

-- ---- each form reads back

edit_in-flat_add : (caller id mask : ℕ) (shape : Shape) → edit_in (flat_add caller id mask shape) ≡ Some (Add id (record { shape = shape; mask = mask }))
edit_in-flat_add caller id mask (UnitShape x z half) = refl
edit_in-flat_add caller id mask (SquareShape r) = refl

pub edit_in-flat_edit : (caller : ℕ) (edit : Edit) → edit_in (flat_edit caller edit) ≡ Some edit
edit_in-flat_edit caller (Add id obstruction) = edit_in-flat_add caller id obstruction.mask obstruction.shape
edit_in-flat_edit caller (Remove id) = refl
edit_in-flat_edit caller (Move id x z) = refl

-- a flat path with each kind of goal
abbrev path_with : (caller class : ℕ) (x z : ℤ) (goal : GoalSpec) → FlatPost
path_with caller class x z goal = with_goal (asked_at PATH caller class x z) goal

no_edit_to : (caller class : ℕ) (x z : ℤ) (goal : GoalSpec) → edit_in (path_with caller class x z goal) ≡ None
no_edit_to caller class x z (Plain (Point gx gz)) = refl
no_edit_to caller class x z (Plain (Circle gx gz r)) = refl
no_edit_to caller class x z (Plain (NotCircle gx gz r)) = refl
no_edit_to caller class x z (Plain (SquareGoal r)) = refl
no_edit_to caller class x z (Plain (NotSquare r)) = refl
no_edit_to caller class x z (AboutObstruction id grow) = refl

no_edit : (caller class : ℕ) (request : Request) → edit_in (flat_request caller class request) ≡ None
no_edit caller class (Path request) = no_edit_to caller class request.x request.z request.goal
no_edit caller class (Region query) = refl

request_to : (caller class : ℕ) (name : List ℕ) (x z : ℤ) (goal : GoalSpec)
    → request_in (path_with caller class x z goal) name ≡ Some (Path (record { class = name; x = x; z = z; goal = goal }))
request_to caller class name x z (Plain (Point gx gz)) = refl
request_to caller class name x z (Plain (Circle gx gz r)) = refl
request_to caller class name x z (Plain (NotCircle gx gz r)) = refl
request_to caller class name x z (Plain (SquareGoal r)) = refl
request_to caller class name x z (Plain (NotSquare r)) = refl
request_to caller class name x z (AboutObstruction id grow) = refl

request_in-flat_request : (caller class : ℕ) (request : Request) → request_in (flat_request caller class request) (asked_class request) ≡ Some request
request_in-flat_request caller class (Path request) = request_to caller class request.class request.x request.z request.goal
request_in-flat_request caller class (Region query) = refl

-- a goal leaves the caller and the class of a flat post as they are
caller_with_goal : (flat : FlatPost) (goal : GoalSpec) → (with_goal flat goal).caller ≡ flat.caller
caller_with_goal flat (Plain (Point gx gz)) = refl
caller_with_goal flat (Plain (Circle gx gz r)) = refl
caller_with_goal flat (Plain (NotCircle gx gz r)) = refl
caller_with_goal flat (Plain (SquareGoal r)) = refl
caller_with_goal flat (Plain (NotSquare r)) = refl
caller_with_goal flat (AboutObstruction id grow) = refl

class_with_goal : (flat : FlatPost) (goal : GoalSpec) → (with_goal flat goal).class_number ≡ flat.class_number
class_with_goal flat (Plain (Point gx gz)) = refl
class_with_goal flat (Plain (Circle gx gz r)) = refl
class_with_goal flat (Plain (NotCircle gx gz r)) = refl
class_with_goal flat (Plain (SquareGoal r)) = refl
class_with_goal flat (Plain (NotSquare r)) = refl
class_with_goal flat (AboutObstruction id grow) = refl

caller_of-flat_request : (caller class : ℕ) (request : Request) → (flat_request caller class request).caller ≡ caller
caller_of-flat_request caller class (Path request) = caller_with_goal (asked_at PATH caller class request.x request.z) request.goal
caller_of-flat_request caller class (Region query) = refl

caller_of-flat_add : (caller id mask : ℕ) (shape : Shape) → (flat_add caller id mask shape).caller ≡ caller
caller_of-flat_add caller id mask (UnitShape x z half) = refl
caller_of-flat_add caller id mask (SquareShape r) = refl

pub caller_of-flat_post : (caller class : ℕ) (post : Post) → (flat_post caller class post).caller ≡ caller
caller_of-flat_post caller class (Editing (Add id obstruction)) = caller_of-flat_add caller id obstruction.mask obstruction.shape
caller_of-flat_post caller class (Editing (Remove id)) = refl
caller_of-flat_post caller class (Editing (Move id x z)) = refl
caller_of-flat_post caller class (Asking request) = caller_of-flat_request caller class request

class_of-flat_request : (caller class : ℕ) (request : Request) → (flat_request caller class request).class_number ≡ class
class_of-flat_request caller class (Path request) = class_with_goal (asked_at PATH caller class request.x request.z) request.goal
class_of-flat_request caller class (Region query) = refl

-- ---- a flat post reads as the post that it is

post_in-form : (classes : List PassabilityClass) (flat : FlatPost) (caller : ℕ) (post : Post)
    → flat ≡ flat_post caller flat.class_number post → HasClass classes flat.class_number post → post_in classes flat ≡ Some post
post_in-form classes flat caller (Editing edit) form class =
    ap (λ o. post_from o (option_and_then (request_in flat) (name_at classes flat.class_number))) (ap edit_in form ∙ edit_in-flat_edit caller edit)
post_in-form classes flat caller (Asking request) form class =
    let number = flat.class_number in
    ap (λ o. post_from o (option_and_then (request_in flat) (name_at classes number))) (ap edit_in form ∙ no_edit caller number request)
    ∙ ap (λ o. option_map Asking (option_and_then (request_in flat) o)) class
    ∙ ap (λ f. option_map Asking (request_in f (asked_class request))) form
    ∙ ap (λ o. option_map Asking o) (request_in-flat_request caller number request)

pub post_in-IsPost : (map : Map) (flat : FlatPost) (caller : ℕ) (post : Post) → IsPost map flat caller post → post_in map.classes flat ≡ Some post
post_in-IsPost map flat caller post is = post_in-form map.classes flat caller post is.form is.class

-- the caller stands in the flat post
pub caller-IsPost : (map : Map) (flat : FlatPost) (caller : ℕ) (post : Post) → IsPost map flat caller post → flat.caller ≡ caller
caller-IsPost map flat caller post is = ap (λ f. f.caller) is.form ∙ caller_of-flat_post caller flat.class_number post

-- ---- two flat posts with the same fields are one

pub same_flat_post : (a b : FlatPost) → HasSameNumbers a b → HasSamePlaces a b → HasSameShape a b → a ≡ b
same_flat_post a b n p s =
    ap (λ v. record a { kind = v }) n.kind
    ∙ ap (λ v. record a { kind = b.kind; caller = v }) n.caller
    ∙ ap (λ v. record a { kind = b.kind; caller = b.caller; class_number = v }) n.class
    ∙ ap (λ v. record a { kind = b.kind; caller = b.caller; class_number = b.class_number; goal = v }) n.goal
    ∙ ap (λ v. record a { kind = b.kind; caller = b.caller; class_number = b.class_number; goal = b.goal; mask = v }) n.mask
    ∙ ap (λ v. record a { kind = b.kind; caller = b.caller; class_number = b.class_number; goal = b.goal; mask = b.mask; zero = v }) n.zero
    ∙ ap (λ v. record a { kind = b.kind; caller = b.caller; class_number = b.class_number; goal = b.goal; mask = b.mask; zero = b.zero; id = v }) n.id
    ∙ ap (λ v. record b { x = v; z = a.z; goal_x = a.goal_x; goal_z = a.goal_z; ux = a.ux; uz = a.uz; hw = a.hw; hh = a.hh; radius = a.radius }) p.x
    ∙ ap (λ v. record b { z = v; goal_x = a.goal_x; goal_z = a.goal_z; ux = a.ux; uz = a.uz; hw = a.hw; hh = a.hh; radius = a.radius }) p.z
    ∙ ap (λ v. record b { goal_x = v; goal_z = a.goal_z; ux = a.ux; uz = a.uz; hw = a.hw; hh = a.hh; radius = a.radius }) p.goal_x
    ∙ ap (λ v. record b { goal_z = v; ux = a.ux; uz = a.uz; hw = a.hw; hh = a.hh; radius = a.radius }) p.goal_z
    ∙ ap (λ v. record b { ux = v; uz = a.uz; hw = a.hw; hh = a.hh; radius = a.radius }) s.ux
    ∙ ap (λ v. record b { uz = v; hw = a.hw; hh = a.hh; radius = a.radius }) s.uz
    ∙ ap (λ v. record b { hw = v; hh = a.hh; radius = a.radius }) s.hw
    ∙ ap (λ v. record b { hh = v; radius = a.radius }) s.hh
    ∙ ap (λ v. record b { radius = v }) s.radius

pub HasSameNumbers-≡ : (a b : FlatPost) → a ≡ b → HasSameNumbers a b
HasSameNumbers-≡ a b e = record {
  kind = ap (λ f. f.kind) e;
  caller = ap (λ f. f.caller) e;
  class = ap (λ f. f.class_number) e;
  goal = ap (λ f. f.goal) e;
  mask = ap (λ f. f.mask) e;
  zero = ap (λ f. f.zero) e;
  id = ap (λ f. f.id) e;
}

pub HasSamePlaces-≡ : (a b : FlatPost) → a ≡ b → HasSamePlaces a b
HasSamePlaces-≡ a b e = record { x = ap (λ f. f.x) e; z = ap (λ f. f.z) e; goal_x = ap (λ f. f.goal_x) e; goal_z = ap (λ f. f.goal_z) e }

pub HasSameShape-≡ : (a b : FlatPost) → a ≡ b → HasSameShape a b
HasSameShape-≡ a b e = record { ux = ap (λ f. f.ux) e; uz = ap (λ f. f.uz) e; hw = ap (λ f. f.hw) e; hh = ap (λ f. f.hh) e; radius = ap (λ f. f.radius) e }

-- ---- a flat post is one post of one caller

pub one_post-IsPost : (map : Map) (flat : FlatPost) (caller other : ℕ) (post also : Post) → IsPost map flat caller post → IsPost map flat other also
    → (caller ≡ other) × (post ≡ also)
one_post-IsPost map flat caller other post also is too =
    let same : Some post ≡ Some also = sym (post_in-IsPost map flat caller post is) ∙ post_in-IsPost map flat other also too in
    (sym (caller-IsPost map flat caller post is) ∙ caller-IsPost map flat other also too, cc)

-- the number of a request's class stands in its flat form
pub class_of-flat_post : (caller class : ℕ) (request : Request) → (flat_post caller class (Asking request)).class_number ≡ class
class_of-flat_post caller class request = class_of-flat_request caller class request
