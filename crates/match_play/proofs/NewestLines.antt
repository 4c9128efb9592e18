-- The newest version of a script has a line for each post.
use Rattle.std.proofs.Common.{◌≡◌, Bool, true, List, [], ◌∷◌, refl}
use Rattle.std.specs.List.{list_all}
use Rattle.std.proofs.lemmas.Bool.{and_from}
use Rattle.posts.specs.declared.posts.Post.{Post}
use Rattle.posts.specs.declared.posts.Post.TheVariants.{Edit as Edits, Ask as Asks}
use Rattle.posts.specs.declared.edits.Edit.TheVariants.{Add, Remove, Move}
use Rattle.posts.specs.declared.posts.Request.TheVariants.{Path, Region}
use Rattle.goal_shapes.specs.declared.goals.GoalSpec.{GoalSpec}
use Rattle.goal_shapes.specs.declared.goals.GoalSpec.TheVariants.{Plain, Obstruction}
use Rattle.script_text.specs.Canon.{HaveLines, is_goal_of, is_post_of}

goal_of_3 : (goal : GoalSpec) → is_goal_of 3 goal ≡ true
goal_of_3 (Plain goal) = refl
goal_of_3 (Obstruction id grow) = refl

post_of_3 : (post : Post) → is_post_of 3 post ≡ true
post_of_3 (Edits (Add id o)) = refl
post_of_3 (Edits (Remove id)) = refl
post_of_3 (Edits (Move id x z)) = refl
post_of_3 (Asks (Path request)) = goal_of_3 request.goal
post_of_3 (Asks (Region query)) = refl

all_true : {X : Type 0} (p : X → Bool) → ((x : X) → p x ≡ true) → (xs : List X) → list_all p xs ≡ true
all_true p each [] = refl
all_true p each (x ∷ xs) = and_from (p x) (list_all p xs) (each x) (all_true p each xs)

pub lines_of_3 : (turn : List (List Post)) → HaveLines 3 turn
lines_of_3 turn = all_true (λ (posts : List Post). list_all (is_post_of 3) posts) (λ posts. all_true (is_post_of 3) post_of_3 posts) turn
