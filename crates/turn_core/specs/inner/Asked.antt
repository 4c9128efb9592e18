-- What a request names before its answer is looked for.
use Rattle.std.specs.Prelude.{ℕ, ℤ, ◌≡◌, ◌<◌, List, Some, length}
use Rattle.nav_types.specs.declared.cells.Cell.{Cell}
use Rattle.nav_types.specs.Cells.{IsInside}
use Rattle.fixed_point.specs.Plane.{IsOnAxis}
use Rattle.goal_shapes.specs.Goals.{HoldsPoint}
use Rattle.posts.specs.declared.edits.Refusal.{Refusal}
use Rattle.posts.specs.declared.replies.Answer.TheVariants.{Refused}
use Rattle.posts.specs.Maps.{Map}
use Rattle.turn_core.specs.NamedGoals.{class_named, is_on_map}
use Rattle.turn_core.specs.Solving.{IsAnswerAt}

-- the class is the map's of that name, and the cell is the one of the map that holds the point (x, z)
pub record IsAskedAt (map : Map) (name : List ℕ) (x z : ℤ) (class : ℕ) (cell : Cell) : Type 0 where
  pub named : class_named map name ≡ Some class
  pub known : class < length map.classes
  pub column : IsOnAxis map.size.w x
  pub row : IsOnAxis map.size.h z
  pub holder : HoldsPoint x z cell
  pub inside : IsInside map.size cell

-- the refusal answers whatever is asked of the class at the point
abbrev pub IsRefusedAt : Map → List ℕ → ℤ → ℤ → Refusal → Type 0
IsRefusedAt map name x z refusal = IsAnswerAt (class_named map name) (is_on_map map.size x z) (λ class answer. ⊥) (Refused refusal)
