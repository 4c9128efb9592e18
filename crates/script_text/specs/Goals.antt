-- The goals of path lines, all in one place: their keys, the decimals under them, what they read as, and why a value is none.
use Rattle.std.specs.Prelude.{ℕ, ◌&&◌, List, [], ◌∷◌, nat_le, nat_lt, ℤ, if◌then◌else◌, Option, None, option_map, option_and_then, codes}
use Rattle.std.specs.Option.{option_or}
use Rattle.serde_json.specs.Data.{Data}
use Rattle.serde_json.specs.Find.{at}
use Rattle.class_config.specs.Forms.{has_keys}
use Rattle.goal_shapes.specs.declared.goals.Goal.{Goal}
use Rattle.goal_shapes.specs.declared.goals.Goal.TheVariants.{Point, Circle, NotCircle, Square, NotSquare}
use Rattle.goal_shapes.specs.declared.goals.GoalSpec.{GoalSpec}
use Rattle.goal_shapes.specs.declared.goals.GoalSpec.TheVariants.{Plain, Obstruction as ByObstruction}
use Rattle.script_text.specs.declared.goals.GoalKey.{GoalKey}
use Rattle.script_text.specs.declared.goals.GoalKey.TheVariants as key
use Rattle.script_text.specs.declared.causes.Cause.{Cause}
use Rattle.script_text.specs.declared.causes.Cause.TheVariants.{WrongValue, LaterVersion}
use Rattle.script_text.specs.declared.causes.keys.Key.TheVariants.{OfGoal}
use Rattle.script_text.specs.declared.causes.keys.Wanted.{Wanted}
use Rattle.script_text.specs.declared.causes.keys.Wanted.TheVariants.{TwoDecimals, ThreeDecimals, SixDecimals, NumberAndDecimal}
use Rattle.script_text.specs.declared.causes.wrong_values.FormField.{FormField}
use Rattle.script_text.specs.declared.versions.TheConstants.{FIRST_WITH_MOVES}
use Rattle.script_text.specs.Grammar.{rectangle_decimals}
use Rattle.script_text.specs.Values.{obstruction_number, under, has_items, decimal_at, both, point_of, round_of, rectangle_of}

-- the key of a goal, which is its only one, as it stands in a line
abbrev pub goal_key_text : GoalKey → List ℕ
goal_key_text key.Point = codes "point"
goal_key_text key.Circle = codes "circle"
goal_key_text key.NotCircle = codes "not-circle"
goal_key_text key.Square = codes "square"
goal_key_text key.NotSquare = codes "not-square"
goal_key_text key.Obstruction = codes "obstruction"

-- what must stand under the key of a goal
abbrev pub goal_wanted : GoalKey → Wanted
goal_wanted key.Point = TwoDecimals
goal_wanted key.Circle = ThreeDecimals
goal_wanted key.NotCircle = ThreeDecimals
goal_wanted key.Square = SixDecimals
goal_wanted key.NotSquare = SixDecimals
goal_wanted key.Obstruction = NumberAndDecimal

-- the keys of goals, in words
abbrev pub goal_keys_text : List ℕ
goal_keys_text = codes "point, circle, not-circle, square, not-square or, from version 3 on, obstruction"

-- the key of a goal that is a shape
abbrev pub key_of : Goal → GoalKey
key_of (Point x z) = key.Point
key_of (Circle x z r) = key.Circle
key_of (NotCircle x z r) = key.NotCircle
key_of (Square rectangle) = key.Square
key_of (NotSquare rectangle) = key.NotSquare

-- the coordinates and lengths of a goal
abbrev pub goal_decimals : Goal → List ℤ
goal_decimals (Point x z) = x ∷ z ∷ []
goal_decimals (Circle x z r) = x ∷ z ∷ r ∷ []
goal_decimals (NotCircle x z r) = x ∷ z ∷ r ∷ []
goal_decimals (Square rectangle) = rectangle_decimals rectangle
goal_decimals (NotSquare rectangle) = rectangle_decimals rectangle

-- a goal that is a shape, which its key names
unfoldable pub plain_goal : Data → Option Goal
plain_goal d = if has_keys (codes "point" ∷ []) d then option_map (λ p. Point p.0 p.1) (under point_of (codes "point") d)
    else (if has_keys (codes "circle" ∷ []) d then option_map (λ c. Circle c.0 c.1 c.2) (under round_of (codes "circle") d)
    else (if has_keys (codes "not-circle" ∷ []) d then option_map (λ c. NotCircle c.0 c.1 c.2) (under round_of (codes "not-circle") d)
    else (if has_keys (codes "square" ∷ []) d then option_map Square (under rectangle_of (codes "square") d)
    else (if has_keys (codes "not-square" ∷ []) d then option_map NotSquare (under rectangle_of (codes "not-square") d)
    else None))))

-- an array of an obstruction number and a decimal, by which the obstruction grows
unfoldable pub grown_of : Data → Option GoalSpec
grown_of d = if has_items 2 d
    then option_map (λ parts. ByObstruction parts.0 parts.1) (both (option_and_then obstruction_number (at 0 d)) (decimal_at 1 d))
    else None

-- a goal that is an obstruction, under version 3 only
unfoldable pub obstruction_goal : ℕ → Data → Option GoalSpec
obstruction_goal version d = if nat_le FIRST_WITH_MOVES version && has_keys (codes "obstruction" ∷ []) d then under grown_of (codes "obstruction") d else None

-- the goal of a path line: an object with exactly one key
unfoldable pub goal_of : ℕ → Data → Option GoalSpec
goal_of version d = option_or (option_map Plain (plain_goal d)) (obstruction_goal version d)

-- the cause of a goal that is none in a script of this version: the value under its key, its version, or its keys
abbrev pub wrong_goal : ℕ → FormField → Data → Cause
wrong_goal version f g = if has_keys (codes "point" ∷ []) g then WrongValue (OfGoal key.Point) TwoDecimals
    else (if has_keys (codes "circle" ∷ []) g then WrongValue (OfGoal key.Circle) ThreeDecimals
    else (if has_keys (codes "not-circle" ∷ []) g then WrongValue (OfGoal key.NotCircle) ThreeDecimals
    else (if has_keys (codes "square" ∷ []) g then WrongValue (OfGoal key.Square) SixDecimals
    else (if has_keys (codes "not-square" ∷ []) g then WrongValue (OfGoal key.NotSquare) SixDecimals
    else (if has_keys (codes "obstruction" ∷ []) g
    then (if nat_lt version FIRST_WITH_MOVES then LaterVersion FIRST_WITH_MOVES else WrongValue (OfGoal key.Obstruction) NumberAndDecimal)
    else WrongValue f.key f.wanted)))))
