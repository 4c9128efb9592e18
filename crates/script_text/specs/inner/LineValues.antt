-- The values under the keys of canonical lines.
use Rattle.std.specs.Prelude.{ℕ, ◌≤◌, List, [], ◌∷◌, map, All, IsTrue, ⊤}
use Rattle.serde_json.specs.Data.{Data, string}
use Rattle.nav_types.specs.declared.cells.Rect.{Rect}
use Rattle.class_config.specs.Forms.{is_class_name}
use Rattle.class_config.specs.Classes.{is_table}
use Rattle.script_text.specs.declared.canon.form_lines.LineValue.{LineValue}
use Rattle.script_text.specs.declared.canon.form_lines.LineValue.TheVariants.{Whole, Sides, Classes, Rectangles, Name, Point, Shape, Goal}
use Rattle.script_text.specs.declared.causes.keys.Key.{Key}
use Rattle.script_text.specs.Canon.{whole_json, decimals_json, list_json, sides_json, class_json, entry_json, goal_json}
use Rattle.script_text.specs.Grammar.{shape_decimals}
use Rattle.script_text.specs.ReadsBack.{AreFixed, IsGoalValue}

-- the value as it is written
abbrev pub value_json : LineValue → Data
value_json (Whole n) = whole_json n
value_json (Sides size) = sides_json size
value_json (Classes classes) = list_json (map class_json classes.now)
value_json (Rectangles rects) = list_json (map entry_json rects.now)
value_json (Name name) = string name.now
value_json (Point x z) = decimals_json (x ∷ z ∷ [])
value_json (Shape shape) = decimals_json (shape_decimals shape)
value_json (Goal goal) = goal_json goal

-- its numbers fit their types, and names and classes have their form
abbrev pub IsLineValue : LineValue → Type 0
IsLineValue (Whole n) = ⊤
IsLineValue (Sides size) = ⊤
IsLineValue (Classes classes) = IsTrue (is_table classes.now)
IsLineValue (Rectangles rects) = All (λ (entry : Rect × ℕ). entry.1 ≤ 65535) rects.now
IsLineValue (Name name) = IsTrue (is_class_name name.now)
IsLineValue (Point x z) = AreFixed (x ∷ z ∷ [])
IsLineValue (Shape shape) = AreFixed (shape_decimals shape)
IsLineValue (Goal goal) = IsGoalValue goal

-- so are the values under these keys
abbrev pub AreLineValues : List Key → List LineValue → Type 0
AreLineValues [] values = ⊤
AreLineValues (key ∷ keys) [] = ⊤
AreLineValues (key ∷ keys) (value ∷ values) = IsLineValue value × AreLineValues keys values
