-- Canonical scripts read back: what a map and turns are whose canonical script is one, and what its reading gives.
use Rattle.std.specs.Prelude.{ℕ, ◌≡◌, ◌+◌, ◌≤◌, List, [], ◌∷◌, ◌++◌, length, All, IsTrue, ℤ, Some, None, FitsSigned}
use Rattle.std.specs.Int.{w32}
use Rattle.nav_types.specs.declared.cells.Rect.{Rect}
use Rattle.nav_types.specs.declared.limits.TheConstants.{MAX_INPUT_BYTES, MAX_LINE_BYTES}
use Rattle.class_config.specs.Forms.{is_class_name}
use Rattle.class_config.specs.Classes.{is_table}
use Rattle.goal_shapes.specs.declared.goals.GoalSpec.{GoalSpec}
use Rattle.goal_shapes.specs.declared.goals.GoalSpec.TheVariants.{Plain, Obstruction as ByObstruction}
use Rattle.posts.specs.declared.posts.Post.{Post}
use Rattle.posts.specs.declared.edits.Edit.TheVariants.{Add, Remove, Move}
use Rattle.posts.specs.declared.posts.Post.TheVariants.{Edit as Edits, Ask as Asks}
use Rattle.posts.specs.declared.posts.Request.TheVariants.{Path, Region}
use Rattle.posts.specs.Maps.{Map, IsMap}
use Rattle.input_lines.specs.Lines.{full_lines}
use Rattle.script_text.specs.Script.{beginning, Item, whole_input, map_after, turns_of, reading}
use Rattle.script_text.specs.Reader.{stuck_after}
use Rattle.script_text.specs.Goals.{goal_decimals}
use Rattle.script_text.specs.Grammar.{shape_decimals}
use Rattle.script_text.specs.Canon.{canon_map, canon_journal, HaveLines}

-- ---- the values of maps and posts

-- fixed-point numbers of 32 bits
abbrev pub AreFixed : List ℤ → Type 0
AreFixed raws = All (λ raw. FitsSigned w32 raw) raws

-- the numbers of a goal
abbrev pub IsGoalValue : GoalSpec → Type 0
IsGoalValue (Plain goal) = AreFixed (goal_decimals goal)
IsGoalValue (ByObstruction id grow) = (id ≤ 4294967295) × FitsSigned w32 grow

-- a post whose numbers fit their types, and whose class has a name
abbrev pub IsPostValue : Post → Type 0
IsPostValue (Edits (Add id o)) = (id ≤ 4294967295) × AreFixed (shape_decimals o.shape) × (o.mask ≤ 65535)
IsPostValue (Edits (Remove id)) = id ≤ 4294967295
IsPostValue (Edits (Move id x z)) = (id ≤ 4294967295) × AreFixed (x ∷ z ∷ [])
IsPostValue (Asks (Path request)) =
    IsTrue (is_class_name request.class) × AreFixed (request.x ∷ request.z ∷ []) × IsGoalValue request.goal
IsPostValue (Asks (Region query)) = IsTrue (is_class_name query.class) × AreFixed (query.x ∷ query.z ∷ [])

-- the posts of a turn, by caller
abbrev pub ArePostValues : List (List Post) → Type 0
ArePostValues turn = All (λ posts. All IsPostValue posts) turn

-- a map within its limits, with classes that a table may have and masks of 16 bits
pub record IsMapValue (m : Map) : Type 0 where
  pub is : IsMap m
  pub classes : IsTrue (is_table m.classes)
  pub masks : All (λ (entry : Rect × ℕ). entry.1 ≤ 65535) m.base

-- turns for a map: each has a list of posts for each caller, and each post has a line in the map's version
pub record AreTurns (m : Map) (turns : List (List (List Post))) : Type 0 where
  pub lists : All (λ turn. length turn ≡ m.callers) turns
  pub lines : All (HaveLines m.version) turns
  pub values : All ArePostValues turns

-- ---- whole scripts

-- the turns from one of this number on
abbrev pub canon_turns : Map → ℕ → List (List (List Post)) → List ℕ
canon_turns m number [] = []
canon_turns m number (turn ∷ others) = canon_journal m number turn ++ canon_turns m (number + 1) others

-- the canonical script of a map and turns
abbrev pub canon_script : Map → List (List (List Post)) → List ℕ
canon_script m turns = canon_map m ++ canon_turns m 1 turns

-- no line is longer than a line may be, and the text is not longer than an input may be
pub record IsWithinLimits (text : List ℕ) : Type 0 where
  pub lines : All (λ line. length line ≤ MAX_LINE_BYTES) (full_lines text)
  pub whole : length text ≤ MAX_INPUT_BYTES

-- the text is a whole input, and gives this map and these turns
pub record ReadsAs (m : Map) (turns : List (List (List Post))) (text : List ℕ) : Type 0 where
  pub items : List Item
  pub whole : reading text beginning ≡ stuck_after items whole_input
  pub says_map : map_after None items ≡ Some m
  pub says_turns : turns_of items ≡ turns
