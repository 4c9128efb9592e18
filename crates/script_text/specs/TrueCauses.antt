-- What a cause says of the line that it is told of, in the words of the grammar.
use Rattle.std.specs.Prelude.{◌≡◌, ◌≢◌, ◌⊎◌, ℕ, ⊤, Option, List, [], ◌∷◌, All, nat_le, if◌then◌else◌, Some, None, IsSome, IsTrue, codes}
use Rattle.serde_json.specs.Data.{Data}
use Rattle.serde_json.specs.Find.{get}
use Rattle.script_text.specs.declared.causes.Cause.{Cause}
use Rattle.script_text.specs.declared.causes.Cause.TheVariants.{BlankLine, ByteOrderMark, TooDeep, NotUtf8, NoJsonAt, EndsInString, EndsInValue, NumberTooLarge, NotJson, UnknownKey, MissingKey, SurplusKey, ArrayLine, NoSuchForm, WrongValue, WrongRectangle, MissingMask, LaterVersion, NotHere, EndsInsideTurn, NoLine}
use Rattle.script_text.specs.declared.causes.keys.Key.{Key}
use Rattle.script_text.specs.Grammar.{IsObject, map_keys, base_keys, end_keys, add_keys, remove_keys, move_keys, path_keys, region_keys}
use Rattle.script_text.specs.Table.{key_text, line_keys}
use Rattle.script_text.specs.Causes.{IsWrongIn, IsWrongRectangle, is_array}

-- one of these lists of keys is that of the value: it is an object with exactly these keys
abbrev pub HasOneOf : List (List (List ℕ)) → Data → Type 0
HasOneOf [] d = ⊥
HasOneOf (keys ∷ others) d = ((values : List Data) × IsObject keys values d) ⊎ HasOneOf others d

-- the keys of a path line and of a region line, and from version 3 on those of a move line
abbrev pub newer_keys : ℕ → List (List (List ℕ))
newer_keys version =
    let asks = path_keys ∷ region_keys ∷ [] in
    if nat_le 3 version then move_keys ∷ asks else asks

-- the keys of an add line of each shape
abbrev pub both_adds : ℕ → List (List (List ℕ))
both_adds version = add_keys version (codes "unit") ∷ add_keys version (codes "square") ∷ []

-- the keys of each form of a script of this version
abbrev pub keys_of_forms : ℕ → List (List (List ℕ))
keys_of_forms version = map_keys ∷ base_keys ∷ end_keys ∷ add_keys version (codes "unit") ∷ add_keys version (codes "square") ∷ remove_keys
    ∷ newer_keys version

-- the keys of the value are those of a form of this version
abbrev pub HasForm : ℕ → Data → Type 0
HasForm version d = HasOneOf (keys_of_forms version) d

-- the keys of the value are those of no form in any version
abbrev pub HasNoForm : Data → Type 0
HasNoForm d = (version : ℕ) → HasForm version d → ⊥

-- a goal by obstruction stands under a key of the line
pub record HasGrownGoal (d : Data) : Type 0 where
  pub key : List ℕ
  pub goal : Data
  pub under : get key d ≡ Some goal
  pub keys : HasOneOf ((codes "obstruction" ∷ []) ∷ []) goal

-- What a cause says of a value. Of a later version: a form of that version has its keys, or it is the third, and a goal
-- by obstruction stands in the line.
abbrev pub IsTrueOf : Data → Cause → Type 0
IsTrueOf d BlankLine = ⊥
IsTrueOf d ByteOrderMark = ⊥
IsTrueOf d TooDeep = ⊥
IsTrueOf d (NotUtf8 place) = ⊥
IsTrueOf d (NoJsonAt place mistake) = ⊥
IsTrueOf d EndsInString = ⊥
IsTrueOf d EndsInValue = ⊥
IsTrueOf d (NumberTooLarge place) = ⊥
IsTrueOf d NotJson = ⊥
IsTrueOf d (UnknownKey name) = HasNoForm d × (((value : Data) × (get name d ≡ Some value)) × All (λ (key : Key). name ≢ key_text key) line_keys)
IsTrueOf d (MissingKey key) = HasNoForm d × (get (key_text key) d ≡ None)
IsTrueOf d (SurplusKey key) = HasNoForm d × IsSome (get (key_text key) d)
IsTrueOf d ArrayLine = HasNoForm d × IsTrue (is_array d)
IsTrueOf d NoSuchForm = HasNoForm d
IsTrueOf d (WrongValue key wanted) = IsWrongIn key wanted d
IsTrueOf d (WrongRectangle number size) = IsWrongRectangle number size d
IsTrueOf d MissingMask = HasOneOf (both_adds 1) d
IsTrueOf d (LaterVersion version) = HasForm version d ⊎ ((version ≡ 3) × HasGrownGoal d)
IsTrueOf d NotHere = (version : ℕ) × HasForm version d
IsTrueOf d EndsInsideTurn = ⊥
IsTrueOf d NoLine = ⊥

-- a cause of a value with the keys of no form
abbrev pub IsStrange : Option Cause → Type 0
IsStrange (Some (UnknownKey name)) = ⊤
IsStrange (Some (MissingKey key)) = ⊤
IsStrange (Some (SurplusKey key)) = ⊤
IsStrange (Some ArrayLine) = ⊤
IsStrange (Some NoSuchForm) = ⊤
IsStrange found = ⊥
