-- Whole scripts, in the grammar's words: the map line, then base lines, then turn after turn the post lines and the end
-- line. Where a line stands in the text is left out: a script here is the list of its lines' JSON values.
use Rattle.std.specs.Prelude.{ℕ, ◌≡◌, ◌+◌, ◌≤◌, List, [], ◌∷◌, ◌++◌, length, All, Some}
use Rattle.serde_json.specs.Data.{Data}
use Rattle.nav_types.specs.declared.cells.Rect.{Rect}
use Rattle.nav_types.specs.declared.limits.TheConstants.{MAX_INPUT_BYTES, MAX_LINE_BYTES}
use Rattle.posts.specs.declared.posts.Post.{Post}
use Rattle.input_lines.specs.Lines.{full_lines, tail_of}
use Rattle.posts.specs.Maps.{Map, with_base}
use Rattle.script_text.specs.declared.forms.CallerPost.{CallerPost}
use Rattle.script_text.specs.Grammar.{IsMapLine, IsBaseLine, IsPostLine, IsEndLine}
use Rattle.script_text.specs.Script.{no_posts, with_post, reading_of}

-- base lines, from a map on: each adds its rectangles
abbrev pub AreBaseLines : Map → Map → List Data → Type 0
AreBaseLines m whole [] = whole ≡ m
AreBaseLines m whole (d ∷ ds) = (rects : List (Rect × ℕ)) × (IsBaseLine m.size rects d × AreBaseLines (with_base m rects) whole ds)

-- The lines of the turn of a number, before which the callers have these posts in it: post lines, each of which adds to
-- its caller's, and then the end line, which has the turn's number.
abbrev pub AreTurnLines : Map → ℕ → List (List Post) → List (List Post) → List Data → Type 0
AreTurnLines m number posts turn [] = ⊥
AreTurnLines m number posts turn (d ∷ []) = IsEndLine number d × (turn ≡ posts)
AreTurnLines m number posts turn (d ∷ ds) = (said : CallerPost)
    × (IsPostLine m.version m.callers said.caller said.post d × AreTurnLines m number (with_post posts said) turn ds)

-- the lines of turns, from one of this number on
abbrev pub AreTurnsLines : Map → ℕ → List (List (List Post)) → List Data → Type 0
AreTurnsLines m number [] ds = ds ≡ []
AreTurnsLines m number (turn ∷ turns) ds = (front : List Data) × ((back : List Data) × ((ds ≡ front ++ back)
    × (AreTurnLines m number (no_posts m.callers) turn front × AreTurnsLines m (number + 1) turns back)))

-- the lines of a script that says this map and these turns
pub record IsScript (m : Map) (turns : List (List (List Post))) (ds : List Data) : Type 0 where
  pub first : Data
  pub base : List Data
  pub rest : List Data
  pub lines : ds ≡ first ∷ base ++ rest
  pub bare : Map
  pub map : IsMapLine bare first
  pub rectangles : AreBaseLines bare m base
  pub posts : AreTurnsLines m 1 turns rest

-- the values of lines of text, each of which is one JSON value in UTF-8
abbrev pub AreValues : List (List ℕ) → List Data → Type 0
AreValues [] [] = Unit {0}
AreValues [] (d ∷ ds) = ⊥
AreValues (line ∷ lines) [] = ⊥
AreValues (line ∷ lines) (d ∷ ds) = (reading_of line ≡ Some d) × AreValues lines ds

-- the last line may end with the input, if it has a byte
abbrev pub last_one : List ℕ → List (List ℕ)
last_one [] = []
last_one (byte ∷ bytes) = (byte ∷ bytes) ∷ []

-- the lines of an input
abbrev pub lines_of : List ℕ → List (List ℕ)
lines_of bytes = full_lines bytes ++ last_one (tail_of bytes)

-- no line is longer than a line may be, and the input is not longer than one may be
pub record AreShort (bytes : List ℕ) : Type 0 where
  pub lines : All (λ line. length line ≤ MAX_LINE_BYTES) (lines_of bytes)
  pub whole : length bytes ≤ MAX_INPUT_BYTES

-- a text whose lines are a script that says this map and these turns
pub record IsScriptText (m : Map) (turns : List (List (List Post))) (lines : List (List ℕ)) : Type 0 where
  pub values : List Data
  pub are : AreValues lines values
  pub script : IsScript m turns values

-- the lines are the first of some script: lines can be added to them, or none, so that they are one
abbrev pub BeginScript : List (List ℕ) → Type 0
BeginScript lines = (m : Map) × ((turns : List (List (List Post))) × ((more : List (List ℕ)) × IsScriptText m turns (lines ++ more)))
