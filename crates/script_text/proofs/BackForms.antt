-- What it means that a canonical line reads back.
use Rattle.std.specs.Prelude.{◌≡◌, Some}
use Rattle.serde_json.specs.Data.{Data}
use Rattle.serde_json.specs.Written.{compact_text}
use Rattle.script_text.specs.Script.{reading_of}
use Rattle.input_lines.specs.Lines.{IsPlain}

-- the text of the value has no newline, and its reading says this
pub record ReadsTo (d : Data) (Says : Data → Type 0) : Type 0 where
  pub plain : IsPlain (compact_text d)
  pub value : Data
  pub reads : reading_of (compact_text d) ≡ Some value
  pub says : Says value
