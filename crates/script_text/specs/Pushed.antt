-- What a script gives whose bytes are pushed, piece by piece.
use Rattle.std.specs.Prelude.{ℕ, ◌≡◌, List, [], ◌∷◌, ◌++◌, length, All, Bool, true, false, Option, Some, None, Result, Ok, Err, ⊤}
use Rattle.nav_types.specs.declared.cells.Rect.{Rect}
use Rattle.nav_types.specs.Cells.{IsRectInside}
use Rattle.input_lines.specs.Lines.{full_lines}
use Rattle.script_text.specs.declared.faults.ScriptFault.{ScriptFault}
use Rattle.script_text.specs.declared.faults.ScriptFault.TheVariants.{BadLine, TooLong, ReadFault, NoMemory}
use Rattle.script_text.specs.declared.items.ScriptItem.{ScriptItem}
use Rattle.script_text.specs.declared.items.ScriptItem.TheVariants.{Map, Base, Turn}
use Rattle.script_text.specs.declared.parts.Rules.{Rules}
use Rattle.script_text.specs.Canon.{HaveLines}
use Rattle.script_text.specs.Causes.{stop_cause}
use Rattle.script_text.specs.Script.{Place, Item, begins, adds_base, ends_turn, whole_input, too_long, bad_line, rules_of, arrived, stuck, chain, walk, finish, reading}
use Rattle.script_text.specs.Reader.{Held, GoesOn, StopsAtBad, held_cause}

-- what a line gave, as a walk over lines names it
abbrev pub item_of : ScriptItem → Item
item_of (Map m) = begins m
item_of (Base rects) = adds_base rects
item_of (Turn posts) = ends_turn posts

-- ---- bytes that are pushed

-- What an answer says of an input: `before` and `after` are what comes of it from the piece on, and from what is left of the
-- piece on. Where there was no memory, lines may have been used that give nothing.
abbrev pub PushAnswers : Held → Held → Result (Option ScriptItem) ScriptFault → List ℕ → List ℕ → Type 0
PushAnswers old new (Ok (Some item)) before after = GoesOn old new before after (item_of item ∷ [])
PushAnswers old new (Ok None) before after = GoesOn old new before after []
PushAnswers old new (Err (BadLine n)) before after = StopsAtBad old new before [] n
PushAnswers old new (Err (TooLong n)) before after = reading (old.bytes ++ before) old.place ≡ stuck (too_long n)
PushAnswers old new (Err ReadFault) before after = ⊥
PushAnswers old new (Err NoMemory) before after = GoesOn old new before after []

-- the same of a piece, whatever comes behind it
abbrev pub PushTold : Held → Held → List ℕ → List ℕ → Result (Option ScriptItem) ScriptFault → Type 0
PushTold old new piece left result = (more : List ℕ) → PushAnswers old new result (piece ++ more) (left ++ more)

-- The piece was taken up to a newline. The lines before that which it ends give nothing, and nothing behind it is held.
pub record EndsLine (old new : Held) (piece left : List ℕ) : Type 0 where
  pub short : List ℕ
  pub took : old.bytes ++ piece ≡ short ++ 10 ∷ left
  pub place : Place
  pub quiet : walk (full_lines short) old.place ≡ arrived [] place
  pub nothing : new.bytes ≡ []

-- How far the piece was taken: no further than the first line that gives something; and to its end where none does, and then
-- no whole line is held.
abbrev pub TakenUpTo : Held → Held → List ℕ → List ℕ → Result (Option ScriptItem) ScriptFault → Type 0
TakenUpTo old new piece left (Ok (Some item)) = EndsLine old new piece left
TakenUpTo old new piece left (Ok None) = (left ≡ []) × (full_lines new.bytes ≡ [])
TakenUpTo old new piece left (Err fault) = ⊤

-- ---- what items keep to

-- what the lines behind the map line keep to, before an item and after it
abbrev pub KeepsTo : Option Rules → Option Rules → ScriptItem → Type 0
KeepsTo None now (Map m) = now ≡ Some (rules_of m)
KeepsTo None now (Base rects) = ⊥
KeepsTo None now (Turn posts) = ⊥
KeepsTo (Some rules) now (Map m) = ⊥
KeepsTo (Some rules) now (Base rects) = (now ≡ Some rules) × All (λ (entry : Rect × ℕ). IsRectInside rules.size entry.0) rects
KeepsTo (Some rules) now (Turn posts) = (now ≡ Some rules) × ((length posts ≡ rules.callers) × HaveLines rules.version posts)

-- The map comes first, and gives the rules. Base rectangles lie inside the map. A turn has a list of posts for each caller,
-- and each post has a line in the script's version.
abbrev pub KeepsRules : Option Rules → Option Rules → Result (Option ScriptItem) ScriptFault → Type 0
KeepsRules old now (Ok (Some item)) = KeepsTo old now item
KeepsRules old now (Ok None) = now ≡ old
KeepsRules old now (Err NoMemory) = now ≡ old
KeepsRules old now (Err (TooLong n)) = ⊤
KeepsRules old now (Err ReadFault) = ⊤
KeepsRules old now (Err (BadLine n)) = ⊤

-- ---- the end

-- what was held is the last line, which gives this item, and the input ends behind it
pub record EndsWith (old new : Held) (item : Item) : Type 0 where
  pub same : reading old.bytes old.place ≡ chain (arrived (item ∷ []) new.place) finish
  pub cause : stop_cause old.bytes old.place ≡ held_cause new
  pub nothing : new.bytes ≡ []

-- the input stops at the line of this number, and the cause is that of what is held
pub record EndsBad (old new : Held) (n : ℕ) : Type 0 where
  pub stuck : reading old.bytes old.place ≡ stuck (bad_line n)
  pub cause : stop_cause old.bytes old.place ≡ held_cause new

-- what an answer says of an input that ends with what is held; one that is whole leaves nothing held
abbrev pub EndTold : Held → Held → Result (Option ScriptItem) ScriptFault → Type 0
EndTold old new (Ok (Some item)) = EndsWith old new (item_of item)
EndTold old new (Ok None) = (reading old.bytes old.place ≡ stuck whole_input) × (new.bytes ≡ [])
EndTold old new (Err (BadLine n)) = EndsBad old new n
EndTold old new (Err (TooLong n)) = reading old.bytes old.place ≡ stuck (too_long n)
EndTold old new (Err ReadFault) = ⊥
EndTold old new (Err NoMemory) = (new.place ≡ old.place) × (new.bytes ≡ old.bytes)

-- no call follows a refusal, but that for want of memory
abbrev pub is_refused : Result (Option ScriptItem) ScriptFault → Bool
is_refused (Ok next) = false
is_refused (Err (BadLine n)) = true
is_refused (Err (TooLong n)) = true
is_refused (Err ReadFault) = true
is_refused (Err NoMemory) = false
