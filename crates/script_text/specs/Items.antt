-- What a script gives that is read from a source, item by item.
use Rattle.std.specs.Prelude.{ℕ, ◌≡◌, ◌<◌, ◌^◌, List, [], ◌∷◌, IsTrue, Option, Some, None, Result, Ok, Err, ⊤}
use Rattle.posts.specs.Posts.{post_count}
use Rattle.input_lines.specs.Held.{WhereTold}
use Rattle.script_text.specs.declared.faults.ScriptFault.{ScriptFault}
use Rattle.script_text.specs.declared.items.ScriptItem.{ScriptItem}
use Rattle.script_text.specs.declared.items.ScriptItem.TheVariants.{Map, Base, Turn}
use Rattle.script_text.specs.Reader.{Held, GoesOn, IsRead, Refuses}
use Rattle.script_text.specs.Pushed.{item_of}

-- what an answer with an item, or without, says of an input that tells its bytes
abbrev pub ItemAnswers : Held → Held → Result (Option ScriptItem) ScriptFault → List ℕ → List ℕ → Type 0
ItemAnswers old new (Ok (Some item)) before after = GoesOn old new before after (item_of item ∷ [])
ItemAnswers old new (Ok None) before after = IsRead old before after
ItemAnswers old new (Err fault) before after = Refuses old new before after [] fault

-- the same for any source, where it tells its bytes; a reader that has met the end finds nothing left
abbrev pub ItemTold : Held → Held → Option (List ℕ) → Option (List ℕ) → Result (Option ScriptItem) ScriptFault → Type 0
ItemTold old new left later result = WhereTold left later (λ before after. (IsTrue old.ended → before ≡ []) → ItemAnswers old new result before after)

-- the posts of a turn can be counted in 32 bits
abbrev pub HasFewPosts : ScriptItem → Type 0
HasFewPosts (Map m) = ⊤
HasFewPosts (Base rects) = ⊤
HasFewPosts (Turn posts) = post_count posts < 2 ^ 32
