-- Where lines lead, whatever they give.
use Rattle.std.specs.Prelude.{ℕ, ◌+◌, ◌≤◌, List, [], ◌∷◌, length, IsSome, Option, Some, None, Result, Ok, Err, ⊤}
use Rattle.posts.specs.Posts.{post_count}
use Rattle.script_text.specs.declared.faults.ScriptFault.{ScriptFault}
use Rattle.script_text.specs.declared.items.ScriptItem.{ScriptItem}
use Rattle.script_text.specs.Pushed.{item_of}
use Rattle.script_text.specs.Reader.{rules_at}
use Rattle.script_text.specs.Script.{Item, begins, adds_base, ends_turn, Place}
use Rattle.script_text.specs.inner.Judging.{IsInTurns}

-- each of the items is a turn
abbrev pub AreTurns : List Item → Type 0
AreTurns [] = ⊤
AreTurns (begins m ∷ items) = ⊥
AreTurns (adds_base rects ∷ items) = ⊥
AreTurns (ends_turn posts ∷ items) = AreTurns items

-- one of the items is a turn
abbrev pub HasTurn : List Item → Type 0
HasTurn [] = ⊥
HasTurn (begins m ∷ items) = HasTurn items
HasTurn (adds_base rects ∷ items) = HasTurn items
HasTurn (ends_turn posts ∷ items) = ⊤

-- how many posts the items have
abbrev pub posts_in : List Item → ℕ
posts_in [] = 0
posts_in (begins m ∷ items) = posts_in items
posts_in (adds_base rects ∷ items) = posts_in items
posts_in (ends_turn posts ∷ items) = post_count posts + posts_in items

-- Lines led from a place to a place and gave these items: turns stay turns, each item took a byte, and so did each post.
pub record Led (p : Place) (items : List Item) (q : Place) : Type 0 where
  pub turns : IsInTurns p.part → IsInTurns q.part × AreTurns items
  pub begun : HasTurn items → IsInTurns q.part
  pub bytes : length items + p.bytes ≤ q.bytes
  pub posts : posts_in items + post_count q.posts + (length items + p.bytes) ≤ post_count p.posts + q.bytes

-- where an answer leads: the lines led there and gave its item; an input that is whole had its map before
abbrev pub LedBy : Place → Place → Result (Option ScriptItem) ScriptFault → Type 0
LedBy p q (Ok (Some item)) = Led p (item_of item ∷ []) q
LedBy p q (Ok None) = IsSome (rules_at p.part)
LedBy p q (Err fault) = ⊤
