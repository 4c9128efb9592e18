-- Turns whose edits are made.
use Rattle.std.specs.Prelude.{List}
use Rattle.posts.specs.declared.posts.Post.{Post}
use Rattle.posts.specs.Maps.{Map}
use Rattle.turn_core.specs.Words.{Standing}
use Rattle.turn_core.specs.Turns.{after_turn}

-- a turn on a map, and what stands before it
pub record Ready : Type 0 where
  pub map : Map
  pub before : Standing
  pub turn : List (List Post)

-- what stands after its edits
abbrev pub after_edits_of : Ready → Standing
after_edits_of ready = after_turn ready.map ready.before ready.turn
