-- A match that goes on from what stands: its map, and one turn of adds.
use Rattle.std.specs.Prelude.{ℕ, zero, suc, List, [], ◌∷◌, map}
use Rattle.std.specs.FinMap as fin_map
use Rattle.obstruction_shapes.specs.declared.shapes.Obstruction.{Obstruction}
use Rattle.obstruction_store.specs.Standing.{Standing}
use Rattle.posts.specs.declared.edits.Edit.TheVariants.{Add}
use Rattle.posts.specs.declared.posts.Post.{Post}
use Rattle.posts.specs.declared.posts.Post.TheVariants.{Edit as Edits}
use Rattle.posts.specs.Maps.{Map}
use Rattle.script_text.specs.ReadsBack.{canon_script}
use Rattle.script_text.specs.Script.{no_posts}
use Rattle.turn_core.specs.Words.{MapState}
use Rattle.match_play.specs.Posted.{PostedState, Kept, standing_in, turns_of}

-- an add of an obstruction under its number
abbrev pub add_of : ℕ × Obstruction → Post
add_of entry = Edits (Add entry.0 entry.1)

-- the adds of all that stands, in the order of the numbers
abbrev pub adds_of : Standing → List Post
adds_of standing = map add_of (fin_map.entries standing)

-- the turn in which the first of so many callers adds all that stands, and nobody else posts
abbrev pub turn_by_first : ℕ → List Post → List (List Post)
turn_by_first zero posts = []
turn_by_first (suc others) posts = posts ∷ no_posts others

-- the journal that brings a map to what stands: one turn of adds
abbrev pub saved : Map → Standing → List (List (List Post))
saved m standing = turn_by_first m.callers (adds_of standing) ∷ []

-- the same map, in the newest version of a script, which has lines for all posts
abbrev pub in_newest : Map → Map
in_newest m = record m { version = 3 }

-- the script that opens what stands on a map again: the map, and one turn of adds
abbrev pub snapshot_of : MapState → List ℕ
snapshot_of version = canon_script (in_newest version.map) (saved version.map version.standing)

-- the journal that begins anew, where so many turns have ended: one turn of adds in place of them, if there is any
abbrev pub begun_anew : Map → Standing → ℕ → List (List (List Post))
begun_anew m standing zero = []
begun_anew m standing (suc turns) = saved m standing

-- the match has forgotten how what stands came to stand, and keeps a journal from then on
abbrev pub forgetting : PostedState → PostedState
forgetting game = record game { past = Kept (begun_anew game.map (standing_in game) (turns_of game.past)) }
