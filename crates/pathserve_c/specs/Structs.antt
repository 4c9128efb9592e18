-- Matches by structs: posts that wait for the end of their turn, and the replies to the turn that ended last.
use Rattle.std.specs.Prelude.{ℕ, ◌≡◌, ◌+◌, Bool, List, [], ◌++◌, length, nat_le, Result, Ok, Err}
use Rattle.posts.specs.declared.posts.Post.{Post}
use Rattle.posts.specs.declared.replies.TurnReplies.{TurnReplies}
use Rattle.posts.specs.Maps.{Map}
use Rattle.turn_core.specs.Turns.{IsTurnTold}
use Rattle.flat_posts.specs.declared.posted.FlatPost.{FlatPost}
use Rattle.flat_posts.specs.TurnPosts.{ArePosts, turn_of}
use Rattle.match_play.specs.Posted.{PostedState, Kept, standing_in, with_turn}
use Rattle.pathserve_c.specs.declared.statuses.PostFault.{PostFault}
use Rattle.pathserve_c.specs.declared.statuses.PostFault.TheVariants.{BadValue, NoMemory}

-- the match, the posts of the turn, each with its caller, the replies of the turn that ended last, and how many posts may wait
pub record StructState : Type 0 where
  pub game : PostedState
  pub posted : List (ℕ × Post)
  pub told : TurnReplies
  pub most : ℕ

-- so many more posts may wait
abbrev pub has_room : StructState → ℕ → Bool
has_room state count = nat_le (length state.posted + count) state.most

-- no turn has ended, none has posts, and as many may wait as there can be
pub record IsNew (map : Map) (state : StructState) : Type 0 where
  pub map_is : state.game.map ≡ map
  pub journal : state.game.past ≡ Kept []
  pub posted : state.posted ≡ []
  pub told : state.told.replies ≡ []
  pub most : state.most ≡ 18446744073709551615

-- the posts that these flat ones are stand behind those of the turn
pub record TakesPosts (old new : StructState) (flats : List FlatPost) : Type 0 where
  pub entries : List (ℕ × Post)
  pub are : ArePosts old.game.map flats entries
  pub posted : new.posted ≡ old.posted ++ entries
  pub game : new.game ≡ old.game
  pub told : new.told ≡ old.told
  pub most : new.most ≡ old.most

-- all of these flat posts were taken, or none; then, unless there was no memory, one of them is no post of the map
abbrev pub PostsAs : StructState → StructState → List FlatPost → Result (Unit {0}) PostFault → Type 0
PostsAs old new flats (Ok done) = TakesPosts old new flats
PostsAs old new flats (Err BadValue) = (new ≡ old) × ((entries : List (ℕ × Post)) → ¬ ArePosts old.game.map flats entries)
PostsAs old new flats (Err NoMemory) = new ≡ old

-- the turn that waits
abbrev pub turn_in : StructState → List (List Post)
turn_in state = turn_of state.game.map.callers state.posted

-- The turn has ended: it was told what one thread answers to its posts, and the next has none.
pub record Ends (old new : StructState) : Type 0 where
  pub told : IsTurnTold old.game.map (standing_in old.game) (turn_in old) new.told
  pub map_is : new.game.map ≡ old.game.map
  pub past : new.game.past ≡ with_turn old.game.map old.game.past (turn_in old)
  pub posted : new.posted ≡ []
  pub most : new.most ≡ old.most
