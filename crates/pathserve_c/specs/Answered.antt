-- The answers to flat posts on a version, by one who keeps the room of the searches.
use Rattle.std.specs.Prelude.{ℕ, ◌≡◌, List}
use Rattle.std.specs.List.{AllZip}
use Rattle.posts.specs.declared.posts.Post.TheVariants.{Ask}
use Rattle.posts.specs.declared.posts.Request.{Request}
use Rattle.posts.specs.declared.replies.Answer.{Answer}
use Rattle.posts.specs.declared.replies.Reply.{Reply}
use Rattle.posts.specs.declared.replies.Reply.TheVariants.{Answer as Answered}
use Rattle.posts.specs.Maps.{Map}
use Rattle.grid_versions.specs.Versions.{MapState}
use Rattle.turn_core.specs.Solving.{IsAnswerTo}
use Rattle.flat_posts.specs.declared.posted.FlatPost.{FlatPost}
use Rattle.flat_posts.specs.Posts.{IsPost}

-- nothing is known of the room that a finder keeps, since no answer depends on it
abbrev pub Room : Type 0
Room = Unit {0}

-- a flat post is a request of a caller of the map
abbrev pub IsRequest : Map → FlatPost → Type 0
IsRequest map flat = (caller : ℕ) × ((request : Request) × IsPost map flat caller (Ask request))

-- The flat post is a request of a caller of the map, and the reply is its answer on what stands.
pub record IsAnswered (version : MapState) (flat : FlatPost) (reply : Reply) : Type 0 where
  pub caller : ℕ
  pub request : Request
  pub answer : Answer
  pub asks : IsPost version.map flat caller (Ask request)
  pub answers : IsAnswerTo version.map version.standing request answer
  pub told : reply ≡ Answered answer

-- one reply to each of some posts, in their order
abbrev pub AreAnswered : MapState → List FlatPost → List Reply → Type 0
AreAnswered version flats replies = AllZip (IsAnswered version) flats replies
