-- The replies to the posts of a turn, where its jobs get given answers.
use Rattle.std.specs.Prelude.{List, [], ◌∷◌, drop, length}
use Rattle.posts.specs.declared.posts.Post.{Post}
use Rattle.posts.specs.declared.posts.Post.TheVariants.{Edit as Editing, Ask as Asking}
use Rattle.posts.specs.declared.replies.Answer.{Answer}
use Rattle.posts.specs.declared.replies.Answer.TheVariants.{Nowhere}
use Rattle.posts.specs.declared.replies.Reply.{Reply}
use Rattle.posts.specs.declared.replies.Reply.TheVariants.{Edit as Edited, Answer as Answered}
use Rattle.posts.specs.Maps.{Map}
use Rattle.posts.specs.Posts.{requests}
use Rattle.grid_versions.specs.Editing.{edit_reply}
use Rattle.turn_core.specs.Words.{Standing, edited}
use Rattle.turn_core.specs.Turns.{after}

-- the first answer
abbrev pub first_answer : List Answer → Answer
first_answer [] = Nowhere
first_answer (answer ∷ answers) = answer

-- the replies to the posts of one caller: an edit gets its own, and each request the next of the answers
abbrev pub given : Map → Standing → List Post → List Answer → List Reply
given m s [] answers = []
given m s (Editing edit ∷ posts) answers = Edited (edit_reply m s edit) ∷ given m (edited m s (Editing edit)) posts answers
given m s (Asking request ∷ posts) answers = Answered (first_answer answers) ∷ given m (edited m s (Asking request)) posts (drop 1 answers)

-- the replies to the posts of a turn, caller by caller, where its jobs get these answers
abbrev pub given_turn : Map → Standing → List (List Post) → List Answer → List (List Reply)
given_turn m s [] answers = []
given_turn m s (posts ∷ turn) answers =
    given m s posts answers ∷ given_turn m (after m s posts) turn (drop (length (requests posts)) answers)
