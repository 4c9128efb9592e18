-- Turns: what stands after posts, the requests of a turn, and the replies that one thread gives.
use Rattle.std.specs.Prelude.{◌≡◌, List, [], ◌∷◌, map}
use Rattle.posts.specs.declared.posts.Post.{Post}
use Rattle.posts.specs.declared.posts.Post.TheVariants.{Edit as Editing, Ask as Asking}
use Rattle.posts.specs.declared.replies.Answer.{Answer}
use Rattle.posts.specs.declared.replies.Reply.{Reply}
use Rattle.posts.specs.declared.replies.Reply.TheVariants.{Edit as Edited, Answer as Answered}
use Rattle.posts.specs.declared.replies.TurnReplies.{TurnReplies}
use Rattle.posts.specs.Maps.{Map}
use Rattle.grid_versions.specs.Editing.{edit_reply}
use Rattle.turn_core.specs.Solving.{IsAnswerTo}
use Rattle.turn_core.specs.Words.{Standing, bare, edited, TellsNumbers}

-- what stands after posts, one after another
abbrev pub after : Map → Standing → List Post → Standing
after m s [] = s
after m s (post ∷ posts) = after m (edited m s post) posts

-- what stands after a turn: its edits are made caller by caller, and post by post
abbrev pub after_turn : Map → Standing → List (List Post) → Standing
after_turn m s [] = s
after_turn m s (posts ∷ turn) = after_turn m (after m s posts) turn

-- what stands after the turns of a journal, one after another
abbrev pub standing : Map → Standing → List (List (List Post)) → Standing
standing m s [] = s
standing m s (turn ∷ journal) = standing m (after_turn m s turn) journal

-- Where `s` stands before a post and `final` after the edits of its turn, the post gets the reply: an edit gets its
-- own, and a request its answer on what stands in the end.
abbrev pub Gets : Map → Standing → Standing → Post → Reply → Type 0
Gets m final s (Editing edit) reply = reply ≡ Edited (edit_reply m s edit)
Gets m final s (Asking request) reply = (answer : Answer) × ((reply ≡ Answered answer) × IsAnswerTo m final request answer)

-- the replies to the posts of one caller
abbrev pub AreReplies : Map → Standing → Standing → List Post → List Reply → Type 0
AreReplies m final s [] [] = Unit {0}
AreReplies m final s (post ∷ posts) (reply ∷ replies) =
    Gets m final s post reply × AreReplies m final (edited m s post) posts replies
AreReplies m final s _ _ = ⊥

-- the replies to the posts of a turn, caller by caller
abbrev pub AreTurnReplies : Map → Standing → Standing → List (List Post) → List (List Reply) → Type 0
AreTurnReplies m final s [] [] = Unit {0}
AreTurnReplies m final s (posts ∷ turn) (replies ∷ rest) =
    AreReplies m final s posts replies × AreTurnReplies m final (after m s posts) turn rest
AreTurnReplies m final s _ _ = ⊥

-- the replies that one thread gives to a journal, turn by turn and caller by caller, from what stands before it
abbrev pub OneThread : Map → Standing → List (List (List Post)) → List (List (List Reply)) → Type 0
OneThread m s [] [] = Unit {0}
OneThread m s (turn ∷ journal) (replies ∷ all) =
    AreTurnReplies m (after_turn m s turn) s turn replies × OneThread m (after_turn m s turn) journal all
OneThread m s _ _ = ⊥

-- the numbers that go with the replies to each turn of a journal
abbrev pub TellNumbers : Map → Standing → List (List (List Post)) → List TurnReplies → Type 0
TellNumbers m s [] [] = Unit {0}
TellNumbers m s (turn ∷ journal) (told ∷ all) =
    TellsNumbers m s (after_turn m s turn) told × TellNumbers m (after_turn m s turn) journal all
TellNumbers m s _ _ = ⊥

-- the answer to a turn before which `s` stands: the replies of one thread, with the turn's numbers
pub record IsTurnTold (m : Map) (s : Standing) (turn : List (List Post)) (told : TurnReplies) : Type 0 where
  pub replies : AreTurnReplies m (after_turn m s turn) s turn told.replies
  pub numbers : TellsNumbers m s (after_turn m s turn) told

-- what is replied to each caller in each turn
abbrev pub replies_in : List TurnReplies → List (List (List Reply))
replies_in all = map (λ told. told.replies) all

-- the answer to a journal on a map where nothing stands yet: the replies of one thread, with the numbers of each turn
pub record IsOneThread (m : Map) (journal : List (List (List Post))) (all : List TurnReplies) : Type 0 where
  pub replies : OneThread m bare journal (replies_in all)
  pub numbers : TellNumbers m bare journal all
