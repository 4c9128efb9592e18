-- The replies to a turn whose jobs get answers are those of one thread.
use Rattle.std.proofs.Common.{List, [], ◌∷◌, ◌++◌, length, drop, refl}
use Rattle.posts.specs.declared.posts.Post.{Post}
use Rattle.posts.specs.declared.posts.Post.TheVariants.{Edit as Editing, Ask as Asking}
use Rattle.posts.specs.declared.posts.Request.{Request}
use Rattle.posts.specs.declared.replies.Answer.{Answer}
use Rattle.posts.specs.Maps.{Map}
use Rattle.posts.specs.Posts.{requests, jobs}
use Rattle.turn_core.specs.Solving.{AreAnswersTo}
use Rattle.turn_core.specs.Words.{Standing, edited}
use Rattle.turn_core.specs.Turns.{after, AreReplies, AreTurnReplies}
use Rattle.turn_core.specs.Given.{given, given_turn}

-- the replies to the posts of one caller, and the answers that are left
pub given_are : (m : Map) (final s : Standing) (ps : List Post) (qs : List Request) (rs : List Answer) → AreAnswersTo m final (requests ps ++ qs) rs
    → AreReplies m final s ps (given m s ps rs) × AreAnswersTo m final qs (drop (length (requests ps)) rs)
given_are m final s [] qs rs x = (tt, x)
given_are m final s (Editing e ∷ ps) qs rs x =
    let r = given_are m final (edited m s (Editing e)) ps qs rs x in
    ((refl, r.0), r.1)
given_are m final s (Asking q ∷ ps) qs [] x = absurd x
given_are m final s (Asking q ∷ ps) qs (a ∷ rs) x =
    let r = given_are m final (edited m s (Asking q)) ps qs rs x.1 in
    (((a, (refl, x.0)), r.0), r.1)

-- the replies to the posts of a turn
pub given_turn_are : (m : Map) (final s : Standing) (turn : List (List Post)) (rs : List Answer) → AreAnswersTo m final (jobs turn) rs → AreTurnReplies m final s turn (given_turn m s turn rs)
given_turn_are m final s [] rs x = tt
given_turn_are m final s (ps ∷ turn) rs x =
    let r = given_are m final s ps (jobs turn) rs x in
    (r.0, given_turn_are m final (after m s ps) turn (drop (length (requests ps)) rs) r.1)
