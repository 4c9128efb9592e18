-- Each turn and each journal has its replies and its numbers.
use Rattle.std.proofs.Common.{List, [], ◌∷◌, length, refl}
use Rattle.posts.specs.declared.posts.Post.{Post}
use Rattle.posts.specs.declared.posts.Post.TheVariants.{Edit as Editing, Ask as Asking}
use Rattle.posts.specs.declared.posts.Request.{Request}
use Rattle.posts.specs.declared.replies.Answer.{Answer}
use Rattle.posts.specs.declared.replies.Reply.{Reply}
use Rattle.posts.specs.declared.replies.Reply.TheVariants.{Edit as Edited, Answer as Answered}
use Rattle.posts.specs.declared.replies.TurnReplies.{TurnReplies}
use Rattle.posts.specs.Maps.{Map}
use Rattle.grid_versions.specs.Passing.{passable_at}
use Rattle.grid_versions.specs.Editing.{edit_reply}
use Rattle.turn_core.specs.Words.{Standing, bare, edited, TellsNumbers}
use Rattle.turn_core.specs.Turns.{after, after_turn, AreReplies, AreTurnReplies, OneThread, TellNumbers, IsTurnTold, replies_in, IsOneThread}
use Rattle.turn_core.specs.Solving.{AreAnswersTo}
use Rattle.answer_laws.proofs.Listing.{cells_of}
use Rattle.answer_laws.proofs.Requests.{has_all, answer_to}
use Rattle.answer_laws.proofs.Tallying.{tallies, relabelled}

pub answers_to : (m : Map) (standing : Standing) (requests : List Request) → (answers : List Answer) × AreAnswersTo m standing requests answers
answers_to m standing [] = ([], tt)
answers_to m standing (request ∷ requests) =
    let first = answer_to m standing request in
    let rest = answers_to m standing requests in
    (first.0 ∷ rest.0, (first.1, rest.1))

replies_to : (m : Map) (final s : Standing) (posts : List Post) → (replies : List Reply) × AreReplies m final s posts replies
replies_to m final s [] = ([], tt)
replies_to m final s (Editing edit ∷ posts) =
    let rest = replies_to m final (edited m s (Editing edit)) posts in
    (Edited (edit_reply m s edit) ∷ rest.0, (refl, rest.1))
replies_to m final s (Asking request ∷ posts) =
    let first = answer_to m final request in
    let rest = replies_to m final (edited m s (Asking request)) posts in
    (Answered first.0 ∷ rest.0, ((first.0, (refl, first.1)), rest.1))

turn_replies : (m : Map) (final s : Standing) (turn : List (List Post)) → (replies : List (List Reply)) × AreTurnReplies m final s turn replies
turn_replies m final s [] = ([], tt)
turn_replies m final s (posts ∷ turn) =
    let first = replies_to m final s posts in
    let rest = turn_replies m final (after m s posts) turn in
    (first.0 ∷ rest.0, (first.1, rest.1))

-- the replies to a turn with its numbers
record Told (m : Map) (s : Standing) (turn : List (List Post)) : Type 0 where
  told : TurnReplies
  replies : AreTurnReplies m (after_turn m s turn) s turn told.replies
  numbers : TellsNumbers m s (after_turn m s turn) told

told_with : (m : Map) (s : Standing) (turn : List (List Post)) → Told m s turn
unfolding TellsNumbers
told_with m s turn =
    let final : Standing = after_turn m s turn in
    let replies = turn_replies m final s turn in
    let cells = cells_of m.size in
    let some = tallies (length m.classes) cells (passable_at m final) (has_all m final) in
    let changed = relabelled (length m.classes) cells (passable_at m s) (passable_at m final) (has_all m s) (has_all m final) in
    record {
      told = record {
        tallies = record { regions = some.0; edges = some.1.0; areas = some.1.1.0 };
        relabelled = changed.0;
        replies = replies.0;
      };
      replies = replies.1;
      numbers = (some.1.1.1, changed.1);
    }

pub numbers_of : (m : Map) (before now : Standing) → (told : TurnReplies) × TellsNumbers m before now told
unfolding TellsNumbers
numbers_of m before now =
    let cells = cells_of m.size in
    let some = tallies (length m.classes) cells (passable_at m now) (has_all m now) in
    let changed = relabelled (length m.classes) cells (passable_at m before) (passable_at m now) (has_all m before) (has_all m now) in (
      record { tallies = record { regions = some.0; edges = some.1.0; areas = some.1.1.0 }; relabelled = changed.0; replies = [] },
      (some.1.1.1, changed.1),
    )

pub turn_told : (m : Map) (s : Standing) (turn : List (List Post)) → (told : TurnReplies) × IsTurnTold m s turn told
turn_told m s turn = let made = told_with m s turn in (made.told, record { replies = made.replies; numbers = made.numbers })

-- the replies to the turns of a journal with their numbers
record AllTold (m : Map) (s : Standing) (journal : List (List (List Post))) : Type 0 where
  all : List TurnReplies
  replies : OneThread m s journal (replies_in all)
  numbers : TellNumbers m s journal all

all_told : (m : Map) (s : Standing) (journal : List (List (List Post))) → AllTold m s journal
all_told m s [] = record { all = []; replies = tt; numbers = tt }
all_told m s (turn ∷ journal) =
    let first = told_with m s turn in
    let rest = all_told m (after_turn m s turn) journal in
    record { all = first.told ∷ rest.all; replies = (first.replies, rest.replies); numbers = (first.numbers, rest.numbers) }

pub one_thread_told : (m : Map) (journal : List (List (List Post))) → (all : List TurnReplies) × IsOneThread m journal all
one_thread_told m journal = let made = all_told m bare journal in (made.all, record { replies = made.replies; numbers = made.numbers })
