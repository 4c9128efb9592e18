-- A journal that one thread answers, turn by turn.
use Rattle.std.proofs.Common.{◌≡◌, ℕ, ◌+◌, ◌<◌, List, [], ◌∷◌, ◌++◌, Some, length, take, get_or, refl, sym, ap, ◌∙◌, subst}
use Rattle.std.specs.Prelude.{◌↔◌, slice_get}
use Rattle.std.proofs.lemmas.List.{take_more}
use Rattle.nav_types.specs.Regions.{HasTallies, HasRelabelled}
use Rattle.posts.specs.declared.posts.Post.{Post}
use Rattle.posts.specs.declared.posts.Request.{Request}
use Rattle.posts.specs.declared.replies.Answer.{Answer}
use Rattle.posts.specs.declared.replies.Reply.{Reply}
use Rattle.posts.specs.declared.replies.TurnReplies.{TurnReplies}
use Rattle.posts.specs.Maps.{Map}
use Rattle.grid_versions.specs.Versions.{map_state, passes_of}
use Rattle.turn_core.specs.Words.{Standing, MapState, bare, TellsNumbers}
use Rattle.turn_core.specs.Solving.{IsAnswerTo, AreAnswersTo}
use Rattle.turn_core.specs.Turns.{after_turn, standing, OneThread, TellNumbers, IsTurnTold, replies_in, IsOneThread}
use Rattle.turn_core.proofs.Itemwise.{itemwise_by_place}
use Rattle.turn_core.proofs.OneAnswer.{answers_itemwise}
use Rattle.turn_core.proofs.Threads.{standing_more, thread_more}

-- ---- the answers to requests

-- one answer more
pub answers_end : (m : Map) (s : Standing) (requests : List Request) (answers : List Answer) (request : Request) (answer : Answer)
    → AreAnswersTo m s requests answers → IsAnswerTo m s request answer → AreAnswersTo m s (requests ++ request ∷ []) (answers ++ answer ∷ [])
answers_end m s [] [] request answer are is = (is, tt)
answers_end m s [] (other ∷ answers) request answer are is = absurd are
answers_end m s (first ∷ requests) [] request answer are is = absurd are
answers_end m s (first ∷ requests) (other ∷ answers) request answer are is = (are.0, answers_end m s requests answers request answer are.1 is)

-- the answers to the first of the requests, and one more
pub answers_next : (m : Map) (s : Standing) (requests : List Request) (answers : List Answer) (i : ℕ) (request : Request) (answer : Answer) → i < length requests
    → AreAnswersTo m s (take i requests) answers → IsAnswerTo m s (get_or requests i request) answer
    → AreAnswersTo m s (take (i + 1) requests) (answers ++ answer ∷ [])
answers_next m s requests answers i request answer lt are is =
    subst (λ (rs : List Request). AreAnswersTo m s rs (answers ++ answer ∷ [])) (sym (take_more requests i request lt))
    (answers_end m s (take i requests) answers (get_or requests i request) answer are is)

-- ---- answers by their places

pub by_place : (m : Map) (s : Standing) (qs : List Request) (rs : List Answer)
    → AreAnswersTo m s qs rs ↔ ((length rs ≡ length qs) × ((k : ℕ) (p : Request) (a : Answer) → slice_get qs k ≡ Some p → slice_get rs k ≡ Some a → IsAnswerTo m s p a))
by_place m s = itemwise_by_place (IsAnswerTo m s) (AreAnswersTo m s) (answers_itemwise m s)

-- the same answers, by what the map, what stands and the requests are
pub answers_moved : (state : MapState) (m : Map) (s : Standing) (asked requests : List Request) (answers : List Answer)
    → state.map ≡ m → state.standing ≡ s → asked ≡ requests → AreAnswersTo state.map state.standing asked answers → AreAnswersTo m s requests answers
answers_moved state m s asked requests answers p q r are =
    subst (λ (n : Map). AreAnswersTo n s requests answers) p
    (subst (λ (t : Standing). AreAnswersTo state.map t requests answers) q
    (subst (λ (rs : List Request). AreAnswersTo state.map state.standing rs answers) r are))

-- ---- the replies to a turn

pub same_version : (state : MapState) (m : Map) (s : Standing) → state.map ≡ m → state.standing ≡ s → state ≡ map_state m s
same_version state m s p q = λ i. record { map = p i; standing = q i }

-- the numbers of a turn
pub numbers_told : (m : Map) (s : Standing) (turn : List (List Post)) (before after : MapState) (told : TurnReplies)
    → before.map ≡ m → before.standing ≡ s → after.map ≡ m → after.standing ≡ after_turn m s turn
    → HasTallies (length after.map.classes) (passes_of after) told.tallies.regions told.tallies.edges told.tallies.areas
    → HasRelabelled (length before.map.classes) (passes_of before) (passes_of after) told.relabelled
    → TellsNumbers m s (after_turn m s turn) told
unfolding TellsNumbers
numbers_told m s turn before after told bm bs am al tallies relabelled =
    let was = same_version before m s bm bs in
    let now = same_version after m (after_turn m s turn) am al in (
      subst (λ (v : MapState). HasTallies (length v.map.classes) (passes_of v) told.tallies.regions told.tallies.edges told.tallies.areas) now tallies,
      subst (λ (v : MapState). HasRelabelled (length v.map.classes) (passes_of v) (passes_of (map_state m (after_turn m s turn))) told.relabelled) was
          (subst (λ (v : MapState). HasRelabelled (length before.map.classes) (passes_of before) (passes_of v) told.relabelled) now relabelled),
    )

-- ---- journals

-- the numbers of one turn more
numbers_more : (m : Map) (s : Standing) (journal : List (List (List Post))) (turn : List (List Post)) (all : List TurnReplies) (told : TurnReplies)
    → TellNumbers m s journal all → TellsNumbers m (standing m s journal) (after_turn m (standing m s journal) turn) told
    → TellNumbers m s (journal ++ turn ∷ []) (all ++ told ∷ [])
numbers_more m s [] turn [] told x y = (y, tt)
numbers_more m s [] turn (t ∷ all) told x y = absurd x
numbers_more m s (first ∷ journal) turn [] told x y = absurd x
numbers_more m s (first ∷ journal) turn (t ∷ all) told x y = (x.0, numbers_more m (after_turn m s first) journal turn all told x.1 y)

pub replies_end : (all : List TurnReplies) (told : TurnReplies) → replies_in (all ++ told ∷ []) ≡ replies_in all ++ told.replies ∷ []
replies_end [] told = refl
replies_end (t ∷ all) told = ap (λ (l : List (List (List Reply))). t.replies ∷ l) (replies_end all told)

-- the answer to one turn more
pub told_more : (m : Map) (journal : List (List (List Post))) (turn : List (List Post)) (all : List TurnReplies) (told : TurnReplies)
    → IsOneThread m journal all → IsTurnTold m (standing m bare journal) turn told → IsOneThread m (journal ++ turn ∷ []) (all ++ told ∷ [])
told_more m journal turn all told is more = record {
  replies = subst (λ (rs : List (List (List Reply))). OneThread m bare (journal ++ turn ∷ []) rs) (sym (replies_end all told))
      (thread_more m bare journal turn (replies_in all) told.replies is.replies more.replies);
  numbers = numbers_more m bare journal turn all told is.numbers more.numbers;
}

-- the first turns of a journal are answered, and the version is the one after them
pub record HasAnswered (m : Map) (journal : List (List (List Post))) (version : MapState) (all : List TurnReplies) : Type 0 where
  pub ground_map : version.map ≡ m
  pub stands : version.standing ≡ standing m bare journal
  pub answered : IsOneThread m journal all

pub none_answered : (m : Map) (version : MapState) → version.map ≡ m → version.standing ≡ bare → HasAnswered m [] version []
none_answered m version p q = record { ground_map = p; stands = q; answered = record { replies = tt; numbers = tt } }

-- one turn more
turn_answered : (m : Map) (journal : List (List (List Post))) (turn : List (List Post)) (before after : MapState) (all : List TurnReplies) (told : TurnReplies)
    → HasAnswered m journal before all → after.map ≡ before.map → after.standing ≡ after_turn before.map before.standing turn → IsTurnTold before.map before.standing turn told
    → HasAnswered m (journal ++ turn ∷ []) after (all ++ told ∷ [])
turn_answered m journal turn before after all told has p q is =
    let was = same_version before m (standing m bare journal) has.ground_map has.stands in
    record {
      ground_map = p ∙ has.ground_map;
      stands = q ∙ ap (λ (v : MapState). after_turn v.map v.standing turn) was ∙ sym (standing_more m bare journal turn);
      answered = told_more m journal turn all told has.answered (subst (λ (v : MapState). IsTurnTold v.map v.standing turn told) was is);
    }

pub answered_more : (m : Map) (journal : List (List (List Post))) (i : ℕ) (turn : List (List Post)) (before after : MapState) (all : List TurnReplies) (told : TurnReplies)
    → i < length journal → turn ≡ get_or journal i turn → HasAnswered m (take i journal) before all → after.map ≡ before.map → after.standing ≡ after_turn before.map before.standing turn
    → IsTurnTold before.map before.standing turn told → HasAnswered m (take (i + 1) journal) after (all ++ told ∷ [])
answered_more m journal i turn before after all told lt is has p q telling =
    subst (λ (j : List (List (List Post))). HasAnswered m j after (all ++ told ∷ []))
    (ap (λ (t : List (List Post)). take i journal ++ t ∷ []) is ∙ sym (take_more journal i turn lt))
    (turn_answered m (take i journal) turn before after all told has p q telling)
