-- A journal whose first turns are answered, and one turn more.
use Rattle.std.proofs.Common.{◌≡◌, ℕ, zero, suc, ◌+◌, ◌<◌, List, [], ◌∷◌, ◌++◌, length, take, get_or, sym, subst, arith}
use Rattle.std.specs.List.{AllByRecursion}
use Rattle.std.proofs.lemmas.List.{length-append}
use Rattle.posts.specs.declared.posts.Post.{Post}
use Rattle.posts.specs.declared.replies.TurnReplies.{TurnReplies}
use Rattle.posts.specs.Maps.{Map}
use Rattle.turn_core.specs.Words.{MapState}
use Rattle.turn_core.specs.Turns.{after_turn, IsTurnTold}
use Rattle.turn_core.proofs.TurnByTurn.{HasAnswered, answered_more}

-- the turns that were handed out are the first of the journal, and the next one is answered
pub next_answered : (m : Map) (journal done : List (List (List Post))) (turn : List (List Post)) (before after : MapState)
    (all more : List TurnReplies) (told : TurnReplies)
    → length done < length journal → turn ≡ get_or journal (length done) turn → HasAnswered m (take (length done) journal) before all
    → after.map ≡ before.map → after.standing ≡ after_turn before.map before.standing turn
    → IsTurnTold before.map before.standing turn told → more ≡ all ++ told ∷ []
    → HasAnswered m (take (length (done ++ turn ∷ [])) journal) after more
next_answered m journal done turn before after all more told below is has map standing telling pushed =
    let count : length (done ++ turn ∷ []) ≡ length done + 1 = length-append done (turn ∷ []) in
    subst (λ (n : ℕ). HasAnswered m (take n journal) after more) (sym count)
    (subst (λ (l : List TurnReplies). HasAnswered m (take (length done + 1) journal) after l) (sym pushed)
    (answered_more m journal (length done) turn before after all told below is has map standing telling))

one_in : (P : List (List Post) → Type 0) (journal : List (List (List Post))) (i : ℕ) (other : List (List Post)) → i < length journal
    → AllByRecursion P journal → P (get_or journal i other)
one_in P [] i other below all = absurd (omega arith)
one_in P (turn ∷ journal) zero other below all = all.0
one_in P (turn ∷ journal) (suc i) other below all = one_in P journal i other (omega arith) all.1

-- what holds of each turn of a journal holds of the one that was handed out
pub one_of_all : (P : List (List Post) → Type 0) (journal : List (List (List Post))) (i : ℕ) (turn : List (List Post)) → i < length journal
    → turn ≡ get_or journal i turn → AllByRecursion P journal → P turn
one_of_all P journal i turn below is all = subst P (sym is) (one_in P journal i turn below all)
