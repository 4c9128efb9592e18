-- What one thread answers to further turns rests on what stands before them alone.
use Rattle.std.proofs.Common.{◌≡◌, List, [], ◌∷◌, ◌++◌, length, drop, refl, subst}
use Rattle.posts.specs.declared.posts.Post.{Post}
use Rattle.posts.specs.declared.replies.TurnReplies.{TurnReplies}
use Rattle.posts.specs.Maps.{Map}
use Rattle.turn_core.specs.Words.{Standing, bare}
use Rattle.turn_core.specs.Turns.{after_turn, standing, OneThread, TellNumbers, replies_in, IsOneThread}
use Rattle.turn_core.proofs.Threads.{same_cons, one_turn, one_telling}

-- the answer to turns before which this stands
record AreTold (m : Map) (s : Standing) (journal : List (List (List Post))) (all : List TurnReplies) : Type 0 where
  replies : OneThread m s journal (replies_in all)
  numbers : TellNumbers m s journal all

told_after : (m : Map) (s : Standing) (journal more : List (List (List Post))) (all : List TurnReplies)
    → AreTold m s (journal ++ more) all → AreTold m (standing m s journal) more (drop (length journal) all)
told_after m s [] more all told = told
told_after m s (turn ∷ journal) more [] told = absurd told.numbers
told_after m s (turn ∷ journal) more (first ∷ all) told =
    told_after m (after_turn m s turn) journal more all (record { replies = told.replies.1; numbers = told.numbers.1 })

told_once : (m : Map) (s : Standing) (journal : List (List (List Post))) (a b : List TurnReplies)
    → AreTold m s journal a → AreTold m s journal b → a ≡ b
told_once m s [] [] [] x y = refl
told_once m s [] [] (told ∷ b) x y = absurd y.numbers
told_once m s [] (told ∷ a) b x y = absurd x.numbers
told_once m s (turn ∷ journal) [] b x y = absurd x.numbers
told_once m s (turn ∷ journal) (told ∷ a) [] x y = absurd y.numbers
told_once m s (turn ∷ journal) (told ∷ a) (again ∷ b) x y =
    same_cons told again a b
    (one_telling m s (after_turn m s turn) told again x.numbers.0 y.numbers.0
    (one_turn m (after_turn m s turn) s turn told.replies again.replies x.replies.0 y.replies.0))
    (told_once m (after_turn m s turn) journal a b (record { replies = x.replies.1; numbers = x.numbers.1 })
    (record { replies = y.replies.1; numbers = y.numbers.1 }))

pub goes_on : (m : Map) (a b more : List (List (List Post))) (all_a all_b : List TurnReplies)
    → standing m bare a ≡ standing m bare b → IsOneThread m (a ++ more) all_a → IsOneThread m (b ++ more) all_b
    → drop (length a) all_a ≡ drop (length b) all_b
goes_on m a b more all_a all_b same x y =
    let first = told_after m bare a more all_a (record { replies = x.replies; numbers = x.numbers }) in
    let second = told_after m bare b more all_b (record { replies = y.replies; numbers = y.numbers }) in
    told_once m (standing m bare b) more (drop (length a) all_a) (drop (length b) all_b)
    (subst (λ (s : Standing). AreTold m s more (drop (length a) all_a)) same first) second
