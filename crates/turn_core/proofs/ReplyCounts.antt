-- Each caller has as many replies as posts.
use Rattle.std.proofs.Common.{◌≡◌, ℕ, zero, suc, List, [], ◌∷◌, length, refl, ap, arith, length-append}
use Rattle.posts.specs.declared.posts.Post.{Post}
use Rattle.posts.specs.declared.replies.Reply.{Reply}
use Rattle.posts.specs.Maps.{Map}
use Rattle.posts.specs.Callers.{of_caller, list_of}
use Rattle.turn_core.specs.Words.{Standing, edited}
use Rattle.turn_core.specs.Turns.{after, after_turn, AreReplies, AreTurnReplies, OneThread}

one_each : (m : Map) (final s : Standing) (ps : List Post) (rs : List Reply) → AreReplies m final s ps rs → length rs ≡ length ps
one_each m final s [] [] x = refl
one_each m final s [] (r ∷ rs) x = absurd x
one_each m final s (p ∷ ps) [] x = absurd x
one_each m final s (p ∷ ps) (r ∷ rs) x = ap suc (one_each m final (edited m s p) ps rs x.1)

one_each_at : (m : Map) (final s : Standing) (turn : List (List Post)) (rss : List (List Reply)) (c : ℕ) → AreTurnReplies m final s turn rss → length (list_of rss c) ≡ length (list_of turn c)
one_each_at m final s [] [] c x = refl
one_each_at m final s [] (rs ∷ rss) c x = absurd x
one_each_at m final s (ps ∷ turn) [] c x = absurd x
one_each_at m final s (ps ∷ turn) (rs ∷ rss) zero x = one_each m final s ps rs x.0
one_each_at m final s (ps ∷ turn) (rs ∷ rss) (suc c) x = one_each_at m final (after m s ps) turn rss c x.1

-- each caller has as many replies as posts
pub as_many : (m : Map) (s : Standing) (journal : List (List (List Post))) (all : List (List (List Reply))) (c : ℕ) → OneThread m s journal all → length (of_caller c all) ≡ length (of_caller c journal)
as_many m s [] [] c x = refl
as_many m s [] (rss ∷ all) c x = absurd x
as_many m s (turn ∷ journal) [] c x = absurd x
as_many m s (turn ∷ journal) (rss ∷ all) c x =
    omega (
      arith,
      length-append (list_of rss c) (of_caller c all),
      length-append (list_of turn c) (of_caller c journal),
      one_each_at m (after_turn m s turn) s turn rss c x.0,
      as_many m (after_turn m s turn) journal all c x.1,
    )
