-- The posts of each caller in a journal, counted over all callers.
use Rattle.std.proofs.Common.{◌≡◌, ℕ, zero, suc, ◌+◌, ◌≤◌, List, [], ◌∷◌, ◌++◌, length, drop, sum_by, refl, ap, ◌∙◌, arith, length-append}
use Rattle.std.proofs.lemmas.List.Sums.{sum_by-cons}
use Rattle.posts.specs.declared.posts.Post.{Post}
use Rattle.posts.specs.Callers.{list_of, of_caller}
use Rattle.posts.specs.Posts.{post_count}
use Rattle.path_service.specs.machine.Effects.{first_list, joined_up}
use Rattle.path_service.proofs.machine.CallerLists.{joined_up_at}

-- the posts of each caller in all turns
abbrev pub joined_turns : List (List (List Post)) → List (List Post)
joined_turns [] = []
joined_turns (turn ∷ journal) = joined_up turn (joined_turns journal)

pub joined_at : (journal : List (List (List Post))) (c : ℕ) → list_of (joined_turns journal) c ≡ of_caller c journal
joined_at [] c = refl
joined_at (turn ∷ journal) c = joined_up_at turn (joined_turns journal) c ∙ ap (λ (l : List Post). list_of turn c ++ l) (joined_at journal c)

count_first : (more : List (List Post)) → post_count more ≡ length (first_list more) + post_count (drop 1 more)
count_first [] = refl
count_first (ps ∷ more) = sum_by-cons length ps more

-- joined lists have the posts of both
pub count_joined : (turn more : List (List Post)) → post_count (joined_up turn more) ≡ post_count turn + post_count more
count_joined [] more = omega arith
count_joined (ps ∷ turn) more =
    omega (
      arith,
      sum_by-cons length (ps ++ first_list more) (joined_up turn (drop 1 more)),
      count_joined turn (drop 1 more),
      length-append ps (first_list more),
      sum_by-cons length ps turn,
      count_first more,
    )

-- they are as many as the posts of all turns
pub count_journal : (journal : List (List (List Post))) → post_count (joined_turns journal) ≡ sum_by post_count journal
count_journal [] = refl
count_journal (turn ∷ journal) = omega (arith, count_joined turn (joined_turns journal), count_journal journal, sum_by-cons post_count turn journal)

-- no list of the first is longer than that in its place
abbrev pub NoneLonger : List (List Post) → List (List Post) → Type 0
NoneLonger xs ys = (c : ℕ) → length (list_of xs c) ≤ length (list_of ys c)

count_most : (xs ys : List (List Post)) → NoneLonger xs ys → post_count xs ≤ post_count ys
count_most [] ys most = omega arith
count_most (x ∷ xs) [] most = omega (arith, sum_by-cons length x xs, most 0, count_most xs [] (λ c. most (suc c)))
count_most (x ∷ xs) (y ∷ ys) most =
    omega (arith, sum_by-cons length x xs, sum_by-cons length y ys, most 0, count_most xs ys (λ c. most (suc c)))

-- where no list is longer than that in its place, and there are no more items in all the others, each is as long
pub each_as_long : (xs ys : List (List Post)) → NoneLonger xs ys → post_count ys ≤ post_count xs → NoneLonger ys xs
each_as_long xs [] most all c = omega arith
each_as_long [] (y ∷ ys) most all zero = omega (arith, all, sum_by-cons length y ys)
each_as_long [] (y ∷ ys) most all (suc c) = each_as_long [] ys (λ k. omega arith) (omega (arith, all, sum_by-cons length y ys)) c
each_as_long (x ∷ xs) (y ∷ ys) most all zero =
    omega (arith, all, sum_by-cons length x xs, sum_by-cons length y ys, count_most xs ys (λ c. most (suc c)))
each_as_long (x ∷ xs) (y ∷ ys) most all (suc c) =
    each_as_long xs ys (λ k. most (suc k)) (omega (arith, all, sum_by-cons length x xs, sum_by-cons length y ys, most 0)) c
