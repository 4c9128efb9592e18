-- How many posts a turn has.
use Rattle.std.proofs.Common.{◌≡◌, ℕ, zero, suc, ◌+◌, ◌<◌, ◌≤◌, List, [], ◌∷◌, ◌++◌, length, take, get_or, replicate, refl, ap, ◌∙◌, arith, length-append}
use Rattle.std.proofs.lemmas.List.Sums.{sum_by-cons, sum_by-append}
use Rattle.std.proofs.lemmas.List.{take_more}
use Rattle.posts.specs.declared.posts.Post.{Post}
use Rattle.posts.specs.declared.posts.Post.TheVariants.{Edit as Editing, Ask as Asking}
use Rattle.posts.specs.Posts.{requests, jobs, post_count}

-- a turn of one caller more has the posts of that one more
pub count_more : (turn : List (List Post)) (posts : List Post) → post_count (turn ++ posts ∷ []) ≡ post_count turn + length posts
count_more turn posts = omega (arith, sum_by-append (λ (l : List Post). length l) turn (posts ∷ []))

pub count_next : (turn : List (List Post)) (i : ℕ) (d : List Post) → i < length turn → post_count (take (i + 1) turn) ≡ post_count (take i turn) + length (get_or turn i d)
count_next turn i d less = ap post_count (take_more turn i d less) ∙ count_more (take i turn) (get_or turn i d)

-- empty lists have no post
pub count_none : (callers : ℕ) → post_count (replicate callers []) ≡ 0
count_none zero = refl
count_none (suc callers) = count_none callers

few_requests : (posts : List Post) → length (requests posts) ≤ length posts
few_requests [] = omega arith
few_requests (Editing edit ∷ posts) = omega (arith, few_requests posts)
few_requests (Asking request ∷ posts) = omega (arith, few_requests posts)

-- a turn has no more jobs than posts
pub few_jobs : (turn : List (List Post)) → length (jobs turn) ≤ post_count turn
few_jobs [] = omega arith
few_jobs (posts ∷ turn) =
    let all : length (jobs (posts ∷ turn)) ≡ length (requests posts ++ jobs turn) = refl in
    omega (arith, few_requests posts, few_jobs turn, all, length-append (requests posts) (jobs turn), sum_by-cons length posts turn)
