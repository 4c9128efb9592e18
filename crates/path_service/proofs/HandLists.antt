-- The pending posts, which are the last of those that were taken off the lanes.
use Rattle.std.proofs.Common.{◌≡◌, ℕ, zero, suc, ◌+◌, ◌-◌, List, [], ◌∷◌, ◌++◌, length, map, drop, replicate, slice_index, refl, sym, ap, ◌∙◌, arith, append-nil, append_assoc, length-append}
use Rattle.std.proofs.lemmas.List.Sums.{sum_by-cons}
use Rattle.std.proofs.lemmas.List.{drop_at}
use Rattle.posts.specs.declared.posts.Post.{Post}
use Rattle.posts.specs.Posts.{post_count}
use Rattle.posts.specs.Callers.{list_of}
use Rattle.path_service.specs.machine.Effects.{joined_up, added_up}
use Rattle.path_service.proofs.machine.CallerLists.{first_at, rest_at}
use Rattle.path_service.specs.Services.{past_first}
use Rattle.path_service.specs.inner.Holding.{taken_before, AreLast}

-- they stay the last, where the same is put behind both
pub last_joined : (posted all_pending got : List (List Post)) → length got ≡ length all_pending → AreLast posted all_pending → AreLast (joined_up posted got) (joined_up all_pending got)
last_joined [] [] [] e last = tt
last_joined [] [] (g ∷ got) e last = absurd (omega (arith, e))
last_joined [] (h ∷ all_pending) got e last = absurd last
last_joined (p ∷ posted) [] got e last = absurd last
last_joined (p ∷ posted) (h ∷ all_pending) [] e last = absurd (omega (arith, e))
last_joined (p ∷ posted) (h ∷ all_pending) (g ∷ got) e last =
    ((last.0.0, sym (append_assoc last.0.0 h g) ∙ ap (λ (l : List Post). l ++ g) last.0.1), last_joined posted all_pending got (omega (arith, e)) last.1)

pub last_wide : (posted all_pending : List (List Post)) → AreLast posted all_pending → length all_pending ≡ length posted
last_wide [] [] last = refl
last_wide [] (h ∷ all_pending) last = absurd last
last_wide (p ∷ posted) [] last = absurd last
last_wide (p ∷ posted) (h ∷ all_pending) last = ap suc (last_wide posted all_pending last.1)

-- as many are before them as were
pub before_joined : (posted all_pending got : List (List Post)) → length got ≡ length all_pending → AreLast posted all_pending → taken_before (joined_up posted got) (joined_up all_pending got) ≡ taken_before posted all_pending
before_joined [] [] [] e last = refl
before_joined [] [] (g ∷ got) e last = absurd (omega (arith, e))
before_joined [] (h ∷ all_pending) got e last = absurd last
before_joined (p ∷ posted) [] got e last = absurd last
before_joined (p ∷ posted) (h ∷ all_pending) [] e last = absurd (omega (arith, e))
before_joined (p ∷ posted) (h ∷ all_pending) (g ∷ got) e last =
    let head : length (p ++ g) - length (h ++ g) ≡ length p - length h = omega (arith, length-append p g, length-append h g) in
    ap (λ (n : ℕ). n ∷ taken_before (joined_up posted got) (joined_up all_pending got)) head
    ∙ ap (λ (ns : List ℕ). (length p - length h) ∷ ns) (before_joined posted all_pending got (omega (arith, e)) last.1)

cut : (p front h : List Post) → front ++ h ≡ p → drop (length p - length h) p ≡ h
cut p front h e =
    let n : length p - length h ≡ length front = omega (arith, ap length e, length-append front h) in
    ap (λ (k : ℕ). drop k p) n ∙ ap (drop (length front)) (sym e) ∙ drop_at front h (length front) refl

-- what follows those before them
pub hands_are : (posted all_pending : List (List Post)) → AreLast posted all_pending → past_first posted (taken_before posted all_pending) ≡ all_pending
hands_are [] [] last = refl
hands_are [] (h ∷ all_pending) last = absurd last
hands_are (p ∷ posted) [] last = absurd last
hands_are (p ∷ posted) (h ∷ all_pending) last =
    ap (λ (l : List Post). l ∷ past_first posted (taken_before posted all_pending)) (cut p last.0.0 h last.0.1)
    ∙ ap (λ (l : List (List Post)). h ∷ l) (hands_are posted all_pending last.1)

abbrev pub no_posts : List Post
no_posts = []

-- once all of them are in a turn, as many more are taken as the turn has
pub before_staged : (posted all_pending : List (List Post)) → AreLast posted all_pending → taken_before posted (replicate (length all_pending) no_posts) ≡ added_up (taken_before posted all_pending) (map length all_pending)
before_staged [] [] last = refl
before_staged [] (h ∷ all_pending) last = absurd last
before_staged (p ∷ posted) [] last = absurd last
before_staged (p ∷ posted) (h ∷ all_pending) last =
    let head : length p - length no_posts ≡ (length p - length h) + length h = omega (arith, ap length last.0.1, length-append last.0.0 h) in
    ap (λ (n : ℕ). n ∷ taken_before posted (replicate (length all_pending) no_posts)) head
    ∙ ap (λ (ns : List ℕ). ((length p - length h) + length h) ∷ ns) (before_staged posted all_pending last.1)

-- and none is pending
pub last_staged : (posted all_pending : List (List Post)) → AreLast posted all_pending → AreLast posted (replicate (length all_pending) no_posts)
last_staged [] [] last = tt
last_staged [] (h ∷ all_pending) last = absurd last
last_staged (p ∷ posted) [] last = absurd last
last_staged (p ∷ posted) (h ∷ all_pending) last = ((p, append-nil p), last_staged posted all_pending last.1)

drop_none : (k : ℕ) → drop k no_posts ≡ []
drop_none zero = refl
drop_none (suc k) = refl

pub past_first_at : (posted : List (List Post)) (numbers : List ℕ) (c : ℕ) → list_of (past_first posted numbers) c ≡ drop (slice_index numbers c) (list_of posted c)
past_first_at [] numbers c = sym (drop_none (slice_index numbers c))
past_first_at (p ∷ posted) numbers zero = ap (λ (k : ℕ). drop k p) (first_at numbers)
past_first_at (p ∷ posted) numbers (suc c) = past_first_at posted (drop 1 numbers) c ∙ ap (λ (k : ℕ). drop k (list_of posted c)) (rest_at numbers c 0)

-- a turn without posts has none of any caller
pub none_counted : (turn : List (List Post)) (c : ℕ) → post_count turn ≡ 0 → list_of turn c ≡ []
none_counted [] c e = refl
none_counted ([] ∷ turn) zero e = refl
none_counted ((p ∷ ps) ∷ turn) zero e = absurd (omega (arith, e, sum_by-cons length (p ∷ ps) turn))
none_counted (ps ∷ turn) (suc c) e = none_counted turn c (omega (arith, e, sum_by-cons length ps turn))
