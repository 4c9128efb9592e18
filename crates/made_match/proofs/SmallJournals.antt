-- How large a journal is that a number makes.
use Rattle.std.proofs.Common.{◌≡◌, ℕ, zero, suc, ◌+◌, ◌*◌, ◌<◌, ◌≤◌, ◌^◌, Bool, true, false, List, [], ◌∷◌, ◌++◌, length, refl, arith}
use Rattle.std.specs.Prelude.{if◌then◌else◌, ◌==◌}
use Rattle.std.specs.List.{AllByRecursion}
use Rattle.std.proofs.lemmas.List.{length-append}
use Rattle.std.proofs.lemmas.List.Sums.{sum_by-cons}
use Rattle.posts.specs.declared.posts.Post.{Post}
use Rattle.posts.specs.Posts.{jobs, post_count}
use Rattle.posts.proofs.PostCounts.{few_jobs}
use Rattle.made_match.specs.Making.{Draw, draw_each, one_in_four, draw_first_posts, draw_first_post, draw_removal, draw_addition, draw_path, draw_later_posts, draw_posts, draw_turn, base_drawn, made_journal, draw}

-- each list has at most so many items
abbrev pub AreUpTo : {A : Type 0} → ℕ → List (List A) → Type 0
AreUpTo most lists = AllByRecursion (λ items. length items ≤ most) lists

-- a turn has at most 16 callers, and each posts at most 25 times
pub record IsSmallTurn (turn : List (List Post)) : Type 0 where
  pub callers : length turn ≤ 16
  pub posts : AreUpTo 25 turn

-- ---- things drawn one after another

pub as_many_drawn : {A : Type 0} (thing : ℕ → ℕ → Draw A) (count state : ℕ) → length (draw_each thing count state).value ≡ count
unfolding draw_each
as_many_drawn thing zero state = refl
as_many_drawn thing (suc count) state =
    let before = draw_each thing count state in
    let here = as_many_drawn thing count state in
    omega (arith, length-append before.value ((thing count before.state).value ∷ []), here)

all_and_one : {A : Type 0} (P : A → Type 0) (xs : List A) (x : A) → AllByRecursion P xs → P x → AllByRecursion P (xs ++ x ∷ [])
all_and_one P [] x all holds = (holds, tt)
all_and_one P (first ∷ xs) x all holds = (all.0, all_and_one P xs x all.1 holds)

pub each_is : {A : Type 0} (P : A → Type 0) (thing : ℕ → ℕ → Draw A) → ((n now : ℕ) → P (thing n now).value) → (count state : ℕ)
    → AllByRecursion P (draw_each thing count state).value
unfolding draw_each
each_is P thing holds zero state = tt
each_is P thing holds (suc count) state =
    let before = draw_each thing count state in
    all_and_one P before.value (thing count before.state).value (each_is P thing holds count state) (holds count before.state)

-- ---- the posts of a caller

either : {A : Type 0} (P : A → Type 0) (test : Bool) (a b : A) → P a → P b → P (if test then a else b)
either P true a b p q = p
either P false a b p q = q

at_most_one : {A : Type 0} (thing : ℕ → Draw A) (state : ℕ) → length (one_in_four thing state).value ≤ 1
unfolding one_in_four
at_most_one {A = A} thing state =
    either (λ (d : Draw (List A)). length d.value ≤ 1) ((draw 4 state).value == 0) _ _ (omega arith) (omega arith)

first_posts_few : (caller state : ℕ) → length (draw_first_posts caller state).value ≤ 25
unfolding draw_first_posts
first_posts_few caller state = let count = as_many_drawn (draw_first_post caller) 25 state in omega (arith, count)

three_few : (xs ys : List Post) (post : Post) → length xs ≤ 1 → length ys ≤ 1 → length (xs ++ ys ++ post ∷ []) ≤ 25
three_few xs ys post a b =
    let whole = length-append (xs ++ ys) (post ∷ []) in
    let both = length-append xs ys in
    omega (arith, a, b, whole, both)

later_posts_few : (turn caller state : ℕ) → length (draw_later_posts turn caller state).value ≤ 25
unfolding draw_later_posts
later_posts_few turn caller state =
    let removal = one_in_four (draw_removal caller) state in
    let addition = one_in_four (draw_addition caller) removal.state in
    let path = draw_path turn caller addition.state in
    let a = at_most_one (draw_removal caller) state in
    let b = at_most_one (draw_addition caller) removal.state in
    three_few removal.value addition.value path.value a b

posts_few : (turn caller state : ℕ) → length (draw_posts turn caller state).value ≤ 25
unfolding draw_posts
posts_few turn caller state =
    either (λ (d : Draw (List Post)). length d.value ≤ 25) (turn == 1) _ _ (first_posts_few caller state) (later_posts_few turn caller state)

-- ---- the turns

turn_small : (before state : ℕ) → IsSmallTurn (draw_turn before state).value
unfolding draw_turn
turn_small before state =
    let count = as_many_drawn (draw_posts (before + 1)) 16 state in
    record {
      callers = omega (arith, count);
      posts = each_is (λ (posts : List Post). length posts ≤ 25) (draw_posts (before + 1)) (posts_few (before + 1)) 16 state;
    }

pub journal_small : (number : ℕ) → AllByRecursion IsSmallTurn (made_journal number)
unfolding made_journal
journal_small number = each_is IsSmallTurn draw_turn turn_small 50 (base_drawn number).state

pub journal_short : (number : ℕ) → length (made_journal number) ≤ 50
unfolding made_journal
journal_short number = let count = as_many_drawn draw_turn 50 (base_drawn number).state in omega (arith, count)

-- ---- its requests

posts_counted : (turn : List (List Post)) → AreUpTo 25 turn → post_count turn ≤ 25 * length turn
posts_counted [] up_to = omega arith
posts_counted (posts ∷ turn) up_to =
    let here = up_to.0 in let rest = posts_counted turn up_to.1 in
    omega (arith, sum_by-cons length posts turn, here, rest)

pub jobs_few : (turn : List (List Post)) → IsSmallTurn turn → length (jobs turn) < 2 ^ 32
jobs_few turn small =
    let a = few_jobs turn in let b = posts_counted turn small.posts in let c = small.callers in
    omega (arith, a, b, c)

each_few : (journal : List (List (List Post))) → AllByRecursion IsSmallTurn journal
    → AllByRecursion (λ (turn : List (List Post)). length (jobs turn) < 2 ^ 32) journal
each_few [] small = tt
each_few (turn ∷ journal) small = (jobs_few turn small.0, each_few journal small.1)

pub journal_jobs_few : (number : ℕ) → AllByRecursion (λ (turn : List (List Post)). length (jobs turn) < 2 ^ 32) (made_journal number)
journal_jobs_few number = each_few (made_journal number) (journal_small number)
