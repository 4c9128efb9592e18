-- How many replies a journal has, what their paths cost together, and how many waypoints they have together.
use Rattle.std.proofs.Common.{◌≡◌, ℕ, ◌+◌, ◌*◌, ◌≤◌, Bool, true, false, IsTrue, inl, inr, List, [], ◌∷◌, ◌++◌, length, Option, Some, None, Result, Ok, Err, ℤ, sym, subst, arith}
use Rattle.std.specs.List.{sum_by, AllByRecursion}
use Rattle.std.proofs.lemmas.List.{length-append}
use Rattle.std.proofs.lemmas.List.Sums.{sum_by-cons, sum_by-append}
use Rattle.nav_types.specs.declared.cells.Cell.{Cell}
use Rattle.goal_shapes.specs.declared.goals.Goal.{Goal}
use Rattle.posts.specs.declared.edits.Refusal.{Refusal}
use Rattle.posts.specs.declared.posts.Post.{Post}
use Rattle.posts.specs.declared.posts.Post.TheVariants.{Edit as Editing, Ask as Asking}
use Rattle.posts.specs.declared.posts.Request.{Request}
use Rattle.posts.specs.declared.posts.Request.TheVariants.{Path as AsksPath, Region as AsksRegion}
use Rattle.posts.specs.declared.replies.Answer.{Answer}
use Rattle.posts.specs.declared.replies.Answer.TheVariants as answer
use Rattle.posts.specs.declared.replies.Reply.{Reply}
use Rattle.posts.specs.declared.replies.Reply.TheVariants.{Answer as Answered}
use Rattle.posts.specs.declared.replies.TurnReplies.{TurnReplies}
use Rattle.posts.specs.Maps.{Map}
use Rattle.grid_versions.specs.Passing.{passable_at}
use Rattle.grid_versions.proofs.PassingLemmas.{passable_in_words}
use Rattle.turn_core.specs.NamedGoals.{class_named, is_on_map, goal_found}
use Rattle.turn_core.specs.Solving.{IsAnswerTo, IsAnswerAt, IsPathFound, IsPathTo, IsRegionAt}
use Rattle.turn_core.specs.Words.{Standing, bare, edited}
use Rattle.turn_core.specs.Turns.{after, after_turn, Gets, AreReplies, AreTurnReplies, OneThread, IsOneThread, replies_in}
use Rattle.answer_text.specs.Summaries.{path_cost, waypoint_count, turn_replies, all_replies, HasFewReplies, HasCountableCosts, HasCountableWaypoints}
use Rattle.made_match.specs.Making.{made_map, made_journal}
use Rattle.made_match.proofs.SmallJournals.{AreUpTo, IsSmallTurn, journal_small, journal_short}
use Rattle.pathserve.proofs.ShortWalks.{IsNear, short_answer}

-- ---- one reply

record IsSmall (reply : Reply) : Type 0 where
  pub cheap : path_cost reply ≤ 92682 * 4194304
  pub few : waypoint_count reply ≤ 4194304

IsSmallAnswer : Answer → Type 0
IsSmallAnswer answer = IsSmall (Answered answer)

refused_small : (refusal : Refusal) (given : Answer) → given ≡ answer.Refused refusal → IsSmallAnswer given
unfolding IsSmallAnswer
refused_small refusal given is = subst (λ (a : Answer). IsSmall (Answered a)) (sym is) (record { cheap = omega arith; few = omega arith })

near : (m : Map) (s : Standing) (class : ℕ) (cell : Cell) → IsTrue (passable_at m s class cell) → IsNear cell
near m s class cell passes =
    let inside = ((passable_in_words m s class cell).0 passes).inside in
    let i = inside.column in let j = inside.row in
    let wide = m.size.wide.few in let high = m.size.high.few in
    record { column = omega (arith, i, wide); row = omega (arith, j, high) }

path_small : (m : Map) (s : Standing) (class : ℕ) (x z : ℤ) (goal : Goal) (given : Answer)
    → IsPathTo (passable_at m s class) x z goal given → IsSmallAnswer given
unfolding IsSmallAnswer
path_small m s class x z goal given (inl nowhere) =
    subst (λ (a : Answer). IsSmall (Answered a)) (sym nowhere.1) (record { cheap = omega arith; few = omega arith })
path_small m s class x z goal given (inr (path, (is, leads))) =
    let short = short_answer (passable_at m s class) (near m s class) path.start _ path.end path.cost.0 path.waypoints leads.walk in
    subst (λ (a : Answer). IsSmall (Answered a)) (sym is) (record { cheap = short.cheap; few = short.few })

found_small : (m : Map) (s : Standing) (class : ℕ) (x z : ℤ) (found : Result Goal Refusal) (given : Answer)
    → IsPathFound (passable_at m s class) x z found given → IsSmallAnswer given
found_small m s class x z (Err refusal) given is = refused_small refusal given is
found_small m s class x z (Ok goal) given is = path_small m s class x z goal given is

region_small : (passes : Cell → Bool) (x z : ℤ) (given : Answer) → IsRegionAt passes x z given → IsSmallAnswer given
unfolding IsSmallAnswer
region_small passes x z given (region, (is, tells)) =
    subst (λ (a : Answer). IsSmall (Answered a)) (sym is) (record { cheap = omega arith; few = omega arith })

small_at : (named : Option ℕ) (on_map : Bool) (Answers : ℕ → Answer → Type 0) (given : Answer)
    → ((class : ℕ) → Answers class given → IsSmallAnswer given) → IsAnswerAt named on_map Answers given → IsSmallAnswer given
small_at None on_map Answers given each is = refused_small _ given is
small_at (Some class) false Answers given each is = refused_small _ given is
small_at (Some class) true Answers given each is = each class is

answer_small : (m : Map) (s : Standing) (request : Request) (given : Answer) → IsAnswerTo m s request given → IsSmallAnswer given
unfolding IsAnswerTo
answer_small m s (AsksPath request) given is =
    let goal = goal_found m s request.goal in
    small_at (class_named m request.class) (is_on_map m.size request.x request.z) (λ class. IsPathFound (passable_at m s class) request.x request.z goal) given
    (λ class found. found_small m s class request.x request.z goal given found) is
answer_small m s (AsksRegion query) given is =
    small_at (class_named m query.class) (is_on_map m.size query.x query.z) (λ class. IsRegionAt (passable_at m s class) query.x query.z) given
    (λ class region. region_small (passable_at m s class) query.x query.z given region) is

reply_small : (m : Map) (final s : Standing) (post : Post) (reply : Reply) → Gets m final s post reply → IsSmall reply
unfolding IsSmallAnswer
reply_small m final s (Editing edit) reply is =
    subst IsSmall (sym is) (record { cheap = omega arith; few = omega arith })
reply_small m final s (Asking request) reply (given, (is, answers)) =
    subst IsSmall (sym is) (answer_small m final request given answers)

-- ---- lists of replies

-- there are so many replies at most, and each is small
pub record AreFew (count : ℕ) (replies : List Reply) : Type 0 where
  pub many : length replies ≤ count
  pub costs : sum_by path_cost replies ≤ 92682 * 4194304 * count
  pub points : sum_by waypoint_count replies ≤ 4194304 * count

none_few : AreFew 0 []
none_few = record { many = omega arith; costs = omega arith; points = omega arith }

more_few : (m n : ℕ) (xs ys : List Reply) → AreFew m xs → AreFew n ys → AreFew (m + n) (xs ++ ys)
more_few m n xs ys few also =
    let count = length-append xs ys in
    let cost = sum_by-append path_cost xs ys in
    let points = sum_by-append waypoint_count xs ys in
    let a = few.many in let b = also.many in
    let c = few.costs in let d = also.costs in
    let e = few.points in let f = also.points in
    record { many = omega (arith, count, a, b); costs = omega (arith, cost, c, d); points = omega (arith, points, e, f) }

at_most : (m n : ℕ) (xs : List Reply) → m ≤ n → AreFew m xs → AreFew n xs
at_most m n xs less few =
    let a = few.many in let c = few.costs in let e = few.points in
    record { many = omega (arith, a, less); costs = omega (arith, c, less); points = omega (arith, e, less) }

one_few : (reply : Reply) → IsSmall reply → AreFew 1 (reply ∷ [])
one_few reply small =
    let a = small.cheap in let b = small.few in
    record { many = omega arith; costs = omega (arith, sum_by-cons path_cost reply [], a); points = omega (arith, sum_by-cons waypoint_count reply [], b) }

replies_few : (m : Map) (final s : Standing) (posts : List Post) (replies : List Reply) → AreReplies m final s posts replies
    → AreFew (length posts) replies
replies_few m final s [] [] are = none_few
replies_few m final s [] (reply ∷ replies) are = absurd are
replies_few m final s (post ∷ posts) [] are = absurd are
replies_few m final s (post ∷ posts) (reply ∷ replies) are =
    at_most (1 + length posts) (length (post ∷ posts)) (reply ∷ replies) (omega arith)
    (more_few 1 (length posts) (reply ∷ []) replies (one_few reply (reply_small m final s post reply are.0))
    (replies_few m final (edited m s post) posts replies are.1))

turn_few : (m : Map) (final s : Standing) (turn : List (List Post)) (replies : List (List Reply)) → AreUpTo 25 turn
    → AreTurnReplies m final s turn replies → AreFew (25 * length turn) (turn_replies replies)
turn_few m final s [] [] up_to are = none_few
turn_few m final s [] (replies ∷ rest) up_to are = absurd are
turn_few m final s (posts ∷ turn) [] up_to are = absurd are
turn_few m final s (posts ∷ turn) (replies ∷ rest) up_to are =
    let short = up_to.0 in
    at_most (length posts + 25 * length turn) (25 * length (posts ∷ turn)) (replies ++ turn_replies rest) (omega (arith, short))
    (more_few (length posts) (25 * length turn) replies (turn_replies rest) (replies_few m final s posts replies are.0)
    (turn_few m final (after m s posts) turn rest up_to.1 are.1))

journal_few : (m : Map) (s : Standing) (journal : List (List (List Post))) (all : List TurnReplies) → AllByRecursion IsSmallTurn journal
    → OneThread m s journal (replies_in all) → AreFew (400 * length journal) (all_replies all)
journal_few m s [] [] small is = none_few
journal_few m s [] (told ∷ all) small is = absurd is
journal_few m s (turn ∷ journal) [] small is = absurd is
journal_few m s (turn ∷ journal) (told ∷ all) small is =
    let first = small.0 in let callers = first.callers in
    at_most (25 * length turn + 400 * length journal) (400 * length (turn ∷ journal)) (turn_replies told.replies ++ all_replies all) (omega (arith, callers))
    (more_few (25 * length turn) (400 * length journal) (turn_replies told.replies) (all_replies all)
    (turn_few m (after_turn m s turn) s turn told.replies first.posts is.0)
    (journal_few m (after_turn m s turn) journal all small.1 is.1))

-- ---- a summary can be made of the replies

pub record CanBeSummed (all : List TurnReplies) : Type 0 where
  pub few : HasFewReplies all
  pub costs : HasCountableCosts all
  pub waypoints : HasCountableWaypoints all

pub summed : (m : Map) (journal : List (List (List Post))) (all : List TurnReplies) → AllByRecursion IsSmallTurn journal → length journal ≤ 50
    → IsOneThread m journal all → CanBeSummed all
summed m journal all small short is =
    let few = journal_few m bare journal all small is.replies in
    let a = few.many in let b = few.costs in let c = few.points in
    record { few = omega (arith, a, short); costs = omega (arith, b, short); waypoints = omega (arith, c, short) }

-- ---- the replies to a match that a number makes

-- they can be summed up
pub replies_summed : (number : ℕ) (m : Map) (journal : List (List (List Post))) (all : List TurnReplies) → m ≡ made_map number
    → journal ≡ made_journal number → IsOneThread m journal all → CanBeSummed all
replies_summed number m journal all map is told =
    summed m (made_journal number) all (journal_small number) (journal_short number)
    (subst (λ (j : List (List (List Post))). IsOneThread m j all) is told)
