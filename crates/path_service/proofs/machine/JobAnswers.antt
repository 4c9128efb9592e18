-- The answers to the jobs of a running turn.
use Rattle.std.proofs.Common.{◌≡◌, ℕ, zero, suc, ◌+◌, List, [], ◌∷◌, ◌++◌, Option, None, Some, length, drop, set, replicate, slice_index_or, refl, ap, subst}
use Rattle.std.specs.Prelude.{slice_get}
use Rattle.posts.specs.declared.posts.Post.{Post}
use Rattle.posts.specs.declared.posts.Request.{Request}
use Rattle.posts.specs.declared.replies.Answer.{Answer}
use Rattle.posts.specs.declared.replies.Answer.TheVariants.{Nowhere}
use Rattle.posts.specs.Maps.{Map}
use Rattle.posts.specs.Posts.{requests}
use Rattle.turn_core.specs.Solving.{IsAnswerTo, AreAnswersTo}
use Rattle.turn_core.specs.Words.{Standing}
use Rattle.turn_core.specs.Turns.{after}
use Rattle.turn_core.specs.Given.{given_turn}
use Rattle.path_service.specs.machine.Table.{why_unanswered}
use Rattle.path_service.specs.machine.Effects.{known}
use Rattle.path_service.specs.machine.Facts.{AreAnswers}

pub solves_known : (m : Map) (final : Standing) (qs : List Request) (rs : List (Option Answer)) (k : ℕ) → AreAnswers m final qs rs → why_unanswered k rs ≡ None → AreAnswersTo m final qs (known rs)
solves_known m final [] [] k x e = tt
solves_known m final [] (a ∷ rs) k x e = absurd x
solves_known m final (q ∷ qs) [] k x e = absurd x
solves_known m final (q ∷ qs) (None ∷ rs) k x e = cc
solves_known m final (q ∷ qs) (Some r ∷ rs) k x e = (x.0, solves_known m final qs rs (k + 1) x.1 e)

-- no job is unanswered where there is no least one
pub no_gap : (answers rest : List (Option Answer)) (k : ℕ) → why_unanswered k (answers ++ None ∷ rest) ≡ None → ⊥
no_gap [] rest k e = cc
no_gap (None ∷ answers) rest k e = cc
no_gap (Some answer ∷ answers) rest k e = no_gap answers rest (k + 1) e

pub length_known : (answers : List (Option Answer)) → length (known answers) ≡ length answers
length_known [] = refl
length_known (None ∷ answers) = ap suc (length_known answers)
length_known (Some answer ∷ answers) = ap suc (length_known answers)

-- the answers that are known, and one more
pub known_end : (answers : List (Option Answer)) (answer : Answer) → known (answers ++ Some answer ∷ []) ≡ known answers ++ answer ∷ []
known_end [] answer = refl
known_end (None ∷ answers) answer = ap (λ (l : List Answer). Nowhere ∷ l) (known_end answers answer)
known_end (Some other ∷ answers) answer = ap (λ (l : List Answer). other ∷ l) (known_end answers answer)

pub length-given_turn : (m : Map) (s : Standing) (turn : List (List Post)) (rs : List Answer) → length (given_turn m s turn rs) ≡ length turn
length-given_turn m s [] rs = refl
length-given_turn m s (ps ∷ turn) rs = ap suc (length-given_turn m (after m s ps) turn (drop (length (requests ps)) rs))

-- no job is answered at first
pub answers_none : (m : Map) (final : Standing) (qs : List Request) → AreAnswers m final qs (replicate (length qs) None)
answers_none m final [] = tt
answers_none m final (q ∷ qs) = (tt, answers_none m final qs)

abbrev pub no_answer : Option Answer
no_answer = None

pub none_answered_at : (n job : ℕ) → slice_index_or (replicate n (no_answer)) job None ≡ None
none_answered_at zero job = refl
none_answered_at (suc n) zero = refl
none_answered_at (suc n) (suc job) = none_answered_at n job

-- one answer more
pub answers_set : (m : Map) (final : Standing) (qs : List Request) (rs : List (Option Answer)) (job : ℕ) (q : Request) (r : Answer) → AreAnswers m final qs rs → slice_get qs job ≡ Some q → IsAnswerTo m final q r → AreAnswers m final qs (set rs job (Some r))
answers_set m final [] [] job q r x e y = tt
answers_set m final [] (a ∷ rs) job q r x e y = absurd x
answers_set m final (p ∷ qs) [] job q r x e y = absurd x
answers_set m final (p ∷ qs) (a ∷ rs) zero q r x e y = let f : q ≡ p = cc in (subst (λ (z : Request). IsAnswerTo m final z r) f y, x.1)
answers_set m final (p ∷ qs) (a ∷ rs) (suc job) q r x e y = (x.0, answers_set m final qs rs job q r x.1 e y)

pub length_answers : (m : Map) (final : Standing) (qs : List Request) (rs : List (Option Answer)) → AreAnswers m final qs rs → length rs ≡ length qs
length_answers m final [] [] x = refl
length_answers m final [] (a ∷ rs) x = absurd x
length_answers m final (q ∷ qs) [] x = absurd x
length_answers m final (q ∷ qs) (a ∷ rs) x = ap suc (length_answers m final qs rs x.1)
