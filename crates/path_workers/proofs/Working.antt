-- What workers hand back, job by job and half by half.
use Rattle.std.proofs.Common.{◌≡◌, ℕ, ◌+◌, ◌-◌, ◌/◌, ◌<◌, List, [], ◌∷◌, ◌++◌, Bool, true, Ok, Err, sym, ap, ◌∙◌, subst, arith}
use Rattle.std.specs.Prelude.{Result, ◌||◌, IfOk, IsOkAnd, OnOk, length, slice_index}
use Rattle.std.proofs.lemmas.List.{map-append}
use Rattle.std.proofs.lemmas.List.Elements.{All-append, All-push}
use Rattle.nav_types.specs.Counting.{Lists}
use Rattle.nav_types.specs.declared.sequences.NoMemory.{NoMemory}
use Rattle.posts.specs.declared.posts.Request.{Request}
use Rattle.posts.specs.Maps.{Map}
use Rattle.claim_board.specs.Boards.{Board, SeatState}
use Rattle.posts.specs.declared.notes.Report.{Report}
use Rattle.turn_core.specs.Words.{Standing}
use Rattle.path_workers.specs.declared.placing.Answered.{Answered}
use Rattle.path_workers.specs.declared.drawing.Worked.{Worked}
use Rattle.path_workers.specs.declared.pool_cache.PoolCache.{PoolCache}
use Rattle.path_workers.specs.inner.Ranking.{jobs_at}
use Rattle.path_workers.proofs.Ordering.{Lists-through}
use Rattle.path_workers.specs.inner.Working.{job_numbers, AnswersItsJob, AnswerTheirJobs, HasOneMore, HasWorked}

-- one more job is answered, which stands at a place of the order
pub one_more : (map : Map) (standing : Standing) (report : Report) (jobs : List Request) (order : List ℕ) (place job : ℕ) (before after : List Answered)
    (drawn : List ℕ) → HasOneMore map standing report jobs job before after → job ≡ slice_index order place → job_numbers before ≡ jobs_at order drawn
    → AnswerTheirJobs map standing report jobs before
    → (job_numbers after ≡ jobs_at order (drawn ++ place ∷ [])) × AnswerTheirJobs map standing report jobs after
one_more map standing report jobs order place job before after drawn more stands numbers answers =
    let number : Answered → ℕ = λ one. one.job in (
      ap job_numbers more.1.0 ∙ map-append number before (more.0 ∷ []) ∙ ap (λ (ns : List ℕ). ns ++ number more.0 ∷ []) numbers
          ∙ ap (λ (n : ℕ). jobs_at order drawn ++ n ∷ []) (more.1.1.0 ∙ stands) ∙ sym (map-append (slice_index order) drawn (place ∷ [])),
      subst (AnswerTheirJobs map standing report jobs) (sym more.1.0)
          (All-push (AnswersItsJob map standing report jobs) before more.0 answers more.1.1.1),
    )

-- all answers are those of the one, and behind them those of the other
abbrev AreBoth : Result (List Answered) NoMemory → Result (List Answered) NoMemory → Result (List Answered) NoMemory → Type 0
AreBoth first second all = IfOk all (λ whole. IsOkAnd first (λ front. IsOkAnd second (λ back. whole ≡ front ++ back)))

both_ended : (first second all : Result (List Answered) NoMemory) (x y z : Bool) → AreBoth first second all
    → OnOk first (x ≡ true) → z ≡ (x || y) → OnOk all (z ≡ true)
both_ended first second (Err e) x y z are ended is = tt
both_ended (Err e) second (Ok whole) x y z are ended is = absurd are
both_ended (Ok front) second (Ok whole) x y z are ended is = is ∙ ap (λ (b : Bool). b || y) ended

both_numbered : (order : List ℕ) (first second all : Result (List Answered) NoMemory) (xs ys zs : List ℕ) → AreBoth first second all
    → IfOk first (λ answered. job_numbers answered ≡ jobs_at order xs) → IfOk second (λ answered. job_numbers answered ≡ jobs_at order ys)
    → zs ≡ xs ++ ys → IfOk all (λ answered. job_numbers answered ≡ jobs_at order zs)
both_numbered order first second (Err e) xs ys zs are p q is = tt
both_numbered order (Err e) second (Ok whole) xs ys zs are p q is = absurd are
both_numbered order (Ok front) (Err e) (Ok whole) xs ys zs are p q is = absurd are
both_numbered order (Ok front) (Ok back) (Ok whole) xs ys zs are p q is =
    let number : Answered → ℕ = λ one. one.job in
    ap job_numbers are ∙ map-append number front back ∙ ap (λ (ns : List ℕ). ns ++ job_numbers back) p
    ∙ ap (λ (ns : List ℕ). jobs_at order xs ++ ns) q ∙ sym (map-append (slice_index order) xs ys) ∙ ap (jobs_at order) (sym is)

both_answered : (map : Map) (standing : Standing) (report : Report) (jobs : List Request) (first second all : Result (List Answered) NoMemory) → AreBoth first second all
    → IfOk first (AnswerTheirJobs map standing report jobs) → IfOk second (AnswerTheirJobs map standing report jobs) → IfOk all (AnswerTheirJobs map standing report jobs)
both_answered map standing report jobs first second (Err e) are p q = tt
both_answered map standing report jobs (Err e) second (Ok whole) are p q = absurd are
both_answered map standing report jobs (Ok front) (Err e) (Ok whole) are p q = absurd are
both_answered map standing report jobs (Ok front) (Ok back) (Ok whole) are p q =
    subst (AnswerTheirJobs map standing report jobs) (sym are) (All-append (AnswersItsJob map standing report jobs) front back p q)

-- what the workers of two halves of a seat hand back together
pub both_worked : (map : Map) (standing : Standing) (report : Report) (jobs : List Request) (order : List ℕ) (board : Board) (seat one other joined : SeatState)
    (first second : Worked) (all : Result (List Answered) NoMemory) (pool_cache : PoolCache) → one ≡ record seat { share = seat.share - seat.share / 2 } → other ≡ record seat { share = seat.share / 2; drawn = [] }
    → HasWorked map standing report jobs order one first → HasWorked map standing report jobs order other second → seat.board ≡ board
    → joined.board ≡ board → joined.share ≡ first.seat.share + second.seat.share → joined.drawn ≡ first.seat.drawn ++ second.seat.drawn
    → joined.ended ≡ (first.seat.ended || second.seat.ended) → AreBoth first.answered second.answered all
    → HasWorked map standing report jobs order seat (record { seat = joined; answered = all; pool_cache = pool_cache })
both_worked map standing report jobs order board seat one other joined first second all pool_cache first_half second_half p q own home share drawn ended are =
    let more : one.share ≡ seat.share - seat.share / 2 = ap (λ (s : SeatState). s.share) first_half in
    let less : other.share ≡ seat.share / 2 = ap (λ (s : SeatState). s.share) second_half in
    let here : first.seat.share ≡ one.share = p.share in
    let there : second.seat.share ≡ other.share = q.share in
    record {
      board = home ∙ sym own;
      share = omega (arith, share, here, there, more, less);
      ended = both_ended first.answered second.answered all first.seat.ended second.seat.ended joined.ended are p.ended ended;
      numbers = both_numbered order first.answered second.answered all first.seat.drawn second.seat.drawn joined.drawn are p.numbers q.numbers drawn;
      answers = both_answered map standing report jobs first.answered second.answered all are p.answers q.answers;
    }

-- the answered jobs are all jobs, each once
pub all_numbered : (count places : ℕ) (order : List ℕ) (answered : List Answered) (drawn drawings : List ℕ) → Lists (λ job. job < count) order
    → places ≡ length order → job_numbers answered ≡ jobs_at order drawn → drawings ≡ drawn → Lists (λ place. place < places) drawings
    → Lists (λ job. job < count) (job_numbers answered)
all_numbered count places order answered drawn drawings jobs wide numbers closed lists =
    let all : Lists (λ place. place < length order) drawings = subst (λ (bound : ℕ). Lists (λ place. place < bound) drawings) wide lists in
    subst (λ (ns : List ℕ). Lists (λ job. job < count) ns) (sym (numbers ∙ ap (jobs_at order) (sym closed)))
    (Lists-through (λ job. job < count) order drawings jobs all)
