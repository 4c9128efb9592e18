-- The machine comes to each journal that one thread answers.
use Rattle.std.proofs.Common.{◌≡◌, ℕ, zero, suc, ◌+◌, ◌<◌, ◌≤◌, List, [], ◌∷◌, ◌++◌, Option, None, length, map, set, replicate, slice_index, refl, sym, ap, ◌∙◌, subst, arith, append_assoc, append-nil, length-append}
use Rattle.std.specs.Prelude.{nat_lt, slice_get}
use Rattle.std.proofs.lemmas.List.{get_or_at, set_at, length-replicate}
use Rattle.posts.specs.declared.posts.Post.{Post}
use Rattle.posts.specs.declared.posts.Post.TheVariants.{Edit as Editing, Ask as Asking}
use Rattle.posts.specs.declared.posts.Request.{Request}
use Rattle.posts.specs.declared.replies.Answer.{Answer}
use Rattle.posts.specs.declared.replies.Reply.{Reply}
use Rattle.posts.specs.Maps.{Map}
use Rattle.posts.specs.Posts.{requests, jobs}
use Rattle.posts.specs.Callers.{of_caller, list_of}
use Rattle.path_service.specs.declared.events.Event.TheVariants.{Stage, Deliver, Collect}
use Rattle.path_service.specs.declared.events.Why.TheVariants.{Callers, Collected}
use Rattle.turn_core.specs.Solving.{AreAnswersTo}
use Rattle.turn_core.specs.Words.{Standing, bare, edited}
use Rattle.turn_core.specs.Turns.{after, after_turn, AreReplies, AreTurnReplies, OneThread}
use Rattle.path_service.specs.machine.States.{State, opening, stands_after_done}
use Rattle.path_service.specs.machine.Table.{why_no_caller, why_collected}
use Rattle.path_service.specs.machine.Effects.{joined_up, IsStep, IsMachineRun, Reaches}
use Rattle.path_service.specs.machine.Facts.{HaveLists, Facts}
use Rattle.path_service.specs.machine.Arrival.{post_events, answering, whole_turn, turn_events, collect_events, arrival, CanStage, answered_run, in_stage, in_run, at_end, CanArrive, HasArrived}
use Rattle.path_service.proofs.machine.CallerLists.{of_caller_push}
use Rattle.turn_core.proofs.Threads.{one_thread_lem, standing_more}
use Rattle.path_service.proofs.machine.Keeping.{facts_at_opening, kept_run_of}
use Rattle.path_service.proofs.machine.OneRun.{one_state}
use Rattle.turn_core.proofs.ReplyCounts.{as_many}
use Rattle.path_service.proofs.machine.Settling.{taken_done, all_done}
use Rattle.path_service.proofs.machine.Reaching.{reach-append, reach_none, reach_step, none_or, none_unless, all_post, stage_step, turn_answered, deliver_step}
use Rattle.std.proofs.lemmas.Bool.{lt-ltb}

-- A turn

solves-append : (m : Map) (final : Standing) (qs : List Request) (rs : List Answer) (ps : List Request) (ts : List Answer) → AreAnswersTo m final qs rs → AreAnswersTo m final ps ts → AreAnswersTo m final (qs ++ ps) (rs ++ ts)
solves-append m final [] [] ps ts x y = y
solves-append m final [] (r ∷ rs) ps ts x y = absurd x
solves-append m final (q ∷ qs) [] ps ts x y = absurd x
solves-append m final (q ∷ qs) (r ∷ rs) ps ts x y = (x.0, solves-append m final qs rs ps ts x.1 y)

answers_in : (m : Map) (final s : Standing) (ps : List Post) (rs : List Reply) → AreReplies m final s ps rs → (ts : List Answer) × AreAnswersTo m final (requests ps) ts
answers_in m final s [] [] x = ([], tt)
answers_in m final s [] (r ∷ rs) x = absurd x
answers_in m final s (p ∷ ps) [] x = absurd x
answers_in m final s (Editing e ∷ ps) (r ∷ rs) x = answers_in m final (edited m s (Editing e)) ps rs x.1
answers_in m final s (Asking q ∷ ps) (r ∷ rs) x =
    let more = answers_in m final (edited m s (Asking q)) ps rs x.1 in
    (x.0.0 ∷ more.0, (x.0.1.1, more.1))

-- where a turn has its replies, its jobs have their answers
pub answers_turn : (m : Map) (final s : Standing) (turn : List (List Post)) (rss : List (List Reply)) → AreTurnReplies m final s turn rss → (ts : List Answer) × AreAnswersTo m final (jobs turn) ts
answers_turn m final s [] [] x = ([], tt)
answers_turn m final s [] (rs ∷ rss) x = absurd x
answers_turn m final s (ps ∷ turn) [] x = absurd x
answers_turn m final s (ps ∷ turn) (rs ∷ rss) x =
    let one = answers_in m final s ps rs x.0 in
    let more = answers_turn m final (after m s ps) turn rss x.1 in
    (one.0 ++ more.0, solves-append m final (requests ps) one.0 (jobs turn) more.0 one.1 more.1)

-- a turn is staged, runs and is delivered
turn_runs : (s : State) (turn : List (List Post)) (rs : List Answer) (rss : List (List Reply)) → Facts s → s.staged ≡ None → s.running ≡ None → length turn ≡ s.map.callers → CanStage s turn
    → AreAnswersTo s.map (after_turn s.map (stands_after_done s) turn) (jobs turn) rs → AreTurnReplies s.map (after_turn s.map (stands_after_done s) turn) (stands_after_done s) turn rss
    → Reaches s (whole_turn turn) (at_end (in_run (in_stage s turn) (answered_run turn rs)) turn rss)
turn_runs s turn rs rss f e r wide next x y =
    let staged : State = in_stage s turn in
    let answered : State = in_run staged (answered_run turn rs) in
    let end : State = at_end answered turn rss in
    reach-append s (Stage (map length turn) ∷ answering turn) answered (Deliver ∷ []) end
    (reach_step s (Stage (map length turn)) None staged (answering turn) answered (stage_step s turn f e wide next) (turn_answered staged turn rs refl r x))
    (reach_step answered Deliver None end [] end (deliver_step answered turn rs rss refl x y) (reach_none _ _ refl))

-- The journal

-- the state has the same map, posts and collected numbers, and these turns are done
record Rests (s : State) (turns : List (List (List Post))) (t : State) : Type 0 where
  map : t.map ≡ s.map
  posted : t.posted ≡ s.posted
  done : t.done ≡ turns
  staged : t.staged ≡ None
  running : t.running ≡ None
  collected : t.collected ≡ s.collected

journal_runs : (s : State) (journal : List (List (List Post))) (all : List (List (List Reply))) → Facts s → s.staged ≡ None → s.running ≡ None → HaveLists s.map.callers journal
    → OneThread s.map (stands_after_done s) journal all
    → ((c : ℕ) → (rest : List Post) × ((of_caller c s.done ++ of_caller c journal) ++ rest ≡ list_of s.posted c))
    → (t : State) × (Reaches s (turn_events journal) t × Rests s (s.done ++ journal) t)
journal_runs s [] all f e r wide x next = (s, (reach_none s s refl, record { map = refl; posted = refl; done = sym (append-nil s.done); staged = e; running = r; collected = refl }))
journal_runs s (turn ∷ journal) [] f e r wide x next = absurd x
journal_runs s (turn ∷ journal) (rss ∷ all) f e r wide x next =
    let before : Standing = stands_after_done s in
    let final : Standing = after_turn s.map before turn in
    let answers = answers_turn s.map final before turn rss x.0 in
    let mid : State = at_end (in_run (in_stage s turn) (answered_run turn answers.0)) turn rss in
    let first_next : CanStage s turn = λ c. (
      of_caller c journal ++ (next c).0,
      ap (λ (ts : List (List (List Post))). (of_caller c ts ++ list_of turn c) ++ (of_caller c journal ++ (next c).0)) (all_done s e r)
          ∙ sym (append_assoc (of_caller c s.done ++ list_of turn c) (of_caller c journal) (next c).0)
          ∙ ap (λ (l : List Post). l ++ (next c).0) (append_assoc (of_caller c s.done) (list_of turn c) (of_caller c journal))
          ∙ (next c).1,
    ) in
    let one : Reaches s (whole_turn turn) mid = turn_runs s turn answers.0 rss f e r wide.0 first_next answers.1 x.0 in
    let more = journal_runs mid journal all (kept_run_of s (whole_turn turn) one.0 mid f one.1) refl refl wide.1
    (subst (λ (z : Standing). OneThread s.map z journal all) (sym (standing_more s.map bare s.done turn)) x.1)
    (λ c. (
      (next c).0,
      ap (λ (l : List Post). (l ++ of_caller c journal) ++ (next c).0) (of_caller_push c s.done turn)
          ∙ ap (λ (l : List Post). l ++ (next c).0) (append_assoc (of_caller c s.done) (list_of turn c) (of_caller c journal))
          ∙ (next c).1,
    )) in (
      more.0,
      (
        reach-append s (whole_turn turn) mid (turn_events journal) more.0 one more.1.0,
        record {
          map = more.1.1.map;
          posted = more.1.1.posted;
          done = more.1.1.done ∙ append_assoc s.done (turn ∷ []) journal;
          staged = more.1.1.staged;
          running = more.1.1.running;
          collected = more.1.1.collected;
        },
      ),
    )

-- Collects

abbrev with_collected : State → List ℕ → State
with_collected t counts = record t { collected = counts }

caller_collects : (t : State) (front : List ℕ) (got : ℕ) (back : List ℕ) (c n : ℕ) → length front ≡ c → c < t.map.callers → got + n ≤ length (list_of t.replies c)
    → Reaches (with_collected t (front ++ got ∷ back)) (replicate n (Collect c)) (with_collected t (front ++ (got + n) ∷ back))
caller_collects t front got back c zero here less few = reach_none _ _ (ap (λ (j : ℕ). with_collected t (front ++ j ∷ back)) (let e : got ≡ got + 0 = omega arith in e))
caller_collects t front got back c (suc n) here less few =
    let old : List ℕ = front ++ got ∷ back in
    let more : List ℕ = front ++ (got + 1) ∷ back in
    let replies : List Reply = list_of t.replies c in
    let at : slice_index old c ≡ got = get_or_at front got back 0 c here in
    let same : more ≡ set old c (slice_index old c + 1) =
    sym (ap (λ (j : ℕ). set old c (j + 1)) at ∙ set_at front got back (got + 1) c here) in
    let step : IsStep (with_collected t old) (Collect c) (slice_get replies (slice_index old c)) (with_collected t more) = record {
      enabled = none_or (why_no_caller t.map.callers c) (why_collected (slice_index old c) (length replies))
          (none_unless (nat_lt c t.map.callers) (Callers t.map.callers) (lt-ltb c t.map.callers less))
          (none_unless (nat_lt (slice_index old c) (length replies)) (Collected (slice_index old c)) (lt-ltb (slice_index old c) (length replies) (omega (arith, at))));
      effect = (refl, ap (with_collected t) same);
    } in
    reach_step (with_collected t old) (Collect c) (slice_get replies (slice_index old c)) (with_collected t more) (replicate n (Collect c)) (with_collected t (front ++ (got + suc n) ∷ back)) step
    (subst (λ (j : ℕ). Reaches (with_collected t more) (replicate n (Collect c)) (with_collected t (front ++ j ∷ back))) (let e : (got + 1) + n ≡ got + suc n = omega arith in e)
    (caller_collects t front (got + 1) back c n here less (omega arith)))

all_collect : (t : State) (c : ℕ) (front counts : List ℕ) → length front ≡ c → c + length counts ≡ t.map.callers → ((k : ℕ) → slice_index counts k ≤ length (list_of t.replies (c + k)))
    → Reaches (with_collected t (front ++ replicate (length counts) 0)) (collect_events c counts) (with_collected t (front ++ counts))
all_collect t c front [] here wide few = reach_none _ _ refl
all_collect t c front (n ∷ counts) here wide few =
    let zeros : List ℕ = replicate (length counts) 0 in
    let here_few : 0 + n ≤ length (list_of t.replies c) =
    omega (arith, few 0, ap (λ (j : ℕ). length (list_of t.replies j)) (let e : c + 0 ≡ c = omega arith in e)) in
    let one : Reaches (with_collected t (front ++ 0 ∷ zeros)) (replicate n (Collect c)) (with_collected t (front ++ n ∷ zeros)) =
    subst (λ (j : ℕ). Reaches (with_collected t (front ++ 0 ∷ zeros)) (replicate n (Collect c)) (with_collected t (front ++ j ∷ zeros))) (let e : 0 + n ≡ n = omega arith in e)
    (caller_collects t front 0 zeros c n here (omega arith) here_few) in
    let more : Reaches (with_collected t ((front ++ n ∷ []) ++ zeros)) (collect_events (c + 1) counts) (with_collected t ((front ++ n ∷ []) ++ counts)) =
    all_collect t (c + 1) (front ++ n ∷ []) counts (omega (arith, length-append front (n ∷ []))) (omega arith)
    (λ k. omega (arith, few (suc k), ap (λ (j : ℕ). length (list_of t.replies j)) (let e : c + suc k ≡ (c + 1) + k = omega arith in e))) in
    reach-append (with_collected t (front ++ 0 ∷ zeros)) (replicate n (Collect c)) (with_collected t (front ++ n ∷ zeros)) (collect_events (c + 1) counts) (with_collected t (front ++ n ∷ counts)) one
    (subst (λ (l : List ℕ). Reaches (with_collected t (front ++ n ∷ zeros)) (collect_events (c + 1) counts) (with_collected t l)) (append_assoc front (n ∷ []) counts)
    (subst (λ (l : List ℕ). Reaches (with_collected t l) (collect_events (c + 1) counts) (with_collected t ((front ++ n ∷ []) ++ counts))) (append_assoc front (n ∷ []) zeros) more))

-- The arrival

-- lists behind empty ones
joined_none : (n : ℕ) (pss : List (List Post)) → length pss ≡ n → joined_up (replicate n []) pss ≡ pss
joined_none zero pss e = refl
joined_none (suc n) [] e = absurd (omega (arith, e))
joined_none (suc n) (ps ∷ pss) e = ap (λ (l : List (List Post)). ps ∷ l) (joined_none n pss (omega (arith, e)))

abbrev Arrives : Map → List (List (List Post)) → List (List Post) → List ℕ → List (List (List Reply)) → Type 0
Arrives m journal pss counts all =
    (handed : List (Option Reply)) × ((new : State) × (IsMachineRun (opening m) (arrival journal pss counts) handed new × HasArrived m new journal pss counts all))

pub arrives : (m : Map) (journal : List (List (List Post))) (pss : List (List Post)) (counts : List ℕ) (all : List (List (List Reply)))
    → CanArrive m journal pss counts → OneThread m bare journal all → Arrives m journal pss counts all
arrives m journal pss counts all can x =
    let at_post : State = record (opening m) { posted = pss } in
    let posts : Reaches (opening m) (post_events 0 pss) at_post =
    subst (λ (l : List (List Post)). Reaches (opening m) (post_events 0 pss) (record (opening m) { posted = l })) (joined_none m.callers pss can.lists)
    (all_post (opening m) pss (length-replicate m.callers []) can.lists) in
    let facts : Facts at_post = kept_run_of (opening m) (post_events 0 pss) posts.0 at_post (facts_at_opening m) posts.1 in
    let done = journal_runs at_post journal all facts refl refl can.turns x can.first in
    let t : State = done.0 in
    let rests : Rests at_post ([] ++ journal) t = done.1.1 in
    let facts_t : Facts t = kept_run_of at_post (turn_events journal) done.1.0.0 t facts done.1.0.1 in
    let thread : OneThread m bare journal facts_t.replies.all =
    subst (λ (g : Map). OneThread g bare journal facts_t.replies.all) rests.map
    (subst (λ (j : List (List (List Post))). OneThread t.map bare j facts_t.replies.all) rests.done facts_t.replies.one_thread) in
    let same_all : facts_t.replies.all ≡ all = one_thread_lem m bare journal facts_t.replies.all all thread x in
    let replies : (c : ℕ) → list_of t.replies c ≡ of_caller c all = λ c. facts_t.replies.each c ∙ ap (of_caller c) same_all in
    let few : (k : ℕ) → slice_index counts k ≤ length (list_of t.replies (0 + k)) = λ k.
    omega (arith, can.few k, ap length (replies k), as_many m bare journal all k x, ap (λ (j : ℕ). length (list_of t.replies j)) (let e : 0 + k ≡ k = omega arith in e)) in
    let callers : t.map.callers ≡ m.callers = ap (λ (g : Map). g.callers) rests.map in
    let zeros : t ≡ with_collected t (replicate (length counts) 0) =
    ap (with_collected t) (rests.collected ∙ ap (λ (n : ℕ). replicate n 0) (sym can.numbers)) in
    let new : State = with_collected t counts in
    let collects : Reaches t (collect_events 0 counts) new =
    subst (λ (z : State). Reaches z (collect_events 0 counts) new) (sym zeros)
    (all_collect t 0 [] counts refl (omega (arith, can.numbers, callers)) few) in
    let whole : Reaches (opening m) (arrival journal pss counts) new =
    reach-append (opening m) (post_events 0 pss ++ turn_events journal) t (collect_events 0 counts) new
    (reach-append (opening m) (post_events 0 pss) at_post (turn_events journal) t posts done.1.0) collects in (
      whole.0,
      (
        new,
        (
          whole.1,
          record {
            map = rests.map;
            posted_lists = rests.posted;
            taken = λ c. taken_done t c facts_t rests.staged rests.running ∙ ap (λ (j : List (List (List Post))). length (of_caller c j)) rests.done;
            done = rests.done;
            replies = replies;
            collected = refl;
            staged = rests.staged;
            running = rests.running;
          },
        ),
      ),
    )

pub arrives_alone : (m : Map) (journal : List (List (List Post))) (pss : List (List Post)) (counts : List ℕ) (all : List (List (List Reply))) (handed : List (Option Reply)) (new : State)
    → CanArrive m journal pss counts → OneThread m bare journal all → IsMachineRun (opening m) (arrival journal pss counts) handed new → HasArrived m new journal pss counts all
arrives_alone m journal pss counts all handed new can x run =
    let there = arrives m journal pss counts all can x in
    subst (λ (z : State). HasArrived m z journal pss counts all)
    (one_state (opening m) (arrival journal pss counts) there.0 handed there.1.0 new there.1.1.0 run) there.1.1.1
