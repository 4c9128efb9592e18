-- Events that are enabled in each state of which the facts hold, and where they lead.
use Rattle.std.proofs.Common.{◌≡◌, ℕ, zero, suc, ◌+◌, ◌-◌, ◌<◌, ◌≤◌, Bool, true, List, [], ◌∷◌, ◌++◌, Option, None, Some, length, map, take, drop, set, replicate, slice_index, slice_index_or, refl, sym, ap, ◌∙◌, subst, arith, append_assoc, append-nil, length-append, length-take-le, eq-eqb}
use Rattle.std.specs.Prelude.{nat_lt, nat_le, slice_get, ◌==◌}
use Rattle.std.proofs.lemmas.List.{get_or_at, set_at, map_push, length-map, take_at, drop_at, ext_get_or}
use Rattle.std.proofs.lemmas.Bool.{lt-ltb, le-leb}
use Rattle.posts.specs.declared.posts.Post.{Post}
use Rattle.posts.specs.declared.posts.Request.{Request}
use Rattle.posts.specs.declared.replies.Answer.{Answer}
use Rattle.posts.specs.declared.replies.Reply.{Reply}
use Rattle.posts.specs.Maps.{Map}
use Rattle.posts.specs.Posts.{jobs}
use Rattle.posts.specs.Callers.{of_caller, list_of}
use Rattle.path_service.specs.declared.events.Event.{Event}
use Rattle.path_service.specs.declared.events.Event.TheVariants.{Post as Posting, Stage, Start, Claim, Finish, Deliver}
use Rattle.path_service.specs.declared.events.Why.{Why}
use Rattle.path_service.specs.declared.events.Why.TheVariants.{Callers, Posted, AllClaimed, Claimed, Unclaimed}
use Rattle.turn_core.specs.Solving.{IsAnswerTo, AreAnswersTo}
use Rattle.turn_core.specs.Words.{Standing}
use Rattle.turn_core.specs.Turns.{after_turn, AreTurnReplies}
use Rattle.path_service.specs.machine.States.{State, Run, stands_after_done}
use Rattle.path_service.specs.machine.Table.{first, unless, or_else, why_not_each, why_staged, why_few, why_none_staged, why_running, why_answered, why_unanswered, why_no_delivery, last_turn, running_turn}
use Rattle.path_service.specs.machine.Effects.{next_posts, added_up, joined_up, begun, known, started, delivered, IsStep, IsMachineRun, Reaches}
use Rattle.turn_core.specs.Given.{given_turn}
use Rattle.path_service.specs.machine.Facts.{all_turns, Facts}
use Rattle.path_service.specs.machine.Arrival.{posts_of, post_events, finishes, answering, CanStage, answered_run, in_stage, in_run, at_end}
use Rattle.path_service.proofs.machine.CallerLists.{first_at, rest_at, next_posts_at, length-next_posts, lengths_at}
use Rattle.turn_core.proofs.Threads.{one_turn}
use Rattle.turn_core.proofs.Answering.{given_turn_are}

-- one run after another
pub run-append : (s : State) (es : List Event) (hs : List (Option Reply)) (t : State) (fs : List Event) (gs : List (Option Reply)) (u : State) → IsMachineRun s es hs t → IsMachineRun t fs gs u → IsMachineRun s (es ++ fs) (hs ++ gs) u
run-append s [] [] t fs gs u x y = subst (λ (z : State). IsMachineRun z fs gs u) (sym x) y
run-append s [] (h ∷ hs) t fs gs u x y = absurd x
run-append s (e ∷ es) [] t fs gs u x y = absurd x
run-append s (e ∷ es) (h ∷ hs) t fs gs u x y = (x.0, (x.1.0, run-append x.0 es hs t fs gs u x.1.1 y))

pub reach-append : (s : State) (es : List Event) (t : State) (fs : List Event) (u : State) → Reaches s es t → Reaches t fs u → Reaches s (es ++ fs) u
reach-append s es t fs u x y = (x.0 ++ y.0, run-append s es x.0 t fs y.0 u x.1 y.1)

pub reach_none : (s t : State) → s ≡ t → Reaches s [] t
reach_none s t e = ([], e)

pub reach_step : (s : State) (e : Event) (h : Option Reply) (t : State) (fs : List Event) (u : State) → IsStep s e h t → Reaches t fs u → Reaches s (e ∷ fs) u
reach_step s e h t fs u step y = (h ∷ y.0, (t, (step, y.1)))

pub none_or : (a b : Option Why) → a ≡ None → b ≡ None → or_else a b ≡ None
none_or None b e f = f
none_or (Some why) b e f = e

pub none_unless : (b : Bool) (why : Why) → b ≡ true → unless b why ≡ None
none_unless b why e = ap (λ (z : Bool). unless z why) e

-- ---- posts

abbrev with_posted : State → List (List Post) → State
with_posted s pss = record s { posted = pss }

caller_posts : (s : State) (front : List (List Post)) (got : List Post) (back : List (List Post)) (c : ℕ) (ps : List Post) → length front ≡ c → c < s.map.callers
    → Reaches (with_posted s (front ++ got ∷ back)) (posts_of c ps) (with_posted s (front ++ (got ++ ps) ∷ back))
caller_posts s front got back c [] here less = reach_none _ _ (ap (λ (l : List Post). with_posted s (front ++ l ∷ back)) (sym (append-nil got)))
caller_posts s front got back c (p ∷ ps) here less =
    let old : List (List Post) = front ++ got ∷ back in
    let more : List (List Post) = front ++ (got ++ p ∷ []) ∷ back in
    let same : more ≡ set old c (list_of old c ++ p ∷ []) =
    sym (ap (λ (l : List Post). set old c (l ++ p ∷ [])) (get_or_at front got back [] c here) ∙ set_at front got back (got ++ p ∷ []) c here) in
    let step : IsStep (with_posted s old) (Posting c p) None (with_posted s more) = record {
      enabled = none_unless (nat_lt c s.map.callers) (Callers s.map.callers) (lt-ltb c s.map.callers less);
      effect = (refl, ap (with_posted s) same);
    } in
    let rest : Reaches (with_posted s more) (posts_of c ps) (with_posted s (front ++ ((got ++ p ∷ []) ++ ps) ∷ back)) = caller_posts s front (got ++ p ∷ []) back c ps here less in
    reach_step (with_posted s old) (Posting c p) None (with_posted s more) (posts_of c ps) (with_posted s (front ++ (got ++ p ∷ ps) ∷ back)) step
    (subst (λ (l : List Post). Reaches (with_posted s more) (posts_of c ps) (with_posted s (front ++ l ∷ back))) (append_assoc got (p ∷ []) ps) rest)

callers_post : (s : State) (c : ℕ) (front old pss : List (List Post)) → length front ≡ c → length old ≡ length pss → c + length pss ≡ s.map.callers
    → Reaches (with_posted s (front ++ old)) (post_events c pss) (with_posted s (front ++ joined_up old pss))
callers_post s c front [] [] here same wide = reach_none _ _ refl
callers_post s c front [] (ps ∷ pss) here same wide = absurd (omega (arith, same))
callers_post s c front (got ∷ old) [] here same wide = absurd (omega (arith, same))
callers_post s c front (got ∷ old) (ps ∷ pss) here same wide =
    let one : Reaches (with_posted s (front ++ got ∷ old)) (posts_of c ps) (with_posted s (front ++ (got ++ ps) ∷ old)) = caller_posts s front got old c ps here (omega arith) in
    let more : Reaches (with_posted s ((front ++ (got ++ ps) ∷ []) ++ old)) (post_events (c + 1) pss) (with_posted s ((front ++ (got ++ ps) ∷ []) ++ joined_up old pss)) =
    callers_post s (c + 1) (front ++ (got ++ ps) ∷ []) old pss (omega (arith, length-append front ((got ++ ps) ∷ []))) (omega (arith, same)) (omega arith) in
    reach-append (with_posted s (front ++ got ∷ old)) (posts_of c ps) (with_posted s (front ++ (got ++ ps) ∷ old)) (post_events (c + 1) pss) (with_posted s (front ++ (got ++ ps) ∷ joined_up old pss)) one
    (subst (λ (l : List (List Post)). Reaches (with_posted s (front ++ (got ++ ps) ∷ old)) (post_events (c + 1) pss) (with_posted s l)) (append_assoc front ((got ++ ps) ∷ []) (joined_up old pss))
    (subst (λ (l : List (List Post)). Reaches (with_posted s l) (post_events (c + 1) pss) (with_posted s ((front ++ (got ++ ps) ∷ []) ++ joined_up old pss))) (append_assoc front ((got ++ ps) ∷ []) old) more))

-- each caller posts its list
pub all_post : (s : State) (pss : List (List Post)) → length s.posted ≡ s.map.callers → length pss ≡ s.map.callers → Reaches s (post_events 0 pss) (record s { posted = joined_up s.posted pss })
all_post s pss wide each = callers_post s 0 [] s.posted pss refl (wide ∙ sym each) (omega (arith, each))

-- ---- stages

few_none : (k : ℕ) (pss : List (List Post)) (ts ks : List ℕ) → ((c : ℕ) → slice_index ks c ≤ length (list_of pss c) - slice_index ts c) → why_few k pss ts ks ≡ None
few_none k [] ts ks h = refl
few_none k (ps ∷ pss) ts ks h =
    let few : first ks ≤ length ps - first ts = omega (arith, h 0, first_at ks, first_at ts) in
    none_or (unless (nat_le (first ks) (length ps - first ts)) (Posted k (length ps - first ts))) (why_few (k + 1) pss (drop 1 ts) (drop 1 ks))
    (none_unless (nat_le (first ks) (length ps - first ts)) (Posted k (length ps - first ts)) (le-leb (first ks) (length ps - first ts) few))
    (few_none (k + 1) pss (drop 1 ts) (drop 1 ks) (λ c. omega (arith, h (suc c), rest_at ks c 0, rest_at ts c 0)))

cut_out : {A : Type 0} (d t rest : List A) → take (length t) (drop (length d) ((d ++ t) ++ rest)) ≡ t
cut_out d t rest =
    ap (λ (l : List _). take (length t) (drop (length d) l)) (append_assoc d t rest)
    ∙ ap (take (length t)) (drop_at d (t ++ rest) (length d) refl)
    ∙ take_at t rest (length t) refl

-- as many posts are taken as the turns have
taken_all : (s : State) (c : ℕ) → Facts s → slice_index s.taken c ≡ length (of_caller c (all_turns s))
taken_all s c f = sym (length-take-le (slice_index s.taken c) (list_of s.posted c) (f.taken c)) ∙ ap length (sym (f.posts c))

next_is : (s : State) (turn : List (List Post)) → Facts s → length turn ≡ s.map.callers → CanStage s turn → next_posts s.posted s.taken (map length turn) ≡ turn
next_is s turn f wide next =
    let ks : List ℕ = map length turn in
    ext_get_or [] (next_posts s.posted s.taken ks) turn (length-next_posts s.posted s.taken ks ∙ f.wide.posted ∙ sym wide) (λ c h.
    next_posts_at s.posted s.taken ks c
    ∙ ap (λ (n : ℕ). take n (drop (slice_index s.taken c) (list_of s.posted c))) (lengths_at turn c)
    ∙ ap (λ (n : ℕ). take (length (list_of turn c)) (drop n (list_of s.posted c))) (taken_all s c f)
    ∙ ap (λ (l : List Post). take (length (list_of turn c)) (drop (length (of_caller c (all_turns s))) l)) (sym (next c).1)
    ∙ cut_out (of_caller c (all_turns s)) (list_of turn c) (next c).0)

enough : (s : State) (turn : List (List Post)) → Facts s → CanStage s turn → (c : ℕ) → slice_index (map length turn) c ≤ length (list_of s.posted c) - slice_index s.taken c
enough s turn f next c =
    let d : List Post = of_caller c (all_turns s) in
    let t : List Post = list_of turn c in
    omega (arith, lengths_at turn c, taken_all s c f, ap length (next c).1, length-append (d ++ t) (next c).0, length-append d t)

-- the turn is staged, also beside a running one
pub stage_step : (s : State) (turn : List (List Post)) → Facts s → s.staged ≡ None → length turn ≡ s.map.callers → CanStage s turn → IsStep s (Stage (map length turn)) None (in_stage s turn)
stage_step s turn f e wide next = record {
  enabled = none_or (why_staged (last_turn s) s.staged) _ (ap (why_staged (last_turn s)) e)
      (none_or (why_not_each s.map.callers (map length turn)) (why_few 0 s.posted s.taken (map length turn))
      (none_unless (length (map length turn) == s.map.callers) (Callers s.map.callers) (eq-eqb (length (map length turn)) s.map.callers (length-map turn length ∙ wide)))
      (few_none 0 s.posted s.taken (map length turn) (enough s turn f next)));
  effect = (refl, ap (λ (t : List (List Post)). record s { taken = added_up s.taken (map length t); staged = Some t }) (sym (next_is s turn f wide next)));
}

-- ---- the jobs of a turn

pub start_step : (s : State) (turn : List (List Post)) → s.staged ≡ Some turn → s.running ≡ None → IsStep s Start None (in_run s (begun turn))
start_step s turn e r = record {
  enabled = none_or (why_none_staged (last_turn s) s.staged) (why_running (running_turn s) s.running)
      (ap (why_none_staged (last_turn s)) e) (ap (why_running (running_turn s)) r);
  effect = (refl, sym (ap (started s) e));
}

abbrev run_at : List (List Post) → ℕ → List (Option Answer) → Run
run_at turn count answers = record { turn = turn; claimed = count; answers = answers }

claims : (s : State) (turn : List (List Post)) (answers : List (Option Answer)) (k n : ℕ) → k + n ≡ length (jobs turn)
    → Reaches (in_run s (run_at turn k answers)) (replicate n Claim) (in_run s (run_at turn (k + n) answers))
claims s turn answers k zero e = reach_none _ _ (ap (λ (j : ℕ). in_run s (run_at turn j answers)) (let f : k ≡ k + 0 = omega arith in f))
claims s turn answers k (suc n) e =
    let step : IsStep (in_run s (run_at turn k answers)) Claim None (in_run s (run_at turn (k + 1) answers)) = record {
      enabled = none_unless (nat_lt k (length (jobs turn))) (AllClaimed (length (jobs turn))) (lt-ltb k (length (jobs turn)) (omega arith));
      effect = (refl, refl);
    } in
    reach_step (in_run s (run_at turn k answers)) Claim None (in_run s (run_at turn (k + 1) answers)) (replicate n Claim) (in_run s (run_at turn (k + suc n) answers)) step
    (subst (λ (j : ℕ). Reaches (in_run s (run_at turn (k + 1) answers)) (replicate n Claim) (in_run s (run_at turn j answers)))
    (let f : (k + 1) + n ≡ k + suc n = omega arith in f)
    (claims s turn answers (k + 1) n (omega arith)))

-- the request that the answer at a place is one to
pub solved_at : (m : Map) (final : Standing) (qs : List Request) (front : List Answer) (r : Answer) (rest : List Answer) → AreAnswersTo m final qs (front ++ r ∷ rest)
    → (q : Request) × ((slice_get qs (length front) ≡ Some q) × IsAnswerTo m final q r)
solved_at m final [] [] r rest x = absurd x
solved_at m final [] (f ∷ front) r rest x = absurd x
solved_at m final (q ∷ qs) [] r rest x = (q, (refl, x.0))
solved_at m final (q ∷ qs) (f ∷ front) r rest x = solved_at m final qs front r rest x.1

pub length_solved : (m : Map) (final : Standing) (qs : List Request) (rs : List Answer) → AreAnswersTo m final qs rs → length rs ≡ length qs
length_solved m final [] [] x = refl
length_solved m final [] (r ∷ rs) x = absurd x
length_solved m final (q ∷ qs) [] x = absurd x
length_solved m final (q ∷ qs) (r ∷ rs) x = ap suc (length_solved m final qs rs x.1)

abbrev some_answer : Answer → Option Answer
some_answer r = Some r

abbrev unknown : ℕ → List (Option Answer)
unknown n = replicate n None

-- the jobs from the given one on are answered
finish_all : (s : State) (turn : List (List Post)) (n : ℕ) (front rest : List Answer) (k : ℕ) → length front ≡ k → n ≡ length (jobs turn)
    → AreAnswersTo s.map (after_turn s.map (stands_after_done s) turn) (jobs turn) (front ++ rest)
    → Reaches (in_run s (run_at turn n (map some_answer front ++ unknown (length rest)))) (finishes k (length rest)) (in_run s (run_at turn n (map some_answer (front ++ rest))))
finish_all s turn n front [] k here all x =
    reach_none _ _ (ap (λ (l : List (Option Answer)). in_run s (run_at turn n l)) (append-nil (map some_answer front) ∙ ap (map some_answer) (sym (append-nil front))))
finish_all s turn n front (r ∷ rest) k here all x =
    let final : Standing = after_turn s.map (stands_after_done s) turn in
    let told : List (Option Answer) = map some_answer front in
    let old : List (Option Answer) = told ++ None ∷ unknown (length rest) in
    let new : List (Option Answer) = map some_answer (front ++ r ∷ []) ++ unknown (length rest) in
    let place : length told ≡ k = length-map front some_answer ∙ here in
    let within : k < n = omega (arith, length_solved s.map final (jobs turn) (front ++ r ∷ rest) x, length-append front (r ∷ rest)) in
    let at = solved_at s.map final (jobs turn) front r rest x in
    let same : new ≡ set old k (Some r) =
    ap (λ (l : List (Option Answer)). l ++ unknown (length rest)) (map_push some_answer front r)
    ∙ append_assoc told (Some r ∷ []) (unknown (length rest))
    ∙ sym (set_at told None (unknown (length rest)) (Some r) k place) in
    let step : IsStep (in_run s (run_at turn n old)) (Finish k) None (in_run s (run_at turn n new)) = record {
      enabled = none_or (unless (nat_lt k n) (Claimed n)) (why_answered k (slice_index_or old k None))
          (none_unless (nat_lt k n) (Claimed n) (lt-ltb k n within))
          (ap (why_answered k) (get_or_at told None (unknown (length rest)) None k place));
      effect = (refl, (r, ((at.0, (subst (λ (j : ℕ). slice_get (jobs turn) j ≡ Some at.0) here at.1.0, at.1.1)), ap (λ (l : List (Option Answer)). in_run s (run_at turn n l)) same)));
    } in
    reach_step (in_run s (run_at turn n old)) (Finish k) None (in_run s (run_at turn n new)) (finishes (k + 1) (length rest)) (in_run s (run_at turn n (map some_answer (front ++ r ∷ rest)))) step
    (subst (λ (l : List Answer). Reaches (in_run s (run_at turn n new)) (finishes (k + 1) (length rest)) (in_run s (run_at turn n (map some_answer l)))) (append_assoc front (r ∷ []) rest)
    (finish_all s turn n (front ++ r ∷ []) rest (k + 1) (omega (arith, length-append front (r ∷ []))) all
    (subst (AreAnswersTo s.map final (jobs turn)) (sym (append_assoc front (r ∷ []) rest)) x)))

-- the staged turn runs, and its jobs get these answers
pub turn_answered : (s : State) (turn : List (List Post)) (rs : List Answer) → s.staged ≡ Some turn → s.running ≡ None
    → AreAnswersTo s.map (after_turn s.map (stands_after_done s) turn) (jobs turn) rs → Reaches s (answering turn) (in_run s (answered_run turn rs))
turn_answered s turn rs e r x =
    let n : ℕ = length (jobs turn) in
    let count : length rs ≡ n = length_solved s.map (after_turn s.map (stands_after_done s) turn) (jobs turn) rs x in
    let begins : Reaches s (Start ∷ replicate n Claim) (in_run s (run_at turn (0 + n) (unknown n))) =
    reach_step s Start None (in_run s (begun turn)) (replicate n Claim) (in_run s (run_at turn (0 + n) (unknown n))) (start_step s turn e r)
    (claims s turn (unknown n) 0 n (omega arith)) in
    let solves : Reaches (in_run s (run_at turn (0 + n) (unknown n))) (finishes 0 n) (in_run s (run_at turn (0 + n) (map some_answer rs))) =
    subst (λ (j : ℕ). Reaches (in_run s (run_at turn (0 + n) (unknown j))) (finishes 0 j) (in_run s (run_at turn (0 + n) (map some_answer rs)))) count
    (finish_all s turn (0 + n) [] rs 0 refl (omega arith) x) in
    subst (λ (j : ℕ). Reaches s (answering turn) (in_run s (run_at turn j (map some_answer rs)))) (let f : 0 + n ≡ n = omega arith in f)
    (reach-append s (Start ∷ replicate n Claim) (in_run s (run_at turn (0 + n) (unknown n))) (finishes 0 n) (in_run s (run_at turn (0 + n) (map some_answer rs))) begins solves)

-- ---- deliveries

all_answered : (k : ℕ) (rs : List Answer) → why_unanswered k (map some_answer rs) ≡ None
all_answered k [] = refl
all_answered k (r ∷ rs) = all_answered (k + 1) rs

known_all : (rs : List Answer) → known (map some_answer rs) ≡ rs
known_all [] = refl
known_all (r ∷ rs) = ap (λ (l : List Answer). r ∷ l) (known_all rs)

-- the running turn is delivered, whose jobs have these answers
pub deliver_step : (s : State) (turn : List (List Post)) (rs : List Answer) (rss : List (List Reply)) → s.running ≡ Some (answered_run turn rs)
    → AreAnswersTo s.map (after_turn s.map (stands_after_done s) turn) (jobs turn) rs → AreTurnReplies s.map (after_turn s.map (stands_after_done s) turn) (stands_after_done s) turn rss
    → IsStep s Deliver None (at_end s turn rss)
deliver_step s turn rs rss e x y =
    let before : Standing = stands_after_done s in
    let final : Standing = after_turn s.map before turn in
    let n : ℕ = length (jobs turn) in
    let same : given_turn s.map before turn (known (map some_answer rs)) ≡ rss =
    ap (given_turn s.map before turn) (known_all rs) ∙ one_turn s.map final before turn (given_turn s.map before turn rs) rss (given_turn_are s.map final before turn rs x) y in
    record {
      enabled = ap (why_no_delivery (last_turn s)) e
          ∙ none_or (unless (nat_le n n) (Unclaimed n)) (why_unanswered 0 (map some_answer rs))
          (none_unless (nat_le n n) (Unclaimed n) (le-leb n n (omega arith)))
          (all_answered 0 rs);
      effect = (refl, ap (at_end s turn) (sym same) ∙ sym (ap (delivered s) e));
    }
