-- Each event keeps what holds of the states that the machine reaches.
use Rattle.std.proofs.Common.{◌≡◌, ℕ, ◌+◌, ◌<◌, ◌≤◌, Bool, true, false, List, [], ◌∷◌, ◌++◌, Option, None, Some, length, map, take, drop, set, slice_index, refl, sym, ap, ◌∙◌, subst, inl, inr, arith, append-nil, length-append, length-set}
use Rattle.std.specs.Prelude.{nat_lt, nat_le}
use Rattle.std.proofs.lemmas.List.{get_or-set_other, take-append-le, length-map, length-replicate}
use Rattle.std.proofs.lemmas.Bool.{ltb-true}
use Rattle.posts.specs.declared.posts.Post.{Post}
use Rattle.posts.specs.declared.replies.Answer.{Answer}
use Rattle.posts.specs.declared.replies.Reply.{Reply}
use Rattle.posts.specs.Maps.{Map}
use Rattle.posts.specs.Posts.{jobs}
use Rattle.posts.specs.Callers.{of_caller, list_of}
use Rattle.path_service.specs.declared.events.Event.{Event}
use Rattle.path_service.specs.declared.events.Event.TheVariants.{Post as Posting, Stage, Start, Claim, Finish, Deliver, Collect}
use Rattle.path_service.specs.declared.events.Why.{Why}
use Rattle.turn_core.specs.Words.{Standing, bare}
use Rattle.turn_core.specs.Turns.{after_turn}
use Rattle.path_service.specs.machine.States.{State, Run, opening, stands_after_done, stands_in_run}
use Rattle.path_service.specs.machine.Table.{unless, or_else, why_no_caller, why_staged, why_none_staged, why_running, why_no_claim, why_no_finish, why_unanswered, why_no_delivery, last_turn, running_turn}
use Rattle.path_service.specs.machine.Effects.{next_posts, added_up, known, posted, staged, started, claimed, finished, delivered, collected, AnswersJob, IsStep, IsMachineRun}
use Rattle.turn_core.specs.Given.{given_turn}
use Rattle.path_service.specs.machine.Facts.{running_turns, staged_turns, all_turns, HaveLists, IsRunning, WhileRunning, Facts}
use Rattle.path_service.proofs.machine.CallerLists.{next_posts_at, length-next_posts, added_up_at, length-added_up, joined_up_at, length-joined_up, lengths_at, none_at, zeros_at, pushed_at, raised_at, of_caller_push, take_further, length_further}
use Rattle.turn_core.proofs.Threads.{thread_more}
use Rattle.path_service.proofs.machine.JobAnswers.{solves_known, length-given_turn, answers_none, none_answered_at, answers_set}
use Rattle.turn_core.proofs.Answering.{given_turn_are}

-- the first cause is none, and so is the second
pub first_none : (a b : Option Why) → or_else a b ≡ None → a ≡ None
first_none None b e = refl
first_none (Some why) b e = e

pub second_none : (a b : Option Why) → or_else a b ≡ None → b ≡ None
second_none None b e = e
second_none (Some why) b e = cc

-- there is no cause only where the condition holds
pub unless_none : (b : Bool) (why : Why) → unless b why ≡ None → b ≡ true
unless_none true why e = refl
unless_none false why e = cc

pub lists-append : (n : ℕ) (xs ys : List (List (List Post))) → HaveLists n xs → HaveLists n ys → HaveLists n (xs ++ ys)
lists-append n [] ys x y = y
lists-append n (t ∷ xs) ys x y = (x.0, lists-append n xs ys x.1 y)

pub lists_front : (n : ℕ) (xs ys : List (List (List Post))) → HaveLists n (xs ++ ys) → HaveLists n xs
lists_front n [] ys x = tt
lists_front n (t ∷ xs) ys x = (x.0, lists_front n xs ys x.1)

pub lists_back : (n : ℕ) (xs ys : List (List (List Post))) → HaveLists n (xs ++ ys) → HaveLists n ys
lists_back n [] ys x = x
lists_back n (t ∷ xs) ys x = lists_back n xs ys x.1

-- a caller posts
posted_posts : (s : State) (c : ℕ) (p : Post) → Facts s → (d : ℕ) → take (slice_index s.taken d) (list_of s.posted d) ≡ take (slice_index s.taken d) (list_of (posted s c p).posted d)
posted_posts s c p f d =
    elim (pushed_at s.posted c p d) [
      | inl e ↦ ap (take (slice_index s.taken d)) (sym e)
      | inr e ↦ sym (ap (take (slice_index s.taken d)) e ∙ take-append-le (slice_index s.taken d) (list_of s.posted d) (p ∷ []) (f.taken d))
    ]

posted_most : (s : State) (c : ℕ) (p : Post) (d : ℕ) → length (list_of s.posted d) ≤ length (list_of (posted s c p).posted d)
posted_most s c p d =
    elim (pushed_at s.posted c p d) [
      | inl e ↦ omega (arith, ap length e)
      | inr e ↦ omega (arith, ap length e, length-append (list_of s.posted d) (p ∷ []))
    ]

pub kept_post : (s : State) (c : ℕ) (p : Post) → Facts s → Facts (posted s c p)
kept_post s c p f = record {
  wide = record {
    posted = length-set s.posted c (list_of s.posted c ++ p ∷ []) ∙ f.wide.posted;
    taken = f.wide.taken;
    replies = f.wide.replies;
    collected = f.wide.collected;
    turns = f.wide.turns;
  };
  posts = λ d. f.posts d ∙ posted_posts s c p f d;
  taken = λ d. omega (arith, f.taken d, posted_most s c p d);
  replies = f.replies;
  running = f.running;
  collected = f.collected;
}

-- a turn is staged
pub kept_stage : (s : State) (takes : List ℕ) → s.staged ≡ None → Facts s → Facts (staged s takes)
kept_stage s takes none f =
    let next : List (List Post) = next_posts s.posted s.taken takes in
    let turns : List (List (List Post)) = s.done ++ running_turns s.running in
    let old : all_turns s ≡ turns = ap (λ (o : Option (List (List Post))). turns ++ staged_turns o) none ∙ append-nil turns in
    let at : (d : ℕ) → slice_index (added_up s.taken (map length next)) d ≡ slice_index s.taken d + length (list_of next d) =
    λ d. added_up_at s.taken (map length next) d ∙ ap (λ (n : ℕ). slice_index s.taken d + n) (lengths_at next d) in
    let part : (d : ℕ) → list_of next d ≡ take (slice_index takes d) (drop (slice_index s.taken d) (list_of s.posted d)) = next_posts_at s.posted s.taken takes in
    record {
      wide = record {
        posted = f.wide.posted;
        taken = length-added_up s.taken (map length next) (length-map next length ∙ length-next_posts s.posted s.taken takes ∙ f.wide.posted ∙ sym f.wide.taken) ∙ f.wide.taken;
        replies = f.wide.replies;
        collected = f.wide.collected;
        turns = lists-append s.map.callers turns (next ∷ []) (subst (HaveLists s.map.callers) old f.wide.turns) (length-next_posts s.posted s.taken takes ∙ f.wide.posted, tt);
      };
      posts = λ d. of_caller_push d turns next
          ∙ ap (λ (l : List Post). l ++ list_of next d) (ap (of_caller d) (sym old) ∙ f.posts d)
          ∙ ap (λ (l : List Post). take (slice_index s.taken d) (list_of s.posted d) ++ l) (part d)
          ∙ sym (take_further (slice_index s.taken d) (slice_index takes d) (list_of s.posted d))
          ∙ ap (λ (l : List Post). take (slice_index s.taken d + length l) (list_of s.posted d)) (sym (part d))
          ∙ ap (λ (n : ℕ). take n (list_of s.posted d)) (sym (at d));
      taken = λ d. omega (arith, at d, ap length (part d), length_further (slice_index s.taken d) (slice_index takes d) (list_of s.posted d) (f.taken d));
      replies = f.replies;
      running = f.running;
      collected = f.collected;
    }

-- the staged turn begins to run
pub kept_start : (s : State) (o : Option (List (List Post))) → s.staged ≡ o → s.running ≡ None → Facts s → Facts (started s o)
kept_start s None e none f = f
kept_start s (Some turn) e none f =
    let same : all_turns (started s (Some turn)) ≡ all_turns s =
    append-nil (s.done ++ turn ∷ [])
    ∙ ap (λ (l : List (List (List Post))). l ++ turn ∷ []) (sym (append-nil s.done))
    ∙ ap (λ (r : Option Run). s.done ++ running_turns r ++ turn ∷ []) (sym none)
    ∙ ap (λ (o : Option (List (List Post))). s.done ++ running_turns s.running ++ staged_turns o) (sym e) in
    record {
      wide = record {
        posted = f.wide.posted;
        taken = f.wide.taken;
        replies = f.wide.replies;
        collected = f.wide.collected;
        turns = subst (HaveLists s.map.callers) (sym same) f.wide.turns;
      };
      posts = λ d. ap (of_caller d) same ∙ f.posts d;
      taken = f.taken;
      replies = f.replies;
      running = record {
        answers = answers_none s.map (after_turn s.map (stands_after_done s) turn) (jobs turn);
        claimed = omega arith;
        unclaimed = λ job h. none_answered_at (length (jobs turn)) job;
      };
      collected = f.collected;
    }

-- another run of the same turn
pub kept_run : (s : State) (run new : Run) → s.running ≡ Some run → new.turn ≡ run.turn → IsRunning s.map (stands_after_done s) new → Facts s → Facts (record s { running = Some new })
kept_run s run new e turn held f =
    let same : all_turns (record s { running = Some new }) ≡ all_turns s =
    ap (λ (t : List (List Post)). s.done ++ t ∷ [] ++ staged_turns s.staged) turn
    ∙ ap (λ (r : Option Run). s.done ++ running_turns r ++ staged_turns s.staged) (sym e) in
    record {
      wide = record {
        posted = f.wide.posted;
        taken = f.wide.taken;
        replies = f.wide.replies;
        collected = f.wide.collected;
        turns = subst (HaveLists s.map.callers) (sym same) f.wide.turns;
      };
      posts = λ d. ap (of_caller d) same ∙ f.posts d;
      taken = f.taken;
      replies = f.replies;
      running = held;
      collected = f.collected;
    }

-- what holds of the running turn
pub running_is : (s : State) (run : Run) → s.running ≡ Some run → Facts s → IsRunning s.map (stands_after_done s) run
running_is s run e f = subst (WhileRunning s.map (stands_after_done s)) e f.running

-- a job is claimed
pub kept_claim : (s : State) (o : Option Run) (last : ℕ) → s.running ≡ o → why_no_claim last o ≡ None → Facts s → Facts (claimed s o)
kept_claim s None last e why f = f
kept_claim s (Some run) last e why f =
    let held : IsRunning s.map (stands_after_done s) run = running_is s run e f in
    let less : run.claimed < length (jobs run.turn) = ltb-true run.claimed (length (jobs run.turn)) (unless_none (nat_lt run.claimed (length (jobs run.turn))) _ why) in
    kept_run s run (record run { claimed = run.claimed + 1 }) e refl (record {
      answers = held.answers;
      claimed = omega arith;
      unclaimed = λ job h. held.unclaimed job (omega arith);
    }) f

-- a job is answered
pub kept_finish : (s : State) (o : Option Run) (job last : ℕ) (r : Answer) → s.running ≡ o → why_no_finish job last o ≡ None → AnswersJob s job r o → Facts s → Facts (finished s job r o)
kept_finish s None job last r e why x f = f
kept_finish s (Some run) job last r e why x f =
    let held : IsRunning s.map (stands_after_done s) run = running_is s run e f in
    let less : job < run.claimed = ltb-true job run.claimed (unless_none (nat_lt job run.claimed) _ (first_none (unless (nat_lt job run.claimed) _) _ why)) in
    kept_run s run (record run { answers = set run.answers job (Some r) }) e refl (record {
      answers = answers_set s.map (stands_in_run s run) (jobs run.turn) run.answers job x.0 r held.answers x.1.0 x.1.1;
      claimed = held.claimed;
      unclaimed = λ k h. get_or-set_other run.answers job k (Some r) None (λ same. absurd (omega (arith, same))) ∙ held.unclaimed k h;
    }) f

-- the running turn is done
pub kept_deliver : (s : State) (o : Option Run) (last : ℕ) → s.running ≡ o → why_no_delivery last o ≡ None → Facts s → Facts (delivered s o)
kept_deliver s None last e why f = f
kept_deliver s (Some run) last e why f =
    let m : Map = s.map in
    let before : Standing = stands_after_done s in
    let held : IsRunning m before run = running_is s run e f in
    let answers : List Answer = known run.answers in
    let rss : List (List Reply) = given_turn m before run.turn answers in
    let all_known : why_unanswered 0 run.answers ≡ None = second_none (unless (nat_le (length (jobs run.turn)) run.claimed) _) (why_unanswered 0 run.answers) why in
    let are = given_turn_are m (stands_in_run s run) before run.turn answers (solves_known m (stands_in_run s run) (jobs run.turn) run.answers 0 held.answers all_known) in
    let same : all_turns (delivered s (Some run)) ≡ all_turns s =
    ap (λ (l : List (List (List Post))). l ++ staged_turns s.staged) (append-nil (s.done ++ run.turn ∷ []))
    ∙ ap (λ (r : Option Run). s.done ++ running_turns r ++ staged_turns s.staged) (sym e) in
    let wide : length run.turn ≡ m.callers =
    (lists_back m.callers s.done (run.turn ∷ []) (lists_front m.callers (s.done ++ run.turn ∷ []) (staged_turns s.staged)
    (subst (HaveLists m.callers) (ap (λ (r : Option Run). s.done ++ running_turns r ++ staged_turns s.staged) e) f.wide.turns))).0 in
    record {
      wide = record {
        posted = f.wide.posted;
        taken = f.wide.taken;
        replies = length-joined_up s.replies rss (length-given_turn m before run.turn answers ∙ wide ∙ sym f.wide.replies) ∙ f.wide.replies;
        collected = f.wide.collected;
        turns = subst (HaveLists m.callers) (sym same) f.wide.turns;
      };
      posts = λ d. ap (of_caller d) same ∙ f.posts d;
      taken = f.taken;
      replies = record {
        all = f.replies.all ++ rss ∷ [];
        one_thread = thread_more m bare s.done run.turn f.replies.all rss f.replies.one_thread are;
        each = λ d. joined_up_at s.replies rss d ∙ ap (λ (l : List Reply). l ++ list_of rss d) (f.replies.each d) ∙ sym (of_caller_push d f.replies.all rss);
      };
      running = tt;
      collected = λ d. omega (arith, f.collected d, ap length (joined_up_at s.replies rss d), length-append (list_of s.replies d) (list_of rss d));
    }

-- a caller collects
pub kept_collect : (s : State) (c : ℕ) → slice_index s.collected c < length (list_of s.replies c) → Facts s → Facts (collected s c)
kept_collect s c less f = record {
  wide = record {
    posted = f.wide.posted;
    taken = f.wide.taken;
    replies = f.wide.replies;
    collected = length-set s.collected c (slice_index s.collected c + 1) ∙ f.wide.collected;
    turns = f.wide.turns;
  };
  posts = f.posts;
  taken = f.taken;
  replies = f.replies;
  running = f.running;
  collected = λ d. elim (raised_at s.collected c d) [
    | inl e ↦ omega (arith, e, f.collected d)
    | inr e ↦ let n : length (list_of s.replies d) ≡ length (list_of s.replies c) = ap (λ (k : ℕ). length (list_of s.replies k)) e.0 in omega (arith, e.1, less)
  ];
}

-- each step keeps the facts
pub kept : (old : State) (event : Event) (handed : Option Reply) (new : State) → Facts old → IsStep old event handed new → Facts new
kept old (Posting c p) handed new f step = subst Facts (sym step.effect.1) (kept_post old c p f)
kept old (Stage takes) handed new f step = subst Facts (sym step.effect.1) (kept_stage old takes (not_staged old.staged (first_none (why_staged (last_turn old) old.staged) _ step.enabled)) f)
  where
    not_staged : (o : Option (List (List Post))) → why_staged (last_turn old) o ≡ None → o ≡ None
    not_staged None e = refl
    not_staged (Some turn) e = cc
kept old Start handed new f step = subst Facts (sym step.effect.1) (kept_start old old.staged refl (not_running old.running (second_none (why_none_staged (last_turn old) old.staged) _ step.enabled)) f)
  where
    not_running : (o : Option Run) → why_running (running_turn old) o ≡ None → o ≡ None
    not_running None e = refl
    not_running (Some run) e = cc
kept old Claim handed new f step = subst Facts (sym step.effect.1) (kept_claim old old.running (last_turn old) refl step.enabled f)
kept old (Finish job) handed new f step =
    subst Facts (sym step.effect.1.1.1) (kept_finish old old.running job (last_turn old) step.effect.1.0 refl step.enabled step.effect.1.1.0 f)
kept old Deliver handed new f step = subst Facts (sym step.effect.1) (kept_deliver old old.running (last_turn old) refl step.enabled f)
kept old (Collect c) handed new f step =
    subst Facts (sym step.effect.1) (kept_collect old c
    (ltb-true (slice_index old.collected c) (length (list_of old.replies c)) (unless_none (nat_lt (slice_index old.collected c) (length (list_of old.replies c))) _ (second_none (why_no_caller old.map.callers c) _ step.enabled))) f)

-- the facts hold at the opening
pub facts_at_opening : (m : Map) → Facts (opening m)
facts_at_opening m = record {
  wide = record {
    posted = length-replicate m.callers [];
    taken = length-replicate m.callers 0;
    replies = length-replicate m.callers [];
    collected = length-replicate m.callers 0;
    turns = tt;
  };
  posts = λ d. ap (λ (n : ℕ). take n (list_of (opening m).posted d)) (sym (zeros_at m.callers d));
  taken = λ d. omega (arith, zeros_at m.callers d);
  replies = record { all = []; one_thread = tt; each = λ d. none_at Reply m.callers d };
  running = tt;
  collected = λ d. omega (arith, zeros_at m.callers d);
}

-- a run keeps the facts
pub kept_run_of : (old : State) (events : List Event) (handed : List (Option Reply)) (new : State) → Facts old → IsMachineRun old events handed new → Facts new
kept_run_of old [] [] new f run = subst Facts run f
kept_run_of old [] (h ∷ handed) new f run = absurd run
kept_run_of old (e ∷ events) [] new f run = absurd run
kept_run_of old (e ∷ events) (h ∷ handed) new f run = kept_run_of run.0 events handed new (kept old e h run.0 f run.1.0) run.1.1
