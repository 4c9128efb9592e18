-- Where nothing is staged or running, each post that is taken has one reply.
use Rattle.std.proofs.Common.{◌≡◌, ℕ, ◌+◌, List, [], ◌++◌, Option, None, length, slice_index, sym, ap, ◌∙◌, arith, append-nil, length-append, length-take-le}
use Rattle.posts.specs.declared.posts.Post.{Post}
use Rattle.posts.specs.Callers.{of_caller, list_of}
use Rattle.turn_core.specs.Words.{bare}
use Rattle.turn_core.proofs.ReplyCounts.{as_many}
use Rattle.path_service.specs.machine.States.{State, Run}
use Rattle.path_service.specs.machine.Facts.{running_turns, staged_turns, all_turns, Facts}
use Rattle.path_service.proofs.machine.CallerLists.{of_caller-append}

-- where nothing is staged or running, all turns are done
pub all_done : (s : State) → s.staged ≡ None → s.running ≡ None → all_turns s ≡ s.done
all_done s e f =
    ap (λ (o : Option (List (List Post))). s.done ++ running_turns s.running ++ staged_turns o) e
    ∙ ap (λ (r : Option Run). s.done ++ running_turns r ++ []) f
    ∙ append-nil (s.done ++ []) ∙ append-nil s.done

-- as many posts are taken as the turns that are done have
pub taken_done : (s : State) (c : ℕ) → Facts s → s.staged ≡ None → s.running ≡ None → slice_index s.taken c ≡ length (of_caller c s.done)
taken_done s c f e r =
    sym (length-take-le (slice_index s.taken c) (list_of s.posted c) (f.taken c))
    ∙ ap length (sym (f.posts c) ∙ ap (of_caller c) (all_done s e r))

-- of the posts that are taken, those in turns that are done have their replies
pub replies_counted : (s : State) (c : ℕ) → Facts s
    → length (list_of s.replies c) + length (of_caller c (running_turns s.running)) + length (of_caller c (staged_turns s.staged)) ≡ slice_index s.taken c
replies_counted s c f =
    let done = s.done in
    let running = running_turns s.running in
    let staged = staged_turns s.staged in
    let taken : slice_index s.taken c ≡ length (of_caller c (done ++ running ++ staged)) =
    sym (length-take-le (slice_index s.taken c) (list_of s.posted c) (f.taken c)) ∙ ap length (sym (f.posts c)) in
    let replies : length (list_of s.replies c) ≡ length (of_caller c done) = ap length (f.replies.each c) ∙ as_many s.map bare done f.replies.all c f.replies.one_thread in
    omega (
      arith,
      taken,
      replies,
      ap length (of_caller-append c (done ++ running) staged),
      length-append (of_caller c (done ++ running)) (of_caller c staged),
      ap length (of_caller-append c done running),
      length-append (of_caller c done) (of_caller c running),
    )

pub settled : (s : State) → Facts s → s.staged ≡ None → s.running ≡ None → ((c : ℕ) → slice_index s.taken c ≡ length (list_of s.posted c)) → (c : ℕ) → length (list_of s.replies c) ≡ length (list_of s.posted c)
settled s f e r all_taken c =
    ap length (f.replies.each c) ∙ as_many s.map bare s.done f.replies.all c f.replies.one_thread
    ∙ sym (taken_done s c f e r) ∙ all_taken c
