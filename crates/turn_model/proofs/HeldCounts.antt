-- How many replies there are to a caller, by what the machine of the code holds.
use Rattle.std.proofs.Common.{◌≡◌, ℕ, ◌+◌, List, Option, None, Some, length, slice_index, refl, sym, ap, ◌∙◌, append-nil, arith}
use Rattle.posts.specs.Callers.{of_caller, list_of}
use Rattle.turn_model.specs.declared.machines.running.RunningTurn.{RunningTurn}
use Rattle.turn_model.specs.declared.machines.Machine.TheInside.{Inside}
use Rattle.path_service.specs.machine.Facts.{running_turns, staged_turns, Facts}
use Rattle.turn_model.specs.inner.Runs.{option_run_of, option_posts_of, posts_held}
use Rattle.turn_model.specs.inner.Machines.{state_of}
use Rattle.path_service.proofs.machine.Settling.{replies_counted}

running_count : (o : Option RunningTurn) (c : ℕ) → length (of_caller c (running_turns (option_run_of o))) ≡ length (posts_held o c)
running_count None c = refl
running_count (Some held) c = ap length (append-nil (list_of held.ready.turn c))

staged_count : (o : Option RunningTurn) (c : ℕ) → length (of_caller c (staged_turns (option_posts_of o))) ≡ length (posts_held o c)
staged_count None c = refl
staged_count (Some held) c = ap length (append-nil (list_of held.ready.turn c))

-- the replies to a caller, its posts in the running turn and those in the staged one are as many as its posts that were
-- taken, by the list of numbers as it is read
pub held_count : (a : Inside) (c taken : ℕ) (read : List ℕ) → read ≡ a.taken.items → taken ≡ slice_index read c → Facts (state_of a)
    → length (list_of (state_of a).replies c) + length (posts_held a.running c) + length (posts_held a.staged c) ≡ taken
held_count a c taken read same is f =
    let counted : length (list_of (state_of a).replies c) + length (posts_held a.running c) + length (posts_held a.staged c) ≡ slice_index a.taken.items c =
    omega (arith, replies_counted (state_of a) c f, running_count a.running c, staged_count a.staged c) in
    counted ∙ ap (λ (ns : List ℕ). slice_index ns c) (sym same) ∙ sym is
