-- What closed services leave is reached by the turn machine.
use Rattle.std.proofs.Common.{◌≡◌, ℕ, zero, suc, ◌+◌, ◌<◌, ◌≤◌, false, List, [], ◌∷◌, ◌++◌, All, length, map, slice_index, sym, ap, ◌∙◌, subst, arith, append-nil, append_assoc, length-append, refl, inl, inr}
use Rattle.std.proofs.lemmas.Bool.{cases_lt}
use Rattle.std.proofs.lemmas.List.{length-map}
use Rattle.posts.specs.declared.posts.Post.{Post}
use Rattle.posts.specs.Callers.{of_caller, list_of}
use Rattle.turn_core.specs.Words.{bare}
use Rattle.turn_core.specs.Turns.{replies_in}
use Rattle.path_service.specs.machine.States.{State}
use Rattle.path_service.specs.machine.Facts.{running_turns, staged_turns, all_turns, HaveLists}
use Rattle.path_service.specs.machine.Arrival.{CanArrive}
use Rattle.path_service.proofs.machine.CallerLists.{of_caller-append}
use Rattle.turn_core.proofs.ReplyCounts.{as_many}
use Rattle.path_service.proofs.machine.Arriving.{arrives}
use Rattle.path_service.specs.Callers.{EndedState, ended_id, AreNumbered}
use Rattle.path_service.specs.Services.{DriverState, in_hand}
use Rattle.path_service.specs.Closings.{ClosedState, closed_by, HasLeft, PostedIsFound, IsClosedBy, posted_by, count_by, IsReachedByMachine}
use Rattle.std.proofs.lemmas.List.Elements.{All-head, All-tail}
use Rattle.path_service.proofs.RunStarts.{sent_all}

-- there is nothing at a place behind the last
list_past : {A : Type 0} (lists : List (List A)) (c : ℕ) → length lists ≤ c → list_of lists c ≡ []
list_past [] c past = refl
list_past (l ∷ lists) zero past = absurd (omega (arith, past))
list_past (l ∷ lists) (suc c) past = list_past lists c (omega (arith, past))

turns_past : (n : ℕ) (journal : List (List (List Post))) (c : ℕ) → HaveLists n journal → n ≤ c → of_caller c journal ≡ []
turns_past n [] c wide past = refl
turns_past n (turn ∷ journal) c wide past =
    ap (λ (l : List Post). l ++ of_caller c journal) (list_past turn c (omega (arith, wide.0, past)))
    ∙ turns_past n journal c wide.1 past

-- the posts of a caller in the turns that are done are the first of its posts
done_first : (s : State) (c : ℕ) (pending left posted : List Post) → posted ≡ of_caller c (all_turns s) ++ pending ++ left → (rest : List Post) × (of_caller c s.done ++ rest ≡ posted)
done_first s c pending left posted e =
    let done : List Post = of_caller c s.done in
    let running : List Post = of_caller c (running_turns s.running) in
    let staged : List Post = of_caller c (staged_turns s.staged) in
    let turns : of_caller c (all_turns s) ≡ done ++ running ++ staged =
    of_caller-append c (s.done ++ running_turns s.running) (staged_turns s.staged)
    ∙ ap (λ (l : List Post). l ++ staged) (of_caller-append c s.done (running_turns s.running)) in
    let apart : done ++ (running ++ (staged ++ (pending ++ left))) ≡ done ++ running ++ staged ++ pending ++ left =
    sym (append_assoc (done ++ running ++ staged) pending left ∙ append_assoc (done ++ running) staged (pending ++ left) ∙ append_assoc done running (staged ++ (pending ++ left))) in
    (running ++ (staged ++ (pending ++ left)), apart ∙ ap (λ (l : List Post). l ++ pending ++ left) (sym turns) ∙ sym e)

first_at : (d : DriverState) (n : ℕ) (ended : List EndedState) → AreNumbered n (map ended_id ended) → All (PostedIsFound d) ended → (c : ℕ) → c < length ended
    → (rest : List Post) × (of_caller (n + c) d.machine.done ++ rest ≡ list_of (map posted_by ended) c)
first_at d n [] numbers all c less = absurd (omega (arith, less))
first_at d n (x ∷ ended) numbers all zero less =
    let found = All-head (PostedIsFound d) x ended all in
    let first = done_first d.machine x.id.number (list_of (in_hand d.machine) x.id.number) found.0 x.posted found.1.1 in
    let own : n + 0 ≡ x.id.number = omega (arith, numbers.0) in
    (first.0, ap (λ (k : ℕ). of_caller k d.machine.done ++ first.0) own ∙ first.1)
first_at d n (x ∷ ended) numbers all (suc c) less =
    let first = first_at d (n + 1) ended numbers.1 (All-tail (PostedIsFound d) x ended all) c (omega (arith, less)) in
    let next : n + suc c ≡ (n + 1) + c = omega arith in
    (first.0, ap (λ (k : ℕ). of_caller k d.machine.done ++ first.0) next ∙ first.1)

-- a caller collected no more replies than were sent to it
count_at : (d : DriverState) (n : ℕ) (ended : List EndedState) → AreNumbered n (map ended_id ended) → All HasLeft (map (closed_by d) ended) → (c : ℕ)
    → slice_index (map count_by ended) c ≤ length (list_of d.sent (n + c))
count_at d n [] numbers all c = omega arith
count_at d n (x ∷ ended) numbers all zero =
    let left = (All-head HasLeft (closed_by d x) (map (closed_by d) ended) all).replies in
    let own : x.id.number ≡ n + 0 = omega (arith, numbers.0) in
    let sent : length (list_of d.sent x.id.number) ≡ length (list_of d.sent (n + 0)) = ap (λ (k : ℕ). length (list_of d.sent k)) own in
    omega (arith, sent, ap length left.1, length-append x.collected left.0)
count_at d n (x ∷ ended) numbers all (suc c) =
    let next : (n + 1) + c ≡ n + suc c = omega arith in
    subst (λ (k : ℕ). slice_index (map count_by ended) c ≤ length (list_of d.sent k)) next
    (count_at d (n + 1) ended numbers.1 (All-tail HasLeft (closed_by d x) (map (closed_by d) ended) all) c)

can_arrive : (d : DriverState) (ended : List EndedState) (closed : ClosedState) → d.failed ≡ false → IsClosedBy d ended closed
    → CanArrive closed.map closed.journal (map posted_by ended) (map count_by ended)
can_arrive d ended closed sound k =
    let lists : length (map posted_by ended) ≡ closed.map.callers = length-map ended posted_by ∙ k.count in
    let posts : (c : ℕ) → c < length ended → (rest : List Post) × (of_caller c closed.journal ++ rest ≡ list_of (map posted_by ended) c) = λ c less.
    let first = first_at d 0 ended k.numbers k.posts c less in
    let here : c ≡ 0 + c = omega arith in (
      first.0,
      ap (λ (j : List (List (List Post))). of_caller c j ++ first.0) k.journal
          ∙ ap (λ (n : ℕ). of_caller n d.machine.done ++ first.0) here
          ∙ first.1,
    ) in
    record {
      turns = k.wide;
      lists = lists;
      numbers = length-map ended count_by ∙ k.count;
      first = λ c. elim (cases_lt c (length ended)) [
        | inl less ↦ posts c less
        | inr past ↦ (
          [],
          append-nil (of_caller c closed.journal)
              ∙ turns_past closed.map.callers closed.journal c k.wide (omega (arith, k.count, past))
              ∙ sym (list_past (map posted_by ended) c (omega (arith, lists, k.count, past))),
        )
      ];
      few = λ c.
          let here : 0 + c ≡ c = omega arith in
          let counted : slice_index (map count_by ended) c ≤ length (list_of d.sent (0 + c)) = count_at d 0 ended k.numbers (subst (All HasLeft) k.callers k.left) c in
          let sent : list_of d.sent (0 + c) ≡ of_caller c (replies_in closed.replies) =
          ap (list_of d.sent) here ∙ sent_all d closed.replies k.sent sound c ∙ append-nil (of_caller c (replies_in closed.replies)) in
          omega (arith, counted, ap length sent, as_many closed.map bare closed.journal (replies_in closed.replies) c k.replies.replies);
    }

pub reached : (d : DriverState) (ended : List EndedState) (closed : ClosedState) → d.failed ≡ false → IsClosedBy d ended closed → IsReachedByMachine ended closed
reached d ended closed sound k =
    arrives closed.map closed.journal (map posted_by ended) (map count_by ended) (replies_in closed.replies) (can_arrive d ended closed sound k) k.replies.replies
