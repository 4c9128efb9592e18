-- Sessions that have ended: all that callers were to post was posted, taken and delivered.
use Rattle.std.proofs.Common.{◌≡◌, ◌⊎◌, ℕ, zero, suc, ◌+◌, ◌≤◌, false, List, [], ◌∷◌, ◌++◌, All, length, map, take, drop, sum_by, slice_index, refl, sym, ap, ◌∙◌, subst, inl, inr, arith, append-nil, length-append}
use Rattle.std.specs.List.{AllByRecursion}
use Rattle.std.proofs.lemmas.List.{nil_from_length, take-append-drop}
use Rattle.posts.specs.declared.posts.Post.{Post}
use Rattle.posts.specs.declared.replies.Reply.{Reply}
use Rattle.posts.specs.Maps.{Map}
use Rattle.posts.specs.Callers.{of_caller, list_of}
use Rattle.posts.specs.Posts.{post_count}
use Rattle.turn_core.specs.Words.{bare}
use Rattle.turn_core.specs.Turns.{replies_in, IsOneThread}
use Rattle.path_service.specs.machine.States.{State, opening}
use Rattle.path_service.specs.machine.Facts.{Facts, HaveLists, running_turns, staged_turns, all_turns}
use Rattle.path_service.specs.machine.Arrival.{arrival}
use Rattle.path_service.proofs.machine.CallerLists.{of_caller-append}
use Rattle.path_service.proofs.machine.Keeping.{facts_at_opening, kept_run_of}
use Rattle.path_service.proofs.machine.Settling.{all_done}
use Rattle.turn_core.proofs.ReplyCounts.{as_many}
use Rattle.request_lanes.specs.Ends.{Closing}
use Rattle.path_service.specs.declared.closing.ClosedCaller.{ClosedCaller}
use Rattle.path_service.specs.Callers.{CallerId, EndedState, ended_id, AreNumbered}
use Rattle.path_service.specs.Services.{DriverState, started_on, in_hand}
use Rattle.path_service.specs.Closings.{ClosedState, HasLeft, closed_by, PostedIsFound, IsClosedBy, posted_by, count_by, IsReachedByMachine}
use Rattle.std.proofs.lemmas.List.Elements.{All-head, All-tail}
use Rattle.path_service.proofs.RunStarts.{sent_all}
use Rattle.path_service.proofs.ReachedServices.{reached}
use Rattle.pathserve.specs.Serving.{HasPost, IsJournalOf, all_taken, collected_by, post_lane, sent_to}
use Rattle.pathserve.specs.inner.Sessions.{IsDriven}
use Rattle.pathserve.proofs.EndedCallers.{AllPostedFirst, collected, posted_first as ended_first}
use Rattle.pathserve.proofs.JournalSums.{joined_turns, joined_at, count_journal, each_as_long}

-- a beginning that is as long is the whole
whole : {A : Type 0} (front rest all : List A) → front ++ rest ≡ all → length all ≤ length front → front ≡ all
whole front rest all e most =
    let none : rest ≡ [] = nil_from_length rest (omega (arith, ap length e, length-append front rest, most)) in
    sym (append-nil front) ∙ ap (λ (l : List _). front ++ l) (sym none) ∙ e

-- ---- what callers posted

pub ids_of_ended : (ids : List CallerId) (lists : List (List Post)) (ended : List EndedState) → AllPostedFirst ids lists ended → map ended_id ended ≡ ids
ids_of_ended [] [] [] all = refl
ids_of_ended [] [] (x ∷ ended) all = absurd all
ids_of_ended [] (ps ∷ lists) ended all = absurd all
ids_of_ended (id ∷ ids) [] ended all = absurd all
ids_of_ended (id ∷ ids) (ps ∷ lists) [] all = absurd all
ids_of_ended (id ∷ ids) (ps ∷ lists) (x ∷ ended) all =
    ap (λ (i : CallerId). i ∷ map ended_id ended) all.0.caller ∙ ap (λ (l : List CallerId). id ∷ l) (ids_of_ended ids lists ended all.1)

-- each caller's posts are the first of its list
posted_first : (ids : List CallerId) (lists : List (List Post)) (ended : List EndedState) (c : ℕ) → AllPostedFirst ids lists ended
    → (rest : List Post) × (list_of (map posted_by ended) c ++ rest ≡ list_of lists c)
posted_first [] [] [] c all = ([], refl)
posted_first [] [] (x ∷ ended) c all = absurd all
posted_first [] (ps ∷ lists) ended c all = absurd all
posted_first (id ∷ ids) [] ended c all = absurd all
posted_first (id ∷ ids) (ps ∷ lists) [] c all = absurd all
posted_first (id ∷ ids) (ps ∷ lists) (x ∷ ended) zero all = (all.0.rest, all.0.first)
posted_first (id ∷ ids) (ps ∷ lists) (x ∷ ended) (suc c) all = posted_first ids lists ended c all.1

-- its posts in the journal are the first of those
journal_first : (ended : List EndedState) (closed : ClosedState) (c : ℕ) → IsReachedByMachine ended closed
    → (rest : List Post) × (of_caller c closed.journal ++ rest ≡ list_of (map posted_by ended) c)
journal_first ended closed c k =
    let new : State = k.1.0 in
    let arrived = k.1.1.1 in
    let facts : Facts new = kept_run_of (opening closed.map) (arrival closed.journal (map posted_by ended) (map count_by ended)) k.0 new (facts_at_opening closed.map) k.1.1.0 in
    let lists : List (List Post) = map posted_by ended in
    let n = slice_index new.taken c in
    let taken : of_caller c closed.journal ≡ take n (list_of lists c) =
    ap (of_caller c) (sym (all_done new arrived.staged arrived.running ∙ arrived.done))
    ∙ facts.posts c
    ∙ ap (λ (l : List (List Post)). take n (list_of l c)) arrived.posted_lists in
    (drop n (list_of lists c), ap (λ (l : List Post). l ++ drop n (list_of lists c)) taken ∙ take-append-drop n (list_of lists c))

-- ---- a session that has ended

-- the callers of a driver that began on a map have ended, and its service is closed
pub record HasEnded (m : Map) (start d : DriverState) (posts : List (List Post)) (ended : List EndedState) (closed : ClosedState) : Type 0 where
  pub starts : start ≡ started_on m start.callers
  pub driven : IsDriven start d posts ended
  pub closes : IsClosedBy d ended closed

-- its callers posted the first of their lists
posted_so : (m : Map) (start d : DriverState) (posts : List (List Post)) (ended : List EndedState) (closed : ClosedState) → HasEnded m start d posts ended closed
    → AllPostedFirst start.callers posts ended
posted_so m start d posts ended closed k =
    ended_first d.sent start.callers posts k.driven.callers ended k.driven.posted k.driven.collected

pub on_its_map : (m : Map) (start d : DriverState) (posts : List (List Post)) (ended : List EndedState) (closed : ClosedState) → HasEnded m start d posts ended closed → closed.map ≡ m
on_its_map m start d posts ended closed k = k.closes.on_map ∙ k.driven.served.now.on_map ∙ ap (λ (s : DriverState). s.machine.map) k.starts

-- each caller's posts in the journal are all of its list
journal_whole : (m : Map) (start d : DriverState) (posts : List (List Post)) (ended : List EndedState) (closed : ClosedState) → HasEnded m start d posts ended closed → (c : ℕ)
    → of_caller c closed.journal ≡ list_of posts c
journal_whole m start d posts ended closed k c =
    let served = k.driven.served in
    let is_reached : IsReachedByMachine ended closed = reached d ended closed served.now.sound k.closes in
    let mine : (n : ℕ) → length (list_of (joined_turns closed.journal) n) ≤ length (list_of posts n) = λ n.
    let first = journal_first ended closed n is_reached in
    let own = posted_first start.callers posts ended n (posted_so m start d posts ended closed k) in
    omega (
      arith,
      ap length (joined_at closed.journal n),
      ap length first.1,
      length-append (of_caller n closed.journal) first.0,
      ap length own.1,
      length-append (list_of (map posted_by ended) n) own.0,
    ) in
    let enough : post_count posts ≤ post_count (joined_turns closed.journal) =
    omega (arith, served.enough, served.now.count, count_journal closed.journal, ap (sum_by post_count) k.closes.journal) in
    let first = journal_first ended closed c is_reached in
    let own = posted_first start.callers posts ended c (posted_so m start d posts ended closed k) in
    let as_long : length (list_of posts c) ≤ length (of_caller c closed.journal) =
    omega (arith, each_as_long (joined_turns closed.journal) posts mine enough c, ap length (joined_at closed.journal c)) in
    let posted : of_caller c closed.journal ≡ list_of (map posted_by ended) c =
    whole (of_caller c closed.journal) first.0 (list_of (map posted_by ended) c) first.1
    (omega (arith, as_long, ap length own.1, length-append (list_of (map posted_by ended) c) own.0)) in
    posted ∙ whole (list_of (map posted_by ended) c) own.0 (list_of posts c) own.1 (omega (arith, as_long, ap length posted))

pub journal_is : (m : Map) (start d : DriverState) (posts : List (List Post)) (ended : List EndedState) (closed : ClosedState) → HasEnded m start d posts ended closed
    → IsJournalOf m.callers (list_of posts) closed.journal
journal_is m start d posts ended closed k = record {
  wide = subst (λ (n : Map). HaveLists n.callers closed.journal) (on_its_map m start d posts ended closed k) k.closes.wide;
  posts = journal_whole m start d posts ended closed k;
  some = subst (All HasPost) (sym k.closes.journal) k.driven.served.now.some;
}

pub replies_are : (m : Map) (start d : DriverState) (posts : List (List Post)) (ended : List EndedState) (closed : ClosedState) → HasEnded m start d posts ended closed
    → IsOneThread m closed.journal closed.replies
replies_are m start d posts ended closed k = subst (λ (n : Map). IsOneThread n closed.journal closed.replies) (on_its_map m start d posts ended closed k) k.closes.replies

-- ---- the lanes of posts

lane_is : (lane : Closing Post) (ps : List Post) → lane.posted ≡ ps → lane.taken ≡ ps → lane ≡ all_taken ps
lane_is lane ps p t = λ i. record { posted = p i; taken = t i }

-- a caller all of whose list is in turns that are done posted its list, and all of it was taken
lane_whole : (d : DriverState) (x : EndedState) (ps rest : List Post) → x.posted ++ rest ≡ ps → PostedIsFound d x → of_caller x.id.number d.machine.done ≡ ps
    → post_lane (closed_by d x) ≡ all_taken ps
lane_whole d x ps rest first found all =
    let n : ℕ = x.id.number in
    let done : List (List (List Post)) = d.machine.done ++ running_turns d.machine.running in
    let staged : List (List (List Post)) = staged_turns d.machine.staged in
    let hand : List Post = list_of (in_hand d.machine) n in
    let taken : List Post = list_of d.machine.posted n in
    let lengths : length ps + length found.0 ≤ length x.posted =
    omega (
      arith,
      ap length all,
      ap length found.1.1,
      length-append (of_caller n (all_turns d.machine) ++ hand) found.0,
      length-append (of_caller n (all_turns d.machine)) hand,
      ap length (of_caller-append n done staged),
      length-append (of_caller n done) (of_caller n staged),
      ap length (of_caller-append n d.machine.done (running_turns d.machine.running)),
      length-append (of_caller n d.machine.done) (of_caller n (running_turns d.machine.running)),
    ) in
    let most : length x.posted + length rest ≡ length ps = omega (arith, ap length first, length-append x.posted rest) in
    let posted : x.posted ≡ ps = whole x.posted rest ps first (omega (arith, lengths)) in
    lane_is (post_lane (closed_by d x)) ps posted
    (whole taken found.0 x.posted (sym found.1.0) (omega (arith, ap length found.1.0, length-append taken found.0, lengths, most)) ∙ posted)

lanes_whole : (d : DriverState) (ids : List CallerId) (lists : List (List Post)) (n : ℕ) (ended : List EndedState) → AllPostedFirst ids lists ended → AreNumbered n (map ended_id ended)
    → All (PostedIsFound d) ended → ((c : ℕ) → of_caller (n + c) d.machine.done ≡ list_of lists c) → map post_lane (map (closed_by d) ended) ≡ map all_taken lists
lanes_whole d [] [] n [] all numbers found own = refl
lanes_whole d [] [] n (x ∷ ended) all numbers found own = absurd all
lanes_whole d [] (ps ∷ lists) n ended all numbers found own = absurd all
lanes_whole d (id ∷ ids) [] n ended all numbers found own = absurd all
lanes_whole d (id ∷ ids) (ps ∷ lists) n [] all numbers found own = absurd all
lanes_whole d (id ∷ ids) (ps ∷ lists) n (x ∷ ended) all numbers found own =
    let here : x.id.number ≡ n + 0 = omega (arith, numbers.0) in
    let one : post_lane (closed_by d x) ≡ all_taken ps =
    lane_whole d x ps all.0.rest all.0.first (All-head (PostedIsFound d) x ended found) (ap (λ (k : ℕ). of_caller k d.machine.done) here ∙ own 0) in
    let next : (c : ℕ) → of_caller ((n + 1) + c) d.machine.done ≡ list_of lists c = λ c.
    let there : (n + 1) + c ≡ n + suc c = omega arith in
    ap (λ (k : ℕ). of_caller k d.machine.done) there ∙ own (suc c) in
    ap (λ (l : Closing Post). l ∷ map post_lane (map (closed_by d) ended)) one
    ∙ ap (λ (l : List (Closing Post)). all_taken ps ∷ l)
    (lanes_whole d ids lists (n + 1) ended all.1 numbers.1 (All-tail (PostedIsFound d) x ended found) next)

pub all_posted : (m : Map) (start d : DriverState) (posts : List (List Post)) (ended : List EndedState) (closed : ClosedState) → HasEnded m start d posts ended closed
    → map post_lane closed.callers ≡ map all_taken posts
all_posted m start d posts ended closed k =
    let own : (c : ℕ) → of_caller (0 + c) d.machine.done ≡ list_of posts c = λ c.
    let here : 0 + c ≡ c = omega arith in
    ap (λ (n : ℕ). of_caller n d.machine.done) here ∙ ap (of_caller c) (sym k.closes.journal) ∙ journal_whole m start d posts ended closed k c in
    ap (map post_lane) k.closes.callers ∙ lanes_whole d start.callers posts 0 ended (posted_so m start d posts ended closed k) k.closes.numbers k.closes.posts own

-- ---- the lanes of replies

-- in each place is what was sent to the caller of its number, and past the callers there is nothing
abbrev IsSentAt : DriverState → List EndedState → ℕ → ℕ → Type 0
IsSentAt d ended c number =
    (list_of (map sent_to (map (closed_by d) ended)) c ≡ list_of d.sent number)
    ⊎ ((list_of (map sent_to (map (closed_by d) ended)) c ≡ []) × (list_of (map posted_by ended) c ≡ []))

sent_at : (d : DriverState) (n : ℕ) (ended : List EndedState) (c : ℕ) → AreNumbered n (map ended_id ended) → IsSentAt d ended c (n + c)
sent_at d n [] c numbers = inr (refl, refl)
sent_at d n (x ∷ ended) zero numbers =
    let here : x.id.number ≡ n + 0 = omega (arith, numbers.0) in
    inl (ap (list_of d.sent) here)
sent_at d n (x ∷ ended) (suc c) numbers =
    let there : (n + 1) + c ≡ n + suc c = omega arith in
    subst (IsSentAt d ended c) there (sent_at d (n + 1) ended c numbers.1)

pub all_sent : (m : Map) (start d : DriverState) (posts : List (List Post)) (ended : List EndedState) (closed : ClosedState) → HasEnded m start d posts ended closed → (c : ℕ)
    → list_of (map sent_to closed.callers) c ≡ of_caller c (replies_in closed.replies)
all_sent m start d posts ended closed k c =
    let sound : d.failed ≡ false = k.driven.served.now.sound in
    let here : 0 + c ≡ c = omega arith in
    let all : List Reply = of_caller c (replies_in closed.replies) in
    let callers : list_of (map sent_to closed.callers) c ≡ list_of (map sent_to (map (closed_by d) ended)) c =
    ap (λ (l : List ClosedCaller). list_of (map sent_to l) c) k.closes.callers in
    elim (sent_at d 0 ended c k.closes.numbers) [
      | inl e ↦ callers ∙ e ∙ ap (list_of d.sent) here ∙ sent_all d closed.replies k.closes.sent sound c ∙ append-nil all
      | inr e ↦
          let first = journal_first ended closed c (reached d ended closed sound k.closes) in
          let none : all ≡ [] = nil_from_length all (omega (
            arith,
            as_many closed.map bare closed.journal (replies_in closed.replies) c k.closes.replies.replies,
            ap length first.1,
            length-append (of_caller c closed.journal) first.0,
            ap length e.1,
          )) in
          callers ∙ e.0 ∙ sym none
    ]

-- a caller that collected as many replies as were sent to it collected those
lane_collected : (d : DriverState) (x : EndedState) → HasLeft (closed_by d x) → length (list_of d.sent x.id.number) ≤ length x.collected
    → collected_by (closed_by d x) ≡ sent_to (closed_by d x)
lane_collected d x left most =
    whole x.collected left.replies.0 (list_of d.sent x.id.number) (sym left.replies.1) most

lanes_collected : (d : DriverState) (ended : List EndedState) → All HasLeft (map (closed_by d) ended)
    → AllByRecursion (λ (x : EndedState). length (list_of d.sent x.id.number) ≤ length x.collected) ended
    → map collected_by (map (closed_by d) ended) ≡ map sent_to (map (closed_by d) ended)
lanes_collected d [] left most = refl
lanes_collected d (x ∷ ended) left most =
    let one = lane_collected d x (All-head HasLeft (closed_by d x) (map (closed_by d) ended) left) most.0 in
    let more = lanes_collected d ended (All-tail HasLeft (closed_by d x) (map (closed_by d) ended) left) most.1 in
    λ i. one i ∷ more i

pub all_collected : (m : Map) (start d : DriverState) (posts : List (List Post)) (ended : List EndedState) (closed : ClosedState) → HasEnded m start d posts ended closed → (c : ℕ)
    → list_of (map collected_by closed.callers) c ≡ of_caller c (replies_in closed.replies)
all_collected m start d posts ended closed k c =
    let callers = k.closes.callers in
    let left : All HasLeft (map (closed_by d) ended) = subst (All HasLeft) callers k.closes.left in
    let same = lanes_collected d ended left (collected d.sent k.driven.callers ended k.driven.collected) in
    ap (λ (l : List (List Reply)). list_of l c) (ap (map collected_by) callers ∙ same ∙ ap (map sent_to) (sym callers))
    ∙ all_sent m start d posts ended closed k c
