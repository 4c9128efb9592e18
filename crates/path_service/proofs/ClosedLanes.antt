-- Services whose lanes are closed.
use Rattle.std.proofs.Common.{◌≡◌, ℕ, suc, ◌+◌, List, [], ◌∷◌, ◌++◌, All, length, map, take, slice_index, refl, sym, ap, ◌∙◌, subst, arith, append-nil, append_assoc}
use Rattle.std.proofs.lemmas.List.{length-map, take-append-drop}
use Rattle.posts.specs.declared.posts.Post.{Post}
use Rattle.posts.specs.declared.replies.Reply.{Reply}
use Rattle.posts.specs.Callers.{of_caller, list_of}
use Rattle.path_service.specs.machine.States.{State}
use Rattle.path_service.specs.machine.Facts.{running_turns, staged_turns, all_turns, Facts}
use Rattle.path_service.proofs.machine.Keeping.{lists_front}
use Rattle.path_service.specs.declared.channels.Channel.{Channel}
use Rattle.path_service.specs.declared.closing.ClosedCaller.{ClosedCaller}
use Rattle.path_service.specs.declared.drivers.Driver.TheInside.{Inside}
use Rattle.path_service.specs.Callers.{CallerId, EndedState, ended_id, AreNumbered}
use Rattle.path_service.specs.Services.{DriverState, in_hand}
use Rattle.path_service.specs.Closings.{closed_by, HasLeft, PostedIsFound, IsClosedBy}
use Rattle.path_service.specs.inner.Channels.{posted_in, sent_in, ids_from, id_of}
use Rattle.path_service.specs.inner.Closing.{IsPortOf, ArePortsOf, ClosesPort, ClosePorts}
use Rattle.path_service.specs.inner.Holding.{driver_of, HoldsDriver}
use Rattle.std.proofs.lemmas.List.Elements.{All-nil, All-cons, All-head, All-tail}
use Rattle.path_service.proofs.HandLists.{past_first_at}
use Rattle.path_service.proofs.NextTurns.{wide_ports}
use Rattle.path_service.proofs.NewDrivers.{numbered, length-ids}

-- ended callers of a driver have the other ends of its lanes
pub ports_of : (n : ℕ) (channels : List Channel) (ended : List EndedState) → map ended_id ended ≡ ids_from n channels → ArePortsOf channels ended
ports_of n [] [] e = tt
ports_of n [] (x ∷ ended) e = cc
ports_of n (p ∷ channels) [] e = cc
ports_of n (p ∷ channels) (x ∷ ended) e =
    let head : x.id ≡ id_of n p = cc in
    let rest : map ended_id ended ≡ ids_from (n + 1) channels = cc in
    (record { posts = ap (λ (i : CallerId). i.posts) (sym head); replies = ap (λ (i : CallerId). i.replies) (sym head) }, ports_of (n + 1) channels ended rest)

pub all_left : (channels : List Channel) (ended : List EndedState) (closed : List ClosedCaller) → ClosePorts channels ended closed → All HasLeft closed
all_left [] [] [] are = All-nil HasLeft
all_left [] [] (c ∷ closed) are = absurd are
all_left [] (x ∷ ended) closed are = absurd are
all_left (p ∷ channels) [] closed are = absurd are
all_left (p ∷ channels) (x ∷ ended) [] are = absurd are
all_left (p ∷ channels) (x ∷ ended) (c ∷ closed) are = All-cons HasLeft c closed are.0.left (all_left channels ended closed are.1)

one_closed : (d : DriverState) (n : ℕ) (p : Channel) (x : EndedState) (c : ClosedCaller) → x.id ≡ id_of n p → list_of d.machine.posted n ≡ p.posts.taken → list_of d.sent n ≡ p.replies.posted
    → ClosesPort p x c → c ≡ closed_by d x
one_closed d n p x c id posted sent closes =
    let taken : p.posts.taken ≡ list_of d.machine.posted x.id.number = sym posted ∙ ap (λ (i : CallerId). list_of d.machine.posted i.number) (sym id) in
    let out : p.replies.posted ≡ list_of d.sent x.id.number = sym sent ∙ ap (λ (i : CallerId). list_of d.sent i.number) (sym id) in
    let posts_left : c.posts_left ≡ record { posted = x.posted; taken = list_of d.machine.posted x.id.number } = closes.posts ∙ ap (λ (l : List Post). record { posted = x.posted; taken = l }) taken in
    let replies_left : c.replies_left ≡ record { posted = list_of d.sent x.id.number; taken = x.collected } = closes.replies ∙ ap (λ (l : List Reply). record { posted = l; taken = x.collected }) out in
    λ i. record { posts_left = posts_left i; replies_left = replies_left i }

pub closed_are : (d : DriverState) (n : ℕ) (channels : List Channel) (ended : List EndedState) (closed : List ClosedCaller) → map ended_id ended ≡ ids_from n channels
    → ((k : ℕ) → list_of d.machine.posted (n + k) ≡ list_of (posted_in channels) k) → ((k : ℕ) → list_of d.sent (n + k) ≡ list_of (sent_in channels) k)
    → ClosePorts channels ended closed → closed ≡ map (closed_by d) ended
closed_are d n [] [] [] e posted sent are = refl
closed_are d n [] [] (c ∷ closed) e posted sent are = absurd are
closed_are d n [] (x ∷ ended) closed e posted sent are = absurd are
closed_are d n (p ∷ channels) [] closed e posted sent are = absurd are
closed_are d n (p ∷ channels) (x ∷ ended) [] e posted sent are = absurd are
closed_are d n (p ∷ channels) (x ∷ ended) (c ∷ closed) e posted sent are =
    let head : x.id ≡ id_of n p = cc in
    let rest : map ended_id ended ≡ ids_from (n + 1) channels = cc in
    let here : n + 0 ≡ n = omega arith in
    let next : (k : ℕ) → (n + 1) + k ≡ n + suc k = λ k. omega arith in
    let one : c ≡ closed_by d x =
    one_closed d n p x c head (ap (list_of d.machine.posted) (sym here) ∙ posted 0) (ap (list_of d.sent) (sym here) ∙ sent 0) are.0 in
    ap (λ (y : ClosedCaller). y ∷ closed) one
    ∙ ap (λ (l : List ClosedCaller). closed_by d x ∷ l)
    (closed_are d (n + 1) channels ended closed rest (λ k. ap (list_of d.machine.posted) (next k) ∙ posted (suc k)) (λ k. ap (list_of d.sent) (next k) ∙ sent (suc k)) are.1)

-- what was taken of a caller is in the turns, and then pending
found_at : (s : State) (c : ℕ) → Facts s → of_caller c (all_turns s) ++ list_of (in_hand s) c ≡ list_of s.posted c
found_at s c facts =
    ap (λ (l : List Post). l ++ list_of (in_hand s) c) (facts.posts c)
    ∙ ap (λ (l : List Post). take (slice_index s.taken c) (list_of s.posted c) ++ l) (past_first_at s.posted s.taken c)
    ∙ take-append-drop (slice_index s.taken c) (list_of s.posted c)

all_found : (d : DriverState) (ended : List EndedState) → Facts d.machine → All HasLeft (map (closed_by d) ended) → All (PostedIsFound d) ended
all_found d [] facts all = All-nil (PostedIsFound d)
all_found d (x ∷ ended) facts all =
    let c : ℕ = x.id.number in
    let first : HasLeft (closed_by d x) = All-head HasLeft (closed_by d x) (map (closed_by d) ended) all in
    let left : List Post = first.posts.0 in
    let found : x.posted ≡ of_caller c (all_turns d.machine) ++ list_of (in_hand d.machine) c ++ left =
    first.posts.1 ∙ ap (λ (l : List Post). l ++ left) (sym (found_at d.machine c facts)) in
    let one : PostedIsFound d x = (left, (first.posts.1, found)) in
    All-cons (PostedIsFound d) x ended one (all_found d ended facts (All-tail HasLeft (closed_by d x) (map (closed_by d) ended) all))

pub is_closed : (a : Inside) (ended : List EndedState) (closed : List ClosedCaller) → HoldsDriver a → map ended_id ended ≡ ids_from 0 a.channels.items → ClosePorts a.channels.items ended closed
    → IsClosedBy (driver_of a) ended (record { map = a.map; journal = a.journal.items; replies = a.replies.items; callers = closed })
is_closed a ended closed holds ids are =
    let d : DriverState = driver_of a in
    let here : (k : ℕ) → 0 + k ≡ k = λ k. omega arith in
    let callers : closed ≡ map (closed_by d) ended =
    closed_are d 0 a.channels.items ended closed ids (λ k. ap (list_of d.machine.posted) (here k)) (λ k. ap (list_of d.sent) (here k)) are in
    let left : All HasLeft closed = all_left a.channels.items ended closed are in
    let s : State = d.machine in
    let n : ℕ = a.map.callers in
    record {
      on_map = refl;
      journal = refl;
      wide = lists_front n s.done (running_turns s.running) (lists_front n (s.done ++ running_turns s.running) (staged_turns s.staged) holds.facts.wide.turns);
      replies = holds.answered;
      count = sym (length-map ended ended_id) ∙ ap length ids ∙ length-ids 0 a.channels.items ∙ wide_ports a holds;
      numbers = subst (AreNumbered 0) (sym ids) (numbered 0 a.channels.items);
      callers = callers;
      left = left;
      posts = all_found d ended holds.facts (subst (All HasLeft) callers left);
      sent = holds.sent;
    }

-- what is known while the callers are closed one by one: of all channels and ended callers these are left, and those before
-- them are closed
pub record Closes (all : List Channel) (ended : List EndedState) (channels : List Channel) (callers : List EndedState) (closed : List ClosedCaller) : Type 0 where
  pub lanes : ArePortsOf channels callers
  pub same : (more : List ClosedCaller) → ClosePorts channels callers more → ClosePorts all ended (closed ++ more)

pub closes_none : (all channels : List Channel) (ended callers : List EndedState) (closed : List ClosedCaller) → channels ≡ all → callers ≡ ended → closed ≡ [] → ArePortsOf all ended → Closes all ended channels callers closed
closes_none all channels ended callers closed d e f lanes = record {
  lanes = subst (λ (l : List Channel). ArePortsOf l callers) (sym d) (subst (ArePortsOf all) (sym e) lanes);
  same = λ more are.
      let whole : ClosePorts all ended more = subst (λ (l : List Channel). ClosePorts l ended more) d (subst (λ (l : List EndedState). ClosePorts channels l more) e are) in
      subst (λ (l : List ClosedCaller). ClosePorts all ended (l ++ more)) (sym f) whole;
}

-- the next channel and the next caller have the same lanes
pub closes_port : (all : List Channel) (ended : List EndedState) (channels : List Channel) (callers : List EndedState) (closed : List ClosedCaller) (p : Channel) (x : EndedState) (ps : List Channel) (xs : List EndedState)
    → Closes all ended channels callers closed → channels ≡ p ∷ ps → callers ≡ x ∷ xs → IsPortOf p x
closes_port all ended channels callers closed p x ps xs k e f =
    let lanes : ArePortsOf (p ∷ ps) (x ∷ xs) = subst (λ (l : List Channel). ArePortsOf l (x ∷ xs)) e (subst (ArePortsOf channels) f k.lanes) in
    lanes.0

-- there is a caller for each channel
pub closes_short : (all : List Channel) (ended : List EndedState) (channels : List Channel) (callers : List EndedState) (closed : List ClosedCaller) (p : Channel) (ps : List Channel)
    → Closes all ended channels callers closed → channels ≡ p ∷ ps → callers ≡ [] → ⊥
closes_short all ended channels callers closed p ps k e f = subst (λ (l : List Channel). ArePortsOf l []) e (subst (ArePortsOf channels) f k.lanes)

pub closes_more : (all : List Channel) (ended : List EndedState) (channels : List Channel) (callers : List EndedState) (closed new : List ClosedCaller) (p : Channel) (x : EndedState) (c : ClosedCaller) (ps : List Channel) (xs : List EndedState)
    → Closes all ended channels callers closed → channels ≡ p ∷ ps → callers ≡ x ∷ xs → ClosesPort p x c → new ≡ closed ++ c ∷ [] → Closes all ended ps xs new
closes_more all ended channels callers closed new p x c ps xs k e f one is =
    let lanes : ArePortsOf (p ∷ ps) (x ∷ xs) = subst (λ (l : List Channel). ArePortsOf l (x ∷ xs)) e (subst (ArePortsOf channels) f k.lanes) in
    record {
      lanes = lanes.1;
      same = λ more are.
          let both : ClosePorts channels callers (c ∷ more) =
          subst (λ (l : List Channel). ClosePorts l callers (c ∷ more)) (sym e) (subst (λ (l : List EndedState). ClosePorts (p ∷ ps) l (c ∷ more)) (sym f) (one, are)) in
          subst (ClosePorts all ended) (sym (ap (λ (l : List ClosedCaller). l ++ more) is ∙ append_assoc closed (c ∷ []) more)) (k.same (c ∷ more) both);
    }

none_left : (callers : List EndedState) → ArePortsOf [] callers → ClosePorts [] callers []
none_left [] lanes = tt
none_left (x ∷ callers) lanes = absurd lanes

pub closes_all : (all : List Channel) (ended : List EndedState) (channels : List Channel) (callers : List EndedState) (closed : List ClosedCaller) → Closes all ended channels callers closed → channels ≡ []
    → ClosePorts all ended closed
closes_all all ended channels callers closed k e =
    let lanes : ArePortsOf [] callers = subst (λ (l : List Channel). ArePortsOf l callers) e k.lanes in
    let last : ClosePorts channels callers [] = subst (λ (l : List Channel). ClosePorts l callers []) (sym e) (none_left callers lanes) in
    subst (ClosePorts all ended) (append-nil closed) (k.same [] last)
