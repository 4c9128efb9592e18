-- Drivers of services that start.
use Rattle.std.proofs.Common.{◌≡◌, ℕ, zero, suc, ◌+◌, false, List, [], ◌∷◌, ◌++◌, Option, None, All, length, map, replicate, refl, sym, ap, ◌∙◌, subst, inl, arith, length-append}
use Rattle.std.proofs.lemmas.List.{map-append}
use Rattle.posts.specs.declared.posts.Post.{Post}
use Rattle.posts.specs.declared.replies.Reply.{Reply}
use Rattle.posts.specs.declared.replies.TurnReplies.{TurnReplies}
use Rattle.posts.specs.Maps.{Map}
use Rattle.posts.specs.Callers.{of_caller, list_of}
use Rattle.posts.specs.Posts.{post_count}
use Rattle.posts.proofs.PostCounts.{count_none}
use Rattle.turn_core.specs.Words.{bare}
use Rattle.turn_core.specs.Turns.{standing, replies_in, IsOneThread}
use Rattle.path_service.specs.machine.States.{opening}
use Rattle.path_service.specs.machine.Facts.{Facts}
use Rattle.path_service.proofs.machine.Keeping.{facts_at_opening}
use Rattle.path_service.proofs.machine.CallerLists.{none_at}
use Rattle.path_service.specs.declared.channels.Channel.{Channel}
use Rattle.path_service.specs.declared.runs.AnsweredRun.{AnsweredRun}
use Rattle.path_service.specs.declared.drivers.Driver.TheInside.{Inside}
use Rattle.path_service.specs.Callers.{CallerId, CallerState, fresh, AreNumbered}
use Rattle.path_service.specs.Services.{started_on}
use Rattle.path_service.specs.inner.Opening.{IsNew}
use Rattle.path_service.specs.inner.Channels.{posted_in, told_in, sent_in, ids_from, id_of, IsInRoom}
use Rattle.path_service.specs.inner.Running.{version_for_next, HoldsRunning}
use Rattle.path_service.specs.inner.Holding.{taken_before, AreLast, told_up, turn_of, run_of, machine_of, driver_of, HoldsStaged, HoldsBroken, HoldsDriver}
use Rattle.std.proofs.lemmas.List.Elements.{All-nil, All-cons, All-head, All-tail}
use Rattle.path_service.proofs.HandLists.{no_posts}

abbrev no_replies : List Reply
no_replies = []

new_posted : (channels : List Channel) → All IsNew channels → posted_in channels ≡ replicate (length channels) no_posts
new_posted [] all = refl
new_posted (p ∷ channels) all =
    ap (λ (l : List Post). l ∷ posted_in channels) (All-head IsNew p channels all).taken
    ∙ ap (λ (l : List (List Post)). no_posts ∷ l) (new_posted channels (All-tail IsNew p channels all))

new_told : (channels : List Channel) → All IsNew channels → told_in channels ≡ replicate (length channels) 0
new_told [] all = refl
new_told (p ∷ channels) all =
    ap (λ (n : ℕ). n ∷ told_in channels) (All-head IsNew p channels all).told
    ∙ ap (λ (l : List ℕ). 0 ∷ l) (new_told channels (All-tail IsNew p channels all))

new_sent : (channels : List Channel) → All IsNew channels → sent_in channels ≡ replicate (length channels) no_replies
new_sent [] all = refl
new_sent (p ∷ channels) all =
    ap (λ (l : List Reply). l ∷ sent_in channels) (All-head IsNew p channels all).sent
    ∙ ap (λ (l : List (List Reply)). no_replies ∷ l) (new_sent channels (All-tail IsNew p channels all))

new_room : (channels : List Channel) → All IsNew channels → All IsInRoom channels
new_room [] all = All-nil IsInRoom
new_room (p ∷ channels) all =
    let n : length p.posts.taken ≡ 0 = ap length (All-head IsNew p channels all).taken in
    All-cons IsInRoom p channels (omega (arith, n)) (new_room channels (All-tail IsNew p channels all))

none_before : (n : ℕ) → taken_before (replicate n no_posts) (replicate n no_posts) ≡ replicate n 0
none_before zero = refl
none_before (suc n) = ap (λ (l : List ℕ). 0 ∷ l) (none_before n)

none_last : (n : ℕ) → AreLast (replicate n no_posts) (replicate n no_posts)
none_last zero = tt
none_last (suc n) = (([], refl), none_last n)

-- what a driver is made of
pub record IsMade (a : Inside) : Type 0 where
  pub map : a.version.map ≡ a.map
  pub standing : a.version.standing ≡ bare
  pub count : length a.channels.items ≡ a.map.callers
  pub channels : All IsNew a.channels.items
  pub all_pending : a.all_pending.items ≡ replicate a.map.callers no_posts
  pub staged : a.staged ≡ None
  pub running : a.running ≡ None
  pub broken : a.broken ≡ None
  pub journal : a.journal.items ≡ []
  pub replies : a.replies.items ≡ []
  pub failed : a.failed ≡ false

-- the same, fact by fact
pub made_of : (a : Inside) → a.version.map ≡ a.map → a.version.standing ≡ bare → length a.channels.items ≡ a.map.callers → All IsNew a.channels.items → a.all_pending.items ≡ replicate a.map.callers no_posts
    → a.staged ≡ None → (a.running ≡ None) × (a.broken ≡ None) → a.journal.items ≡ [] → a.replies.items ≡ [] → a.failed ≡ false → IsMade a
made_of a map standing count channels all_pending staged runs journal replies failed = record {
  map = map;
  standing = standing;
  count = count;
  channels = channels;
  all_pending = all_pending;
  staged = staged;
  running = runs.0;
  broken = runs.1;
  journal = journal;
  replies = replies;
  failed = failed;
}

posted_is : (a : Inside) → IsMade a → posted_in a.channels.items ≡ replicate a.map.callers no_posts
posted_is a made = new_posted a.channels.items made.channels ∙ ap (λ (n : ℕ). replicate n no_posts) made.count

machine_is : (a : Inside) → IsMade a → machine_of a ≡ opening a.map
machine_is a made =
    let m : Map = a.map in
    let n : ℕ = m.callers in
    let posted : posted_in a.channels.items ≡ replicate n no_posts = posted_is a made in
    let run : run_of a.running a.broken ≡ None = ap (λ (o : Option AnsweredRun). run_of o a.broken) made.running ∙ ap (λ (o : Option (List (List Post))). run_of None o) made.broken in
    let taken : taken_before (posted_in a.channels.items) a.all_pending.items ≡ replicate n 0 =
    ap (λ (p : List (List Post)). taken_before p a.all_pending.items) posted ∙ ap (taken_before (replicate n no_posts)) made.all_pending ∙ none_before n in
    let staged : turn_of a.staged ≡ None = ap turn_of made.staged in
    let told : told_up (replicate n no_replies) a.replies.items ≡ replicate n no_replies = ap (told_up (replicate n no_replies)) made.replies in
    λ i. record {
      map = m;
      posted = posted i;
      taken = taken i;
      staged = staged i;
      running = run i;
      done = made.journal i;
      replies = told i;
      collected = replicate n 0;
    }

pub driver_is : (a : Inside) → IsMade a → driver_of a ≡ started_on a.map (ids_from 0 a.channels.items)
driver_is a made =
    let told : told_in a.channels.items ≡ replicate a.map.callers 0 = new_told a.channels.items made.channels ∙ ap (λ (n : ℕ). replicate n 0) made.count in
    let sent : sent_in a.channels.items ≡ replicate a.map.callers no_replies = new_sent a.channels.items made.channels ∙ ap (λ (n : ℕ). replicate n no_replies) made.count in
    let machine : machine_of a ≡ opening a.map = machine_is a made in
    λ i. record { machine = machine i; callers = ids_from 0 a.channels.items; told = told i; sent = sent i; failed = made.failed i }

pub driver_holds : (a : Inside) → IsMade a → HoldsDriver a
driver_holds a made =
    let n : ℕ = a.map.callers in
    let sent : sent_in a.channels.items ≡ replicate n no_replies = new_sent a.channels.items made.channels ∙ ap (λ (k : ℕ). replicate k no_replies) made.count in
    record {
      facts = subst Facts (sym (machine_is a made)) (facts_at_opening a.map);
      map = made.map;
      standing = made.standing ∙ ap (λ (j : List (List (List Post))). standing a.map bare j) (sym made.journal);
      answered = subst (λ (j : List (List (List Post))). IsOneThread a.map j a.replies.items) (sym made.journal)
          (subst (IsOneThread a.map []) (sym made.replies) (record { replies = tt; numbers = tt }));
      running = subst (HoldsRunning a.version) (sym made.running) tt;
      broken = subst (HoldsBroken a.failed) (sym made.broken) tt;
      staged = λ sound. subst (HoldsStaged (version_for_next a.version a.running)) (sym made.staged) tt;
      last = subst (λ (p : List (List Post)). AreLast p a.all_pending.items) (sym (posted_is a made))
          (subst (AreLast (replicate n no_posts)) (sym made.all_pending) (none_last n));
      few = omega (arith, ap post_count made.all_pending, count_none n);
      room = new_room a.channels.items made.channels;
      sent = record {
        more = [];
        sent = λ c. ap (λ (l : List (List Reply)). list_of l c) sent ∙ none_at Reply n c
            ∙ ap (λ (l : List TurnReplies). of_caller c (replies_in l) ++ []) (sym made.replies);
        begins = inl refl;
      };
    }

pub numbered : (n : ℕ) (channels : List Channel) → AreNumbered n (ids_from n channels)
numbered n [] = tt
numbered n (p ∷ channels) = (refl, numbered (n + 1) channels)

pub length-ids : (n : ℕ) (channels : List Channel) → length (ids_from n channels) ≡ length channels
length-ids n [] = refl
length-ids n (p ∷ channels) = ap suc (length-ids (n + 1) channels)

pub ids_more : (n : ℕ) (channels : List Channel) (p : Channel) → ids_from n (channels ++ p ∷ []) ≡ ids_from n channels ++ id_of (n + length channels) p ∷ []
ids_more n [] p = ap (λ (k : ℕ). id_of k p ∷ []) (let e : n ≡ n + 0 = omega arith in e)
ids_more n (q ∷ channels) p =
    ap (λ (l : List CallerId). id_of n q ∷ l) (ids_more (n + 1) channels p)
    ∙ ap (λ (k : ℕ). id_of n q ∷ ids_from (n + 1) channels ++ id_of k p ∷ []) (let e : (n + 1) + length channels ≡ n + suc (length channels) = omega arith in e)

pub all_end : (channels : List Channel) (p : Channel) → All IsNew channels → IsNew p → All IsNew (channels ++ p ∷ [])
all_end [] p all one = All-cons IsNew p [] one (All-nil IsNew)
all_end (q ∷ channels) p all one = All-cons IsNew q (channels ++ p ∷ []) (All-head IsNew q channels all) (all_end channels p (All-tail IsNew q channels all) one)

-- the lanes of one caller more
pub record AreOpen (number : ℕ) (open_ports : List Channel) (made : List CallerState) : Type 0 where
  pub count : length open_ports ≡ number
  pub channels : All IsNew open_ports
  pub callers : made ≡ map fresh (ids_from 0 open_ports)

pub open_none : (open_ports : List Channel) (made : List CallerState) → open_ports ≡ [] → made ≡ [] → AreOpen 0 open_ports made
open_none open_ports made none nobody = record {
  count = ap length none;
  channels = subst (All IsNew) (sym none) (All-nil IsNew);
  callers = nobody ∙ ap (λ (l : List Channel). map fresh (ids_from 0 l)) (sym none);
}

pub open_more : (number : ℕ) (channels new : List Channel) (callers more : List CallerState) (channel : Channel) (caller : CallerState) → AreOpen number channels callers → IsNew channel → caller ≡ fresh (id_of number channel)
    → new ≡ channels ++ channel ∷ [] → more ≡ callers ++ caller ∷ [] → AreOpen (number + 1) new more
open_more number channels new callers more channel caller before one own p q =
    let ids : ids_from 0 (channels ++ channel ∷ []) ≡ ids_from 0 channels ++ id_of number channel ∷ [] =
    ids_more 0 channels channel ∙ ap (λ (k : ℕ). ids_from 0 channels ++ id_of k channel ∷ []) (let e : 0 + length channels ≡ number = omega (arith, before.count) in e) in
    record {
      count = omega (arith, ap length p, length-append channels (channel ∷ []), before.count);
      channels = subst (All IsNew) (sym p) (all_end channels channel before.channels one);
      callers = q
          ∙ ap (λ (x : CallerState). callers ++ x ∷ []) own
          ∙ ap (λ (l : List CallerState). l ++ fresh (id_of number channel) ∷ []) before.callers
          ∙ sym (map-append fresh (ids_from 0 channels) (id_of number channel ∷ []))
          ∙ ap (map fresh) (sym ids)
          ∙ ap (λ (l : List Channel). map fresh (ids_from 0 l)) (sym p);
    }
