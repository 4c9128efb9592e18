-- Channels that hear notices and give them.
use Rattle.std.proofs.Common.{◌≡◌, ℕ, zero, suc, ◌+◌, ◌<◌, max, List, [], ◌∷◌, Some, All, length, map, set, slice_index, refl, sym, ap, ◌∙◌, subst, arith}
use Rattle.std.specs.Prelude.{slice_get}
use Rattle.std.specs.Vec.{with_item}
use Rattle.posts.specs.declared.posts.Post.{Post}
use Rattle.posts.specs.declared.replies.Reply.{Reply}
use Rattle.posts.specs.Callers.{list_of}
use Rattle.request_lanes.specs.Ends.{LaneId, Posting}
use Rattle.path_service.specs.declared.channels.Channel.{Channel}
use Rattle.path_service.specs.Callers.{CallerId, HasPostLane, HasReplyLane}
use Rattle.path_service.specs.inner.Channels.{posted_in, told_in, sent_in, ids_from, id_of, IsInRoom}
use Rattle.path_service.specs.machine.Facts.{Facts}
use Rattle.path_service.specs.declared.drivers.Driver.TheInside.{Inside}
use Rattle.path_service.specs.Services.{DriverState, told_of}
use Rattle.path_service.specs.inner.Holding.{AreLast, turn_of, run_of, state_with, machine_of, driver_of, HoldsDriver}
use Rattle.std.proofs.lemmas.List.Elements.{All-cons, All-head, All-tail}
use Rattle.path_service.proofs.NewDrivers.{length-ids}
use Rattle.path_service.proofs.Deliveries.{sent_at}

-- an item written over itself
pub set_own : (channels : List Channel) (c : ℕ) (p : Channel) → slice_get channels c ≡ Some p → set channels c p ≡ channels
set_own [] c p is = refl
set_own (q ∷ channels) zero p is =
    let same : q ≡ p = cc in
    ap (λ (r : Channel). r ∷ channels) (sym same)
set_own (q ∷ channels) (suc c) p is = ap (λ (l : List Channel). q ∷ l) (set_own channels c p is)

-- what stays of each channel where one is written over
pub map_set : {B : Type 0} (f : Channel → B) (channels : List Channel) (c : ℕ) (p q : Channel) → slice_get channels c ≡ Some p → f q ≡ f p → map f (set channels c q) ≡ map f channels
map_set f [] c p q is same = refl
map_set f (r ∷ channels) zero p q is same =
    let own : r ≡ p = cc in
    ap (λ (x : _). x ∷ map f channels) (same ∙ ap f (sym own))
map_set f (r ∷ channels) (suc c) p q is same = ap (λ (l : List _). f r ∷ l) (map_set f channels c p q is same)

pub told_set : (channels : List Channel) (c : ℕ) (q : Channel) → told_in (set channels c q) ≡ set (told_in channels) c q.posts.told
told_set [] c q = refl
told_set (r ∷ channels) zero q = refl
told_set (r ∷ channels) (suc c) q = ap (λ (l : List ℕ). r.posts.told ∷ l) (told_set channels c q)

pub told_at : (channels : List Channel) (c : ℕ) (p : Channel) → slice_get channels c ≡ Some p → slice_index (told_in channels) c ≡ p.posts.told
told_at [] zero p is = cc
told_at [] (suc c) p is = cc
told_at (r ∷ channels) zero p is =
    let same : r ≡ p = cc in
    ap (λ (x : Channel). x.posts.told) same
told_at (r ∷ channels) (suc c) p is = told_at channels c p is

pub ids_set : (n : ℕ) (channels : List Channel) (c : ℕ) (p q : Channel) → slice_get channels c ≡ Some p → q.posts.lane ≡ p.posts.lane → q.replies.lane ≡ p.replies.lane
    → ids_from n (set channels c q) ≡ ids_from n channels
ids_set n [] c p q is posts replies = refl
ids_set n (r ∷ channels) zero p q is posts replies =
    let own : r ≡ p = cc in
    let one : id_of n q ≡ id_of n p = λ i. record { number = n; posts = posts i; replies = replies i } in
    ap (λ (x : CallerId). x ∷ ids_from (n + 1) channels) (one ∙ ap (id_of n) (sym own))
ids_set n (r ∷ channels) (suc c) p q is posts replies = ap (λ (l : List CallerId). id_of n r ∷ l) (ids_set (n + 1) channels c p q is posts replies)

pub room_set : (channels : List Channel) (c : ℕ) (p q : Channel) → slice_get channels c ≡ Some p → q.posts.taken ≡ p.posts.taken → All IsInRoom channels → All IsInRoom (set channels c q)
room_set [] c p q is same all = all
room_set (r ∷ channels) zero p q is same all =
    let own : r ≡ p = cc in
    let taken : q.posts.taken ≡ r.posts.taken = same ∙ ap (λ (x : Channel). x.posts.taken) (sym own) in
    let was : IsInRoom r = All-head IsInRoom r channels all in
    All-cons IsInRoom q channels (omega (arith, was, ap length taken)) (All-tail IsInRoom r channels all)
room_set (r ∷ channels) (suc c) p q is same all =
    All-cons IsInRoom r (set channels c q) (All-head IsInRoom r channels all) (room_set channels c p q is same (All-tail IsInRoom r channels all))

-- the channel of a caller with this lane
pub port_with : (n : ℕ) (channels : List Channel) (c : ℕ) (id : CallerId) → slice_get (ids_from n channels) c ≡ Some id → (channel : Channel) × ((slice_get channels c ≡ Some channel) × (id_of (n + c) channel ≡ id))
port_with n [] zero id is = cc
port_with n [] (suc c) id is = cc
port_with n (p ∷ channels) zero id is =
    let same : id_of n p ≡ id = cc in
    let here : n + 0 ≡ n = omega arith in
    (p, (refl, ap (λ (k : ℕ). id_of k p) here ∙ same))
port_with n (p ∷ channels) (suc c) id is =
    let rest = port_with (n + 1) channels c id is in
    let next : n + suc c ≡ (n + 1) + c = omega arith in
    (rest.0, (rest.1.0, ap (λ (k : ℕ). id_of k rest.0) next ∙ rest.1.1))

pub id_at : (n : ℕ) (channels : List Channel) (c : ℕ) (channel : Channel) → slice_get channels c ≡ Some channel → slice_get (ids_from n channels) c ≡ Some (id_of (n + c) channel)
id_at n [] zero channel is = cc
id_at n [] (suc c) channel is = cc
id_at n (p ∷ channels) zero channel is =
    let same : p ≡ channel = cc in
    let here : n ≡ n + 0 = omega arith in
    ap (λ (q : Channel). Some (id_of n q)) same ∙ ap (λ (k : ℕ). Some (id_of k channel)) here
id_at n (p ∷ channels) (suc c) channel is =
    let next : (n + 1) + c ≡ n + suc c = omega arith in
    id_at (n + 1) channels c channel is ∙ ap (λ (k : ℕ). Some (id_of k channel)) next

pub place_within : (channels : List Channel) (c : ℕ) (channel : Channel) → slice_get channels c ≡ Some channel → c < length channels
place_within [] zero channel is = cc
place_within [] (suc c) channel is = cc
place_within (p ∷ channels) zero channel is = omega arith
place_within (p ∷ channels) (suc c) channel is = omega (arith, place_within channels c channel is)

-- the channel now has the same lanes, and the same went over them
pub record IsSamePort (channel now : Channel) : Type 0 where
  pub lane : now.posts.lane ≡ channel.posts.lane
  pub taken : now.posts.taken ≡ channel.posts.taken
  pub replies : now.replies ≡ channel.replies

-- a driver of which one channel is another
pub record IsSameBut (a b : Inside) (c : ℕ) (channel now : Channel) : Type 0 where
  pub rest : b ≡ record a { channels = b.channels }
  pub channels : b.channels.items ≡ set a.channels.items c now
  pub at : slice_get a.channels.items c ≡ Some channel
  pub same : IsSamePort channel now

-- the driver with another channel at a place
abbrev pub with_port : Inside → ℕ → Channel → Inside
with_port a c now = record a { channels = with_item a.channels c now }

-- where that channel is the same, the driver is another in this alone
pub same_but : (a : Inside) (c : ℕ) (channel now : Channel) → slice_get a.channels.items c ≡ Some channel → IsSamePort channel now → IsSameBut a (with_port a c now) c channel now
same_but a c channel now at same = record { rest = refl; channels = refl; at = at; same = same }

same_posted : (a b : Inside) (c : ℕ) (channel now : Channel) → IsSameBut a b c channel now → posted_in b.channels.items ≡ posted_in a.channels.items
same_posted a b c channel now k = ap posted_in k.channels ∙ map_set (λ (p : Channel). p.posts.taken) a.channels.items c channel now k.at k.same.taken

same_sent : (a b : Inside) (c : ℕ) (channel now : Channel) → IsSameBut a b c channel now → sent_in b.channels.items ≡ sent_in a.channels.items
same_sent a b c channel now k =
    ap sent_in k.channels ∙ map_set (λ (p : Channel). p.replies.posted) a.channels.items c channel now k.at (ap (λ (r : Posting Reply). r.posted) k.same.replies)

same_machine : (a b : Inside) (c : ℕ) (channel now : Channel) → IsSameBut a b c channel now → machine_of (record a { channels = b.channels }) ≡ machine_of a
same_machine a b c channel now k =
    ap (λ (p : List (List Post)). state_with a.map p a.all_pending.items (turn_of a.staged) (run_of a.running a.broken) a.journal.items a.replies.items) (same_posted a b c channel now k)

pub same_holds : (a b : Inside) (c : ℕ) (channel now : Channel) → HoldsDriver a → IsSameBut a b c channel now → HoldsDriver b
same_holds a b c channel now holds k =
    let d : Inside = record a { channels = b.channels } in
    let held : HoldsDriver d = record {
      facts = subst Facts (sym (same_machine a b c channel now k)) holds.facts;
      map = holds.map;
      standing = holds.standing;
      answered = holds.answered;
      running = holds.running;
      broken = holds.broken;
      staged = holds.staged;
      last = subst (λ (p : List (List Post)). AreLast p a.all_pending.items) (sym (same_posted a b c channel now k)) holds.last;
      few = holds.few;
      room = subst (All IsInRoom) (sym k.channels) (room_set a.channels.items c channel now k.at k.same.taken holds.room);
      sent = record {
        more = holds.sent.more;
        sent = λ n. ap (λ (l : List (List Reply)). list_of l n) (same_sent a b c channel now k) ∙ holds.sent.sent n;
        begins = holds.sent.begins;
      };
    } in
    subst HoldsDriver (sym k.rest) held

-- a driver that has heard of so many posts
pub heard_is : (a b : Inside) (c : ℕ) (channel now : Channel) (count : ℕ) → IsSameBut a b c channel now → now.posts.told ≡ max channel.posts.told count → driver_of b ≡ told_of (driver_of a) c count
heard_is a b c channel now count k heard =
    let machine : machine_of (record a { channels = b.channels }) ≡ machine_of a = same_machine a b c channel now k in
    let ids : ids_from 0 b.channels.items ≡ ids_from 0 a.channels.items =
    ap (ids_from 0) k.channels ∙ ids_set 0 a.channels.items c channel now k.at k.same.lane (ap (λ (r : Posting Reply). r.lane) k.same.replies) in
    let told : told_in b.channels.items ≡ set (told_in a.channels.items) c (max (slice_index (told_in a.channels.items) c) count) =
    ap told_in k.channels ∙ told_set a.channels.items c now
    ∙ ap (set (told_in a.channels.items) c) (heard ∙ ap (λ (n : ℕ). max n count) (sym (told_at a.channels.items c channel k.at))) in
    let sent : sent_in b.channels.items ≡ sent_in a.channels.items = same_sent a b c channel now k in
    ap driver_of k.rest ∙ (λ i. record { machine = machine i; callers = ids i; told = told i; sent = sent i; failed = a.failed })

-- a driver that gives a notice is as it was
pub notice_is : (a b : Inside) (c : ℕ) (channel now : Channel) → IsSameBut a b c channel now → now ≡ channel → driver_of b ≡ driver_of a
notice_is a b c channel now k own =
    let machine : machine_of (record a { channels = b.channels }) ≡ machine_of a = same_machine a b c channel now k in
    let channels : b.channels.items ≡ a.channels.items = k.channels ∙ ap (set a.channels.items c) own ∙ set_own a.channels.items c channel k.at in
    ap driver_of k.rest
    ∙ (λ i. record { machine = machine i; callers = ids_from 0 (channels i); told = told_in (channels i); sent = sent_in (channels i); failed = a.failed })

-- the channel at a place of whose callers the lane of posts is known
pub hears_port : (a : Inside) (d : DriverState) (c : ℕ) (lane : LaneId) → driver_of a ≡ d → HasPostLane d.callers c lane
    → (channel : Channel) × ((slice_get a.channels.items c ≡ Some channel) × (channel.posts.lane ≡ lane))
hears_port a d c lane view has =
    let own : HasPostLane (ids_from 0 a.channels.items) c lane = subst (λ (e : DriverState). HasPostLane e.callers c lane) (sym view) has in
    let p = port_with 0 a.channels.items c own.0 own.1.0 in
    (p.0, (p.1.0, ap (λ (i : CallerId). i.posts) p.1.1 ∙ own.1.1))

-- there is one channel at a place
pub same_port : (channels : List Channel) (c : ℕ) (p q : Channel) → slice_get channels c ≡ Some p → slice_get channels c ≡ Some q → p ≡ q
same_port channels c p q e f =
    let both : Some p ≡ Some q = sym e ∙ f in
    let same : p ≡ q = cc in
    same

-- there is a channel for each caller
pub port_within : (a : Inside) (d : DriverState) (c : ℕ) → driver_of a ≡ d → c < length d.callers → c < length a.channels.items
port_within a d c view less =
    let within : c < length (ids_from 0 a.channels.items) = subst (λ (e : DriverState). c < length e.callers) (sym view) less in
    omega (arith, within, length-ids 0 a.channels.items)

-- the lane of replies of the channel at a place
pub reply_lane_at : (a : Inside) (d : DriverState) (c k : ℕ) (channel : Channel) (lane : LaneId) → driver_of a ≡ d → k ≡ c → slice_get a.channels.items k ≡ Some channel → lane ≡ channel.replies.lane
    → HasReplyLane d.callers c lane
reply_lane_at a d c k channel lane view is at own =
    let here : slice_get a.channels.items c ≡ Some channel = ap (slice_get a.channels.items) (sym is) ∙ at in
    subst (λ (e : DriverState). HasReplyLane e.callers c lane) view (id_of (0 + c) channel, (id_at 0 a.channels.items c channel here, sym own))

-- how many replies were sent on the channel at a place
pub sent_count_at : (a : Inside) (d : DriverState) (c k : ℕ) (channel : Channel) → driver_of a ≡ d → k ≡ c → slice_get a.channels.items k ≡ Some channel
    → length channel.replies.posted ≡ length (list_of d.sent c)
sent_count_at a d c k channel view is at =
    let here : slice_get a.channels.items c ≡ Some channel = ap (slice_get a.channels.items) (sym is) ∙ at in
    ap length (sent_at a.channels.items c channel here) ∙ ap (λ (e : DriverState). length (list_of e.sent c)) view
